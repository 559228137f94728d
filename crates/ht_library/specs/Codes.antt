-- What the numbers mean that C passes for coded bits.
use Rattle.std.specs.Prelude.{◌≡◌, ℕ, ◌≤◌, ◌==◌, if◌then◌else◌, Bool, true, false, Option, Some, None}
use Rattle.ht_rate.specs.declared.kinds.Pattern.{Pattern}
use Rattle.ht_rate.specs.declared.kinds.Pattern.TheVariants.{Half, TwoThirds, ThreeQuarters, FiveSixths}
use Rattle.ht_conv.specs.Puncturing.{sent_count}

-- the puncturing pattern of a number: 0 to 3 for the coding rates 1/2, 2/3, 3/4 and 5/6
abbrev pub pattern_at : ℕ → Pattern
pattern_at number = if number == 0 then Half else (if number == 1 then TwoThirds else (if number == 2 then ThreeQuarters else FiveSixths))

-- what an octet says of a coded bit: 0 and 1 are decisions, and any other is an erased place
abbrev pub known_at : ℕ → Option Bool
known_at octet = if octet == 0 then Some false else (if octet == 1 then Some true else None)

-- A codeword of this many steps, tail included, is sent as this many bits.
pub record IsCodeword (pattern : Pattern) (steps places : ℕ) : Type 0 where
  pub least : 6 ≤ steps
  pub most : steps ≤ 524302
  pub sent : places ≡ sent_count pattern steps
