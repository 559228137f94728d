-- Wrong places that lie so far apart that no other input is as near: a bucket into which each of them pours, and which
-- leaks at each step, never comes to its brim.
use Rattle.std.specs.Prelude.{◌≡◌, ℕ, zero, suc, ◌+◌, ◌-◌, ◌*◌, ◌/◌, ◌%◌, ◌<◌, List, map, slice_index_or, Bool, Option, None}
use Rattle.std.specs.List.{range_with_len}
use Rattle.ht_rate.specs.declared.kinds.Pattern.{Pattern}
use Rattle.ht_rate.specs.declared.kinds.Pattern.TheVariants.{Half, TwoThirds, ThreeQuarters, FiveSixths}
use Rattle.ht_conv.specs.declared.puncture.Kept.{Kept}
use Rattle.ht_conv.specs.declared.puncture.Kept.TheVariants.{Both, A, B}
use Rattle.ht_conv.specs.Code.{coded_bit, taps_a, taps_b}
use Rattle.ht_conv.specs.Puncturing.{kept_of, sent_count}
use Rattle.ht_viterbi.specs.Inputs.{place_cost}
use Rattle.ht_viterbi.specs.Packed.{flag, word_steps}

-- how many places of a step, which begin at `start`, are wrong, where the step's coded bits are `a` and `b`
abbrev pub wrong_of : Kept → List (Option Bool) → ℕ → Bool → Bool → ℕ
wrong_of Both received start a b =
    place_cost (slice_index_or received start None) a + place_cost (slice_index_or received (start + 1) None) b
wrong_of A received start a b = place_cost (slice_index_or received start None) a
wrong_of B received start a b = place_cost (slice_index_or received start None) b

-- how many places of a step differ from what an input sends
unfoldable pub wrong_at : Pattern → List (Option Bool) → List Bool → ℕ → ℕ
wrong_at pattern received input step =
    wrong_of (kept_of pattern step) received (sent_count pattern step) (coded_bit taps_a input step) (coded_bit taps_b input step)

-- and of the steps before it
abbrev pub wrong_before : Pattern → List (Option Bool) → List Bool → ℕ → ℕ
wrong_before pattern received input zero = 0
wrong_before pattern received input (suc step) = wrong_before pattern received input step + wrong_at pattern received input step

-- what a wrong place pours into the bucket, twice what a place counts for by which two codewords differ
abbrev pub pour : ℕ
pour = 480

-- what leaks out of the bucket at a step
abbrev pub leak : Pattern → ℕ
leak Half = 73
leak TwoThirds = 32
leak ThreeQuarters = 21
leak FiveSixths = 10

-- where the bucket is full
abbrev pub brim : Pattern → ℕ
brim Half = 1201
brim TwoThirds = 1120
brim ThreeQuarters = 651
brim FiveSixths = 660

-- how full the bucket is before a step
abbrev pub level_at : Pattern → List (Option Bool) → List Bool → ℕ → ℕ
level_at pattern received input zero = 0
level_at pattern received input (suc step) =
    level_at pattern received input step + pour * wrong_at pattern received input step - leak pattern

-- at none of the first steps the bucket comes to its brim
abbrev pub IsSparse : Pattern → List (Option Bool) → List Bool → ℕ → Type 0
IsSparse pattern received input steps =
    (step : ℕ) → step < steps → level_at pattern received input step + pour * wrong_at pattern received input step < brim pattern

-- an input's bits in words: the steps of a word in each, the first one lowest
abbrev pub input_bit : Pattern → List ℕ → ℕ → Bool
input_bit pattern words step = flag (slice_index_or words (step / word_steps pattern) 0) (step % word_steps pattern)

-- the first of them
unfoldable pub unpacked : Pattern → List ℕ → ℕ → List Bool
unpacked pattern words steps = map (input_bit pattern words) (range_with_len 0 steps)

-- how full the bucket is before a step, and how many places were wrong so far, where it has never come to its brim
pub record IsPoured (pattern : Pattern) (received : List (Option Bool)) (input : List Bool) (steps full count : ℕ) : Type 0 where
  pub sparse : IsSparse pattern received input steps
  pub level : full ≡ level_at pattern received input steps
  pub wrong : count ≡ wrong_before pattern received input steps
