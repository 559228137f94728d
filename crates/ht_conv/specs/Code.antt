-- The convolutional code of constraint length 7 and its punctured output (clauses 18.3.5.6 and 20.3.11.6).
use Rattle.std.specs.Prelude.{ℕ, ◌-◌, List, [], ◌∷◌, length, map, Bool, false, slice_index_or, nat_le, if◌then◌else◌}
use Rattle.std.specs.Bool.{xor}
use Rattle.std.specs.List.{flat_map, range_with_len}
use Rattle.ht_rate.specs.declared.kinds.Pattern.{Pattern}
use Rattle.ht_conv.specs.Puncturing.{kept_of, kept_bits}

-- the delays that the first generator taps: 133 in octal
abbrev pub taps_a : List ℕ
taps_a = 0 ∷ 2 ∷ 3 ∷ 5 ∷ 6 ∷ []

-- the delays that the second generator taps: 171 in octal
abbrev pub taps_b : List ℕ
taps_b = 0 ∷ 1 ∷ 2 ∷ 3 ∷ 6 ∷ []

-- the sum of bits modulo 2
abbrev pub parity : List Bool → Bool
parity [] = false
parity (bit ∷ bits) = xor bit (parity bits)

-- the input bit that came `delay` steps before a step, and 0 before the start
abbrev pub delayed_bit : List Bool → ℕ → ℕ → Bool
delayed_bit input step delay = if nat_le delay step then slice_index_or input (step - delay) false else false

-- a generator's bit at a step: the sum of the bits that it taps
abbrev pub coded_bit : List ℕ → List Bool → ℕ → Bool
coded_bit taps input step = parity (map (delayed_bit input step) taps)

-- what is kept of a step's two coded bits, A before B
abbrev pub sent_at : Pattern → List Bool → ℕ → List Bool
sent_at pattern input step = kept_bits (kept_of pattern step) (coded_bit taps_a input step) (coded_bit taps_b input step)

-- the coded bits of all steps of an input in order, at the places that the pattern keeps
abbrev pub sent_bits : Pattern → List Bool → List Bool
sent_bits pattern input = flat_map (sent_at pattern input) (range_with_len 0 (length input))
