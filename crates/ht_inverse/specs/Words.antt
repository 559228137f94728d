-- The inputs of a frame's encoders in words, and the bits that they have together.
use Rattle.std.specs.Prelude.{◌≡◌, ℕ, ◌+◌, ◌*◌, ◌/◌, ◌%◌, ◌<◌, ◌≤◌, List, [], ◌∷◌, length, map, Bool, true, false, ◌==◌, if◌then◌else◌}
use Rattle.std.specs.List.{range_with_len}
use Rattle.ht_rate.specs.declared.kinds.Pattern.{Pattern}
use Rattle.ht_rate.specs.declared.rates.Rate.{Rate}
use Rattle.ht_rate.specs.Rates.{pattern_of}
use Rattle.ht_scramble.specs.Sequence.{sequence}
use Rattle.ht_viterbi.specs.declared.codeword.Codeword.{Codeword}
use Rattle.ht_viterbi.specs.Packed.{flag, word_steps}
use Rattle.ht_clean.specs.declared.input.PackedInput.{PackedInput}
use Rattle.ht_clean.specs.Sparse.{input_bit, unpacked}

-- the codeword whose input stands in words
abbrev pub opened : Pattern → ℕ → PackedInput → Codeword
opened pattern steps p = record { input = unpacked pattern p.words.items steps; distance = p.distance }

-- words hold an input of this number of steps
abbrev pub HasSteps : Rate → ℕ → PackedInput → Type 0
HasSteps r steps p = steps ≤ word_steps (pattern_of r) * length p.words.items

-- bit t of the input of one encoder, or of those of two in turns
abbrev pub word_bit : Pattern → Bool → List ℕ → List ℕ → ℕ → Bool
word_bit pattern false first second t = input_bit pattern first t
word_bit pattern true first second t = input_bit pattern (if t % 2 == 0 then first else second) (t / 2)

-- the first of them
unfoldable pub word_bits : Pattern → Bool → List ℕ → List ℕ → ℕ → List Bool
word_bits pattern two first second count = map (word_bit pattern two first second) (range_with_len 0 count)

-- the words hold SERVICE and this number of octets, or each its half of them
abbrev pub Hold : Pattern → Bool → List ℕ → List ℕ → ℕ → Type 0
Hold pattern false first second octets = 16 + 8 * octets ≤ word_steps pattern * length first
Hold pattern true first second octets =
    (12 + 4 * octets ≤ word_steps pattern * length first) × (12 + 4 * octets ≤ word_steps pattern * length second)

-- an octet has eight bits of the scrambling sequence from bit t on
abbrev pub HasSequence : ℕ → ℕ → ℕ → Type 0
HasSequence seed t octet = (k : ℕ) → k < 8 → flag octet k ≡ sequence seed (t + k)

-- the first seven bits of an octet
abbrev pub first_bits : ℕ → List Bool
first_bits octet = flag octet 0 ∷ flag octet 1 ∷ flag octet 2 ∷ flag octet 3 ∷ flag octet 4 ∷ flag octet 5 ∷ flag octet 6 ∷ []
