-- Which coded bits of each step are kept (clauses 18.3.5.6 and 20.3.11.6).
use Rattle.std.specs.Prelude.{ℕ, zero, suc, ◌+◌, ◌%◌, List, [], ◌∷◌, length, slice_index_or, Bool}
use Rattle.ht_rate.specs.declared.kinds.Pattern.{Pattern}
use Rattle.ht_rate.specs.declared.kinds.Pattern.TheVariants.{Half, TwoThirds, ThreeQuarters, FiveSixths}
use Rattle.ht_conv.specs.declared.puncture.Kept.{Kept}
use Rattle.ht_conv.specs.declared.puncture.Kept.TheVariants.{Both, A, B}

-- what is kept of each step of one period
abbrev pub period_of : Pattern → List Kept
period_of Half = Both ∷ []
period_of TwoThirds = Both ∷ A ∷ []
period_of ThreeQuarters = Both ∷ A ∷ B ∷ []
period_of FiveSixths = Both ∷ A ∷ B ∷ A ∷ B ∷ []

-- what is kept of a step: the pattern repeats
abbrev pub kept_of : Pattern → ℕ → Kept
kept_of pattern step = slice_index_or (period_of pattern) (step % length (period_of pattern)) Both

-- the number of these bits
abbrev pub kept_count : Kept → ℕ
kept_count Both = 2
kept_count A = 1
kept_count B = 1

-- the number of bits that are kept of the first steps
abbrev pub sent_count : Pattern → ℕ → ℕ
sent_count pattern zero = 0
sent_count pattern (suc steps) = sent_count pattern steps + kept_count (kept_of pattern steps)

-- those of the two coded bits of a step that are kept
abbrev pub kept_bits : Kept → Bool → Bool → List Bool
kept_bits Both a b = a ∷ b ∷ []
kept_bits A a b = a ∷ []
kept_bits B a b = b ∷ []
