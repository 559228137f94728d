-- The number of bits that are kept: one of each step, and one more of each step that begins a period.
use Rattle.std.proofs.Common.{◌≡◌, ℕ, zero, suc, ◌+◌, ◌-◌, ◌%◌, ◌<◌, min, length, slice_index_or, refl, ap, sym, ◌∙◌, arith}
use Rattle.std.specs.Int.{div_ceil}
use Rattle.ht_rate.specs.declared.kinds.Pattern.{Pattern}
use Rattle.ht_rate.specs.declared.kinds.Pattern.TheVariants.{Half, TwoThirds, ThreeQuarters, FiveSixths}
use Rattle.ht_conv.specs.declared.puncture.Kept.TheVariants.{Both}
use Rattle.ht_conv.specs.Puncturing.{period_of, kept_of, kept_count, sent_count}

-- both bits are kept of the first step of a period, and one bit of each other
kept-at : (pattern : Pattern) (k : ℕ) → k < length (period_of pattern) → kept_count (slice_index_or (period_of pattern) k Both) ≡ 2 - min 1 k
kept-at Half zero lt = refl
kept-at Half (suc k) lt = absurd (omega arith)
kept-at TwoThirds zero lt = refl
kept-at TwoThirds (suc zero) lt = refl
kept-at TwoThirds (suc (suc k)) lt = absurd (omega arith)
kept-at ThreeQuarters zero lt = refl
kept-at ThreeQuarters (suc zero) lt = refl
kept-at ThreeQuarters (suc (suc zero)) lt = refl
kept-at ThreeQuarters (suc (suc (suc k))) lt = absurd (omega arith)
kept-at FiveSixths zero lt = refl
kept-at FiveSixths (suc zero) lt = refl
kept-at FiveSixths (suc (suc zero)) lt = refl
kept-at FiveSixths (suc (suc (suc zero))) lt = refl
kept-at FiveSixths (suc (suc (suc (suc zero)))) lt = refl
kept-at FiveSixths (suc (suc (suc (suc (suc k))))) lt = absurd (omega arith)

kept-step : (pattern : Pattern) (step : ℕ) → kept_count (kept_of pattern step) ≡ 2 - min 1 (step % length (period_of pattern))
kept-step Half step = kept-at Half (step % 1) (omega arith)
kept-step TwoThirds step = kept-at TwoThirds (step % 2) (omega arith)
kept-step ThreeQuarters step = kept-at ThreeQuarters (step % 3) (omega arith)
kept-step FiveSixths step = kept-at FiveSixths (step % 5) (omega arith)

ceil-step : (pattern : Pattern) (steps : ℕ)
    → suc steps + div_ceil (suc steps) (length (period_of pattern))
    ≡ steps + div_ceil steps (length (period_of pattern)) + (2 - min 1 (steps % length (period_of pattern)))
ceil-step Half steps = omega arith
ceil-step TwoThirds steps = omega arith
ceil-step ThreeQuarters steps = omega arith
ceil-step FiveSixths steps = omega arith

ceil-none : (pattern : Pattern) → div_ceil 0 (length (period_of pattern)) ≡ 0
ceil-none Half = refl
ceil-none TwoThirds = refl
ceil-none ThreeQuarters = refl
ceil-none FiveSixths = refl

pub sent_count-ceil : (pattern : Pattern) (steps : ℕ) → steps + div_ceil steps (length (period_of pattern)) ≡ sent_count pattern steps
sent_count-ceil pattern zero = omega (arith, ceil-none pattern)
sent_count-ceil pattern (suc steps) =
    let here = kept-step pattern steps in
    let rest = sent_count-ceil pattern steps in
    ceil-step pattern steps ∙ (ap (λ (n : ℕ). n + (2 - min 1 (steps % length (period_of pattern)))) rest
    ∙ ap (λ (n : ℕ). sent_count pattern steps + n) (sym here))
