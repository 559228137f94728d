-- What is in the bucket after a step, and after steps at which no place is wrong.
use Rattle.std.proofs.Common.{◌≡◌, ◌∙◌, inl, inr, ℕ, zero, suc, ◌+◌, ◌-◌, ◌*◌, ◌<◌, List, Bool, true, false, ◌||◌, ◌==◌, Option}
use Rattle.std.proofs.Common.{refl, ap, sym, subst, arith}
use Rattle.std.specs.Int.{from_bool}
use Rattle.std.specs.Int.RustNames.{bit_or}
use Rattle.std.proofs.lemmas.Bool.{cases_lt}
use Rattle.std.proofs.lemmas.Nat.Bits.{bit_at-zero}
use Rattle.ht_rate.specs.declared.kinds.Pattern.{Pattern}
use Rattle.ht_rate.specs.declared.kinds.Pattern.TheVariants.{Half, TwoThirds, ThreeQuarters, FiveSixths}
use Rattle.ht_viterbi.specs.Packed.{flag}
use Rattle.ht_clean.specs.Planes.{plane_bits}
use Rattle.ht_clean.specs.Sparse.{IsPoured, brim, leak, level_at, pour, wrong_at}
use Rattle.ht_clean.specs.declared.planes.Planes.{Planes}
use Rattle.ht_clean.proofs.Flags.{flag-or}

leak-more : (pattern : Pattern) (n : ℕ) → leak pattern * suc n ≡ leak pattern * n + leak pattern
leak-more Half n = omega arith
leak-more TwoThirds n = omega arith
leak-more ThreeQuarters n = omega arith
leak-more FiveSixths n = omega arith

leak-none : (pattern : Pattern) → leak pattern * 0 ≡ 0
leak-none Half = refl
leak-none TwoThirds = refl
leak-none ThreeQuarters = refl
leak-none FiveSixths = refl

-- a step at which no place is wrong
drop-more : (pattern : Pattern) (received : List (Option Bool)) (u : List Bool) (t level less wrong : ℕ) → wrong_at pattern received u t ≡ 0
    → level < brim pattern → less ≡ level - leak pattern → IsPoured pattern received u t level wrong → IsPoured pattern received u (suc t) less wrong
drop-more pattern received u t level less wrong none low is was = record {
  sparse = λ s lt. elim (cases_lt s t) [
    | inl before ↦ was.sparse s before
    | inr here ↦
        let same : t ≡ s = omega (arith, lt, here) in
        subst (λ (n : ℕ). level_at pattern received u n + pour * wrong_at pattern received u n < brim pattern) same
        (omega (arith, was.level, none, low))
  ];
  level = omega (arith, was.level, none, is);
  wrong = omega (arith, was.wrong, none);
}

drained : (pattern : Pattern) (received : List (Option Bool)) (u : List Bool) (first count level wrong : ℕ) → level < brim pattern
    → ((step : ℕ) → step < count → wrong_at pattern received u (first + step) ≡ 0) → IsPoured pattern received u first level wrong
    → IsPoured pattern received u (first + count) (level - leak pattern * count) wrong
drained pattern received u first zero level wrong low none was =
    let same : first ≡ first + 0 = omega arith in
    let full : level ≡ level - leak pattern * 0 = omega (arith, leak-none pattern) in
    subst (λ (t : ℕ). IsPoured pattern received u t (level - leak pattern * 0) wrong) same
    (subst (λ (l : ℕ). IsPoured pattern received u first l wrong) full was)
drained pattern received u first (suc n) level wrong low none was =
    let before = drained pattern received u first n level wrong low (λ step lt. none step (omega (arith, lt))) was in
    let next : suc (first + n) ≡ first + suc n = omega arith in
    subst (λ (t : ℕ). IsPoured pattern received u t (level - leak pattern * suc n) wrong) next
    (drop-more pattern received u (first + n) (level - leak pattern * n) (level - leak pattern * suc n) wrong (none n (omega arith))
    (omega (arith, low)) (omega (arith, leak-more pattern n)) before)

neither : (a b : Bool) → (a || b) ≡ false → from_bool a + from_bool b ≡ 0
neither false false is = refl
neither false true is = absurd (omega (arith, ap from_bool is))
neither true false is = absurd (omega (arith, ap from_bool is))
neither true true is = absurd (omega (arith, ap from_bool is))

-- a word with no wrong place
pub clean-word : (pattern : Pattern) (received : List (Option Bool)) (u : List Bool) (first count level wrong less leaks : ℕ) (planes : Planes)
    → bit_or planes.a planes.b ≡ 0 → level < brim pattern → leaks ≡ leak pattern → less ≡ level - leaks * count
    → ((step : ℕ) → step < count → plane_bits planes step ≡ wrong_at pattern received u (first + step))
    → IsPoured pattern received u first level wrong → IsPoured pattern received u (first + count) less wrong
clean-word pattern received u first count level wrong less leaks planes none low leaks-is less-is are was =
    let clean : (step : ℕ) → step < count → wrong_at pattern received u (first + step) ≡ 0 = λ step lt.
    sym (are step lt)
    ∙ neither (flag planes.a step) (flag planes.b step)
    (sym (flag-or planes.a planes.b step) ∙ (ap (λ (n : ℕ). flag n step) none ∙ ap (λ (n : ℕ). n == 1) (bit_at-zero step))) in
    let same : level - leak pattern * count ≡ less = sym (less-is ∙ ap (λ (n : ℕ). level - n * count) leaks-is) in
    subst (λ (l : ℕ). IsPoured pattern received u (first + count) l wrong) same (drained pattern received u first count level wrong low clean was)
