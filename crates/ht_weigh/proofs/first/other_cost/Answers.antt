use Rattle.std.proofs.Common.{rules, ◌∙◌, ◌-◌, ◌/◌, ◌%◌, ℕ, SFits, w8, w64, to_z-of_z, arith, ap, refl}
use Rattle.ht_rate.specs.Schemes.{bits_of}
use Rattle.ht_sphere.proofs.Margins.{squares}
use Rattle.ht_weigh.proofs.Across.{i_other, levels_is, q_other}
use Rattle.ht_weigh.proofs.first.other_cost.Goals as goal

pub returns-then-bit-first-clause-value : goal.returns-then-bit-first-clause-value
returns-then-bit-first-clause-value c =
    let wide : SFits w64 c.args.left.now.re = search rules in
    let fits : SFits w8 c.across-level.result = search rules in
    let m = c.args.modulation in
    let count = c.label_bits.result - c.label_bits-last.result / 2 in
    let count_is = ap (λ (n : ℕ). n - c.label_bits-last.result / 2) c.label_bits.ensures.value
    ∙ ap (λ (n : ℕ). bits_of m - n / 2) c.label_bits-last.ensures.value in
    let other = i_other m c.args.bit c.args.label count _ c.args.left.now.re c.args.left.now.im c.across-level.result c.args.left.now.d
    c.if-bit-first.true count_is c.requires.named.within
    (ap (λ (n : ℕ). c.args.label / n) (levels_is m c.label_bits-last.result c.label_bits-last.ensures.value)) c.requires.named.i
    c.across-level.ensures.across in
    omega (
      arith,
      other,
      c.requires.named.of_q,
      c.cost.ensures.value ∙ squares c.args.left.now.d _ _ _ _ (to_z-of_z wide) (to_z-of_z fits),
    )

pub returns-else-bit-first-clause-value : goal.returns-else-bit-first-clause-value
returns-else-bit-first-clause-value c =
    let wide : SFits w64 c.args.left.now.im = search rules in
    let fits : SFits w8 c.across-level-else-bit-first.result = search rules in
    let m = c.args.modulation in
    let count = c.label_bits-last.result / 2 in
    let count_is = ap (λ (n : ℕ). n / 2) c.label_bits-last.ensures.value in
    let first = c.label_bits.result - c.label_bits-last.result / 2 in
    let first_is = ap (λ (n : ℕ). n - c.label_bits-last.result / 2) c.label_bits.ensures.value
    ∙ ap (λ (n : ℕ). bits_of m - n / 2) c.label_bits-last.ensures.value in
    let other = q_other m c.args.bit c.args.label count first (c.args.bit - first) _ c.args.left.now.re c.args.left.now.im
    c.across-level-else-bit-first.result c.args.left.now.d c.if-bit-first.false c.requires.bit count_is first_is refl c.requires.named.within
    (ap (λ (n : ℕ). c.args.label % n) (levels_is m c.label_bits-last.result c.label_bits-last.ensures.value))
    c.requires.named.q c.across-level-else-bit-first.ensures.across in
    omega (
      arith,
      other,
      c.requires.named.of_i,
      c.cost-else-bit-first.ensures.value ∙ squares c.args.left.now.d _ _ _ _ (to_z-of_z wide) (to_z-of_z fits),
    )
