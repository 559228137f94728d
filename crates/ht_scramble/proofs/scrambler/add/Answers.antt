use Rattle.std.proofs.Common.{◌≡◌, ◌∙◌, ◌≢◌, inl, inr, ℕ, ◌-◌, ◌<◌, false}
use Rattle.std.proofs.Common.{ap, sym, arith, length, slice_set, slice_index_or, get_or-set_other, get_or-set_same, length-set}
use Rattle.std.proofs.lemmas.Bool.{cases_lt}
use mathlib.Core.Bool.{xor}
use Rattle.ht_scramble.proofs.scrambler.add.Goals as goal

pub loop-place-preserved : goal.loop-place-preserved
unfolding xor
loop-place-preserved c =
    let was = c.loop-place.invariant in
    let at = c.loop-place.place in
    let bits = c.loop-place.bits in
    let sum = xor (slice_index_or bits at false) (slice_index_or c.args.sequence.now (at - c.args.start) false) in
    let within : at < length bits = omega (arith, was.len, c.loop-place-test.true, c.requires.within) in
    let added : (k : ℕ) → k ≡ at → sum ≡ xor (slice_index_or c.args.bits.now k false) (slice_index_or c.args.sequence.now (k - c.args.start) false) =
    λ k e.
    ap (λ b. xor b (slice_index_or c.args.sequence.now (at - c.args.start) false)) (was.behind at (omega arith))
    ∙ ap (λ (n : ℕ). xor (slice_index_or c.args.bits.now n false) (slice_index_or c.args.sequence.now (n - c.args.start) false)) (sym e) in
    record {
      len = length-set bits at sum ∙ was.len;
      here = λ k from below. elim (cases_lt k at) [
        | inl less ↦ (let other : k ≢ at = omega arith in get_or-set_other bits at k sum false other ∙ was.here k from less)
        | inr more ↦ (
            let same : k ≡ at = omega arith in
            ap (λ (n : ℕ). slice_index_or (slice_set bits at sum) n false) same ∙ (get_or-set_same bits at sum false within ∙ added k same))
      ];
      before = λ k below. let other : k ≢ at = omega arith in get_or-set_other bits at k sum false other ∙ was.before k below;
      behind = λ k from. let other : k ≢ at = omega arith in get_or-set_other bits at k sum false other ∙ was.behind k (omega arith);
    }
