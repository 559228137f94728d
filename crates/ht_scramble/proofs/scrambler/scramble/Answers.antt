use Rattle.std.proofs.Common.{◌≡◌, ◌∙◌, inl, inr, ℕ, ◌+◌, ◌-◌, ◌*◌, ◌%◌, ◌<◌, ◌≤◌, false, ap, arith, length, slice_index_or}
use Rattle.std.proofs.lemmas.Bool.{cases_lt}
use Rattle.std.proofs.lemmas.Grind.{div_ceil_times}
use mathlib.Core.Bool.{xor}
use Rattle.ht_scramble.specs.Sequence.{sequence}
use Rattle.ht_scramble.proofs.Lists.{scrambled-from_places}
use Rattle.ht_scramble.proofs.Period.{sequence-rest}
use Rattle.ht_scramble.proofs.scrambler.scramble.Goals as goal

pub loop-turn-preserved : goal.loop-turn-preserved
loop-turn-preserved c =
    let was = c.loop-turn.invariant in
    let start = 127 * c.loop-turn.turn in
    let again : (k : ℕ) → start ≤ k → k < start + 127 → slice_index_or c.sequence_of-sequence.result (k - start) false ≡ sequence c.args.seed k =
    λ k from below.
    let place : k - start ≡ k % 127 = omega arith in
    c.sequence_of-sequence.ensures (k - start) (omega arith)
    ∙ (ap (λ (n : ℕ). sequence c.args.seed n) place ∙ sequence-rest c.args.seed k) in
    record {
      len = c.add.ensures.length ∙ was.len;
      done = λ k below within. elim (cases_lt k start) [
        | inl less ↦ c.add.ensures.before k less ∙ was.done k less (omega (arith, c.add.ensures.length))
        | inr more ↦ (
            let inside : k < c.min-end.result = omega (arith, c.min-end.ensures, c.add.ensures.length) in
            c.add.ensures.here k more inside
            ∙ (ap (λ b. xor b (slice_index_or c.sequence_of-sequence.result (k - start) false)) (was.rest k more)
            ∙ ap (λ b. xor (slice_index_or c.args.bits.now k false) b) (again k more (omega arith))))
      ];
      rest = λ k from. c.add.ensures.behind k (omega (arith, c.min-end.ensures)) ∙ was.rest k (omega arith);
    }

pub returns : goal.returns
returns c =
    let was = c.loop-turn.invariant in
    let all = (div_ceil_times (length c.args.bits.now) 127 (omega arith)).1 in
    scrambled-from_places c.args.seed c.args.bits.now c.loop-turn.bits was.len
    (λ k lt. was.done k (omega (arith, all, was.len, c.div_ceil-turn-end.ensures, c.loop-turn-test.false)) lt)
