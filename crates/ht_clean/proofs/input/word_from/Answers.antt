use Rattle.std.proofs.Common.{◌≡◌, ◌∙◌, ◌+◌, ◌<◌, ℕ, inl, inr, false, get_or, ap, arith}
use Rattle.std.proofs.lemmas.Bool.{cases_lt}
use Rattle.ht_clean.proofs.Inputs.{bit-at, bit-before, bit-behind}
use Rattle.ht_clean.proofs.input.word_from.Goals as goal

pub loop-place-preserved : goal.loop-place-preserved
loop-place-preserved c =
    let was = c.loop-place.invariant in
    let place = c.loop-place.place in
    let word = c.loop-place.word in
    let bits = c.args.bits.now in
    let start = c.args.start in
    let within : place < 64 = omega (arith, c.loop-place-test.true, c.requires.few) in
    record {
      done = λ k lt. elim (cases_lt k place) [
        | inl before ↦ bit-before word c.from.result place k (omega (arith, before, within)) before ∙ was.done k before
        | inr on ↦
            let is : k ≡ place = omega (arith, on, lt) in
            let same : start + place ≡ start + k = omega (arith, is) in
            bit-at word c.from.result place k (get_or bits (start + place) false) (omega (arith, is, within)) is c.from.ensures
            (was.left k on (omega (arith, is, within))) ∙ ap (λ (n : ℕ). get_or bits n false) same
      ];
      left = λ k le few. bit-behind word c.from.result place k (get_or bits (start + place) false) few le c.from.ensures (was.left k (omega (arith, le)) few);
    }
