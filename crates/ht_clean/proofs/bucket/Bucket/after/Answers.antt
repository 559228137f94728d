use Rattle.std.proofs.Common.{◌≡◌, ◌∙◌, ◌+◌, ℕ, arith, subst}
use Rattle.ht_clean.specs.Sparse.{IsPoured}
use Rattle.ht_clean.proofs.Buckets.{clean-word}
use Rattle.ht_clean.proofs.bucket.Bucket.after.Goals as goal

pub returns-then-wrong-eq0-clause-poured : goal.returns-then-wrong-eq0-clause-poured
returns-then-wrong-eq0-clause-poured c = λ received u first are was.
    clean-word c.args.pattern received u first c.args.count c.args.self.level c.args.self.wrong c.saturating_sub.result c.leak_of.result c.args.wrong
    c.if-wrong-eq0.true c.requires.low c.leak_of.ensures.value c.saturating_sub.ensures are was

pub loop-step-preserved : goal.loop-step-preserved
loop-step-preserved c = record {
  low = c.in-Some.ensures.low;
  few = omega (arith, c.in-Some.ensures.few, c.loop-step.invariant.few);
  poured = λ received u first are was.
      let next : first + c.loop-step.step + 1 ≡ first + (c.loop-step.step + 1) = omega arith in
      subst (λ (t : ℕ). IsPoured c.args.pattern received u t c.in-Some.next.level c.in-Some.next.wrong) next
      (c.in-Some.ensures.poured received u (first + c.loop-step.step) (c.bits_at.ensures.value ∙ are c.loop-step.step c.loop-step-test.true)
      (c.loop-step.invariant.poured received u first are was));
}
