use Rattle.std.proofs.Common.{◌≡◌, ◌≤◌, ◌+◌, subst, sym, arith, rules}
use Rattle.ht_capture.specs.declared.stage.Stage.{Stage}
use Rattle.ht_capture.specs.declared.stage.Stage.TheVariants.{Giving}
use Rattle.ht_capture.specs.Blocks.{KeepsLent}
use Rattle.ht_capture.proofs.Symbols.{over_shown}
use Rattle.ht_capture.proofs.Lending.{kept_after}
use Rattle.ht_capture.proofs.reader.Reader.move_past.Goals as goal

pub overflow_add-k : goal.overflow_add-k
overflow_add-k c = omega (arith, c.requires.fits.frame.places, c.requires.inside)

pub overflow_add-self : goal.overflow_add-self
overflow_add-self c = omega (arith, c.requires.fits.frame.places, c.requires.inside)

pub invariant_of-self-else-k-count : goal.invariant_of-self-else-k-count
invariant_of-self-else-k-count c =
    let due = c.args.due.now in
    let old = c.self.inside in
    let is : old.stage ≡ Giving due c.args.k = rw (← c.self.view_is) at c.requires.stage in (
      search rules,
      search rules,
      subst (λ (s : Stage). KeepsLent s old.present.items old.samples.items old.lent) (sym c.after-self-inside.ensures.value)
          (kept_after due old.present.items old.samples.items old.lent
          (subst (λ (s : Stage). KeepsLent s old.present.items old.samples.items old.lent) is c.self.invariant.2)),
    )

pub returns-else-k-count-clause-told : goal.returns-else-k-count-clause-told
returns-else-k-count-clause-told c = λ source.
    let due = c.args.due.now in
    let old = c.self.inside in
    let le : due.count ≤ c.args.k + c.args.count = omega arith in
    rw (← c.self.view_is) (over_shown due
    (c.args.k + c.args.count) old.at old.present.items old.samples.items source c.after-self-inside.result le c.after-self-inside.ensures.value)
