use Rattle.std.proofs.Common.{rules, ◌≡◌, Some, slice_get}
use Rattle.ht_frames.proofs.NextDue.{next_due}
use Rattle.ht_frames.proofs.receiver_together.another_is_due.Goals as goal

pub returns-in-Some : goal.returns-in-Some
returns-in-Some g c = λ some none.
    let is : slice_get c.args.due.now.items 1 ≡ Some c.in-Some.next.now = search rules in
    next_due c.args.due.now.items c.in-Some.next.now is c.is_some.ensures.some none
