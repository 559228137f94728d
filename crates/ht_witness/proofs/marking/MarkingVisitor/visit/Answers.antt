use Rattle.std.proofs.Common.{◌≤◌, arith}
use Rattle.ht_witness.proofs.Accepting.{open_more}
use Rattle.ht_witness.proofs.marking.MarkingVisitor.visit.Goals as goal

pub returns : goal.returns
returns c = λ s rest is.
    let near : s.partial ≤ c.args.self.now.distance = omega (arith, is.partial, c.if-partial-self.false) in
    open_more c.args.self.now.distance s rest c.args.marks.now c.push-2.new.self near c.in_ok-push-2.ensures.added
