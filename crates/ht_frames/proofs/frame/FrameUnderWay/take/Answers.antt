use Rattle.std.proofs.Common.{◌≡◌, ◌==◌, ◌≤◌, ℕ, length, ap, sym, arith, rules}
use Rattle.ht_frames.specs.Tallies.{IsAlike}
use Rattle.ht_frames.proofs.Tallying.{alike_tally, entered, long_tally, taken}
use Rattle.ht_frames.proofs.frame.FrameUnderWay.take.Goals as goal

pub returns-then-not-fits-clause-none : goal.returns-then-not-fits-clause-none
returns-then-not-fits-clause-none g c = λ more.
    let k = g.K.Kind in
    let jobs = g.J.Jobs.jobs c.args._block.now in
    let some : 1 ≤ length jobs = omega (arith, c.requires.right.count, c.if-tally-eq0.false) in
    let in_frame = c.in_ok-enter.ensures in
    sym (entered k.plan k.begins k.result_of c.args.head.now jobs c.args.self.now c.enter.new.self more some in_frame.entered in_frame.ready.left)

pub add-requires-clause-long : goal.add-requires-clause-long
add-requires-clause-long g c = long_tally g.K.Kind.plan c.requires.right

pub returns-clause-results : goal.returns-clause-results
returns-clause-results g c = λ more.
    let k = g.K.Kind in
    let jobs = g.J.Jobs.jobs c.args._block.now in
    let t = c.args.tally.now in
    let before = c.enter.new.self in
    let some : 1 ≤ length jobs = omega (arith, c.requires.right.count, c.if-tally-eq0.false) in
    let alike : IsAlike k.plan t.head before.head = search rules in
    let few : t.jobs ≤ before.left = search rules in
    let in_frame = c.in_ok-enter.ensures in
    taken k.plan k.begins k.result_of c.args.head.now jobs c.args.self.now before c.add.new.self t.jobs t.data_sum t.pilot_sum t.places t.values.items
    (c.left.result == 0) more some in_frame.entered in_frame.ready.left few (alike_tally k.plan alike c.requires.right) c.add.ensures.added
    (ap (λ (n : ℕ). n == 0) c.left.ensures)
