use Rattle.std.proofs.Common.{◌≡◌, ◌==◌, ◌≤◌, ◌∷◌, [], ℕ, ap, arith, subst}
use Rattle.ht_frames.specs.Tallies.{IsTally}
use Rattle.ht_frames.proofs.Tallying.{long_tally, taken}
use Rattle.ht_frames.proofs.frame.FrameUnderWay.take_job.Goals as goal

pub add-requires-clause-long : goal.add-requires-clause-long
add-requires-clause-long g c = long_tally g.K.Kind.plan c.in_ok-tally.ensures.is

pub returns-clause-results : goal.returns-clause-results
returns-clause-results g c = λ more.
    let k = g.K.Kind in
    let job = c.args.job.now in
    let t = c.in_ok-tally.tally in
    let before = c.enter.new.self in
    let in_frame = c.in_ok-enter.ensures in
    let is : IsTally k.plan before.head (job ∷ []) t.jobs t.data_sum t.pilot_sum t.places t.values.items =
    subst (λ (h : g.row.K-Head.Denot). IsTally k.plan h (job ∷ []) t.jobs t.data_sum t.pilot_sum t.places t.values.items) (ap (λ z. z.head) c.self.view_is)
    c.in_ok-tally.ensures.is in
    taken k.plan k.begins k.result_of c.args.head.now (job ∷ []) c.args.self.now before c.add.new.self t.jobs t.data_sum t.pilot_sum t.places t.values.items
    (c.left.result == 0) more (omega arith) in_frame.entered in_frame.ready.left (omega (arith, in_frame.ready.left, is.count)) is c.add.ensures.added
    (ap (λ (n : ℕ). n == 0) c.left.ensures)
