use Rattle.std.proofs.Common.{◌∷◌, [], sym, subst}
use Rattle.ht_frames.specs.Tallies.{IsTally}
use Rattle.ht_frames.proofs.tally.Tally.of_job.Goals as goal

pub returns-clause-is : goal.returns-clause-is
returns-clause-is g c =
    let plan = g.K.Kind.plan in
    let t = c.in_ok-tally.tally in
    let new = c.add.new.self in
    let none = c.in_ok-tally.ensures in
    subst (λ (h : g.row.K-Head.Denot). IsTally plan h (c.args.job.now ∷ []) new.jobs new.data_sum new.pilot_sum new.places new.values.items) none.head
    (c.in_ok-add.ensures.added []
    (subst (λ (h : g.row.K-Head.Denot). IsTally plan h [] t.jobs t.data_sum t.pilot_sum t.places t.values.items) (sym none.head) none.none))
