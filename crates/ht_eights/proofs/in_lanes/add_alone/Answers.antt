use Rattle.ht_eights.proofs.Eights.{all-three, first_more}
use Rattle.ht_eights.proofs.in_lanes.add_alone.Goals as goal

pub returns : goal.returns
returns g c =
    let t = c.args.tally.now in
    let new = c.add.new.self in
    let e = c.add.ensures in
    all-three c.add.result _ _ _ _
    (λ head long added.
    first_more g.K.Kind.plan (g.B.Jobs.jobs c.args.block.now) c.args.at c.job-job.result t.head t.head new.head t.jobs t.data_sum t.pilot_sum new.jobs
    new.data_sum new.pilot_sum t.places t.values.items new.places new.values.items c.job-job.ensures c.requires.is head long added)
    e.head e.long e.added
