use Rattle.std.proofs.Common.{slice_index_or, subst}
use Rattle.ht_rounding.specs.declared.levels.Levels.{Levels}
use Rattle.ht_rounding.specs.Labels.{HasJob, i_levels}
use Rattle.ht_rounding.specs.Loading.{no_job}
use Rattle.ht_rounding.proofs.eight.label_eight.Goals as goal

pub returns-clause-labels : goal.returns-clause-labels
returns-clause-labels c k lt some =
    let job = slice_index_or c.args.jobs.now k no_job in
    let eight = c.gathered_by-eight.result in
    c.label_lanes.ensures.labels k job lt some
    (subst (λ (q : Levels). HasJob (i_levels c.args.modulation) q eight c.streams-streams.result k job) c.levels_by-i.ensures.q
    (subst (λ (i : Levels). HasJob i c.levels_by-i.result.1 eight c.streams-streams.result k job) c.levels_by-i.ensures.i
    (c.gathered_by-eight.ensures.jobs k lt)))
