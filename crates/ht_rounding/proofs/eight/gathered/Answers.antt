use Rattle.std.proofs.Common.{slice_index_or}
use Rattle.ht_rounding.specs.Loading.{no_job}
use Rattle.ht_rounding.proofs.Answered.{plain-in-lane}
use Rattle.ht_rounding.proofs.eight.gathered.Goals as goal

pub returns-clause-jobs : goal.returns-clause-jobs
returns-clause-jobs c k lt some =
    let job = slice_index_or c.args.jobs.now k no_job in
    plain-in-lane _ _ _ _ k c.args.streams job (c.plain_lanes.ensures k lt some) (c.load-loaded.ensures.rows k lt)
