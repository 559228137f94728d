use Rattle.std.proofs.Common.{slice_index_or}
use Rattle.ht_rounding.specs.Loading.{no_job}
use Rattle.ht_rounding.proofs.Loaded.{rows-loaded}
use Rattle.ht_rounding.proofs.loading.load.Goals as goal

pub returns-clause-rows : goal.returns-clause-rows
returns-clause-rows c k lt few =
    rows-loaded _ _ _ _ _ _ _ _ k (slice_index_or c.args.jobs.now k no_job).system few
    (c.load_row-first.ensures.row k lt) (c.load_row-second.ensures.row k lt) (c.load_row-third.ensures.row k lt) (c.load_row-fourth.ensures.row k lt)
