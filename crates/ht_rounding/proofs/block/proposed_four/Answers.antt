use Rattle.std.proofs.Common.{slice_index_or}
use Rattle.ht_rounding.specs.Loading.{no_job}
use Rattle.ht_rounding.proofs.Answered.{plain-in-lane}
use Rattle.ht_rounding.proofs.block.proposed_four.Goals as goal

pub returns : goal.returns
returns c k lt some plain =
    let job = slice_index_or c.args.jobs.now k no_job in
    c.detect_four.ensures k job lt some (plain-in-lane _ _ _ _ k 4 job plain (c.load-loaded.ensures.rows k lt))
