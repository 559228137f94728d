use Rattle.ht_soft_rx.proofs.Placed.{jobs_fold}
use Rattle.ht_soft_rx.proofs.laws.jobs.Goals as goal

pub returns : goal.returns
returns c = jobs_fold
