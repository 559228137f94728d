use Rattle.std.proofs.Common.{◌≡◌, Some, refl, subst}
use Rattle.ht_pool.specs.Pools.{HasRun}
use Rattle.ht_drive.specs.Blocks.{BlockPool, jobs_in, lacking, task_of}
use Rattle.ht_drive.proofs.Settling.{has_run_in_pool}
use Rattle.ht_drive.proofs.threaded.finish.Goals as goal

pub returns-clause-ran : goal.returns-clause-ran
returns-clause-ran g c =
    let closed = c.close-deques.result in
    let run = subst (λ (pool : BlockPool). HasRun task_of jobs_in pool c.args.members.items closed) c.into_caller.ensures.pool c.close-deques.ensures in
    has_run_in_pool c.args.counts c.args.caller c.args.members.items closed c.requires.counted run
    (subst (λ (pool : BlockPool). lacking pool.answers ≡ 0) c.into_caller.ensures.pool (c.into_caller.ensures.answered c.requires.whole))
    (record {
      jobs = c.args.counts.issued;
      own = c.args.counts.own;
      ran = closed.ran;
      passes = Some (record { deques = closed.deques; results = closed.pass });
    })
    refl refl refl
