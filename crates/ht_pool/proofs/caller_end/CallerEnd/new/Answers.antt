use Rattle.std.proofs.Common.{◌-◌, length, ap}
use Rattle.crossbeam_queue.specs.Passes.{view as answer_view}
use Rattle.ht_pool.specs.declared.pass_log.PassLog.{PassLog}
use Rattle.ht_pool.proofs.Backs.{new_caller}
use Rattle.ht_pool.proofs.caller_end.CallerEnd.new.Goals as goal

pub returns : goal.returns
returns g c = new_caller c.args.pass.table_id (answer_view c.args.pass).taken c.args.own c.args.takers.items (1024 - length c.args.takers.items) c.requires.own
    c.requires.takers (ap (λ (v : PassLog g.row.A.Denot). v.taken) c.requires.answers)
