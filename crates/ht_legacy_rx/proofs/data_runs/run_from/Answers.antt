use Rattle.ht_legacy_rx.proofs.DataRuns.{runs}
use Rattle.ht_legacy_rx.proofs.data_runs.run_from.Goals as goal

pub returns : goal.returns
returns c = runs c.args.carrier c.from.result c.from.ensures c.requires
