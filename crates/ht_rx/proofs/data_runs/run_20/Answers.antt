use Rattle.ht_rate.specs.declared.kinds.Bandwidth.TheVariants.{Mhz20}
use Rattle.ht_rx.proofs.DataRuns.{ends, runs}
use Rattle.ht_rx.proofs.data_runs.run_20.Goals as goal

pub returns-clause-run : goal.returns-clause-run
returns-clause-run c = runs Mhz20 c.args.carrier c.from.result c.from.ensures c.requires

pub returns-clause-within : goal.returns-clause-within
returns-clause-within c = ends Mhz20 c.args.carrier c.from.result c.from.ensures c.requires
