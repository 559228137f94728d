use Rattle.ht_rate.specs.declared.kinds.Bandwidth.TheVariants.{Mhz40}
use Rattle.ht_rx.proofs.DataRuns.{ends, runs}
use Rattle.ht_rx.proofs.data_runs.run_40.Goals as goal

pub returns-clause-run : goal.returns-clause-run
returns-clause-run c = runs Mhz40 c.args.carrier c.from.result c.from.ensures c.requires

pub returns-clause-within : goal.returns-clause-within
returns-clause-within c = ends Mhz40 c.args.carrier c.from.result c.from.ensures c.requires
