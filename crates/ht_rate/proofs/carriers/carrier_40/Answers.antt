use Rattle.ht_rate.specs.declared.kinds.Bandwidth.TheVariants.{Mhz40}
use Rattle.ht_rate.proofs.CarrierTables.{stands}
use Rattle.ht_rate.proofs.carriers.carrier_40.Goals as goal

pub returns : goal.returns
returns c = stands Mhz40 c.args.index c.from.result c.from.ensures c.requires
