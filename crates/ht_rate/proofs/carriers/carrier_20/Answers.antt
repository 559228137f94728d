use Rattle.ht_rate.specs.declared.kinds.Bandwidth.TheVariants.{Mhz20}
use Rattle.ht_rate.proofs.CarrierTables.{stands}
use Rattle.ht_rate.proofs.carriers.carrier_20.Goals as goal

pub returns : goal.returns
returns c = stands Mhz20 c.args.index c.from.result c.from.ensures c.requires
