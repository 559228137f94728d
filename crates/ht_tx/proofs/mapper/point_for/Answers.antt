use Rattle.ht_tx.proofs.Carried.{pilot-carried}
use Rattle.ht_tx.proofs.mapper.point_for.Goals as goal

pub returns-in-Pilot : goal.returns-in-Pilot
returns-in-Pilot c =
    pilot-carried c.args.frame.now c.args.symbol c.args.carrier c.in-Pilot.k c.args.stream c.rate.result c.pilot.result
    c.in-Pilot.is c.rate.ensures c.pilot.ensures.value c.pilot.ensures.unit
