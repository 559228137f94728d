use Rattle.ht_legacy_blocks.proofs.Octets.{data_grid, pilot_grid}
use Rattle.ht_legacy_blocks.proofs.symbol.LegacySymbol.grid.Goals as goal

pub returns-in-Data : goal.returns-in-Data
returns-in-Data c =
    let s = c.self.inside in
    rw (← c.self.view_is)
    (data_grid s.full s.head.rate s.symbol c.args.carrier c.in-Data.field-0 c.legacy_carrier.result c.self.invariant.full
    c.legacy_carrier.ensures.value c.in-Data.is)

pub returns-in-Pilot : goal.returns-in-Pilot
returns-in-Pilot c =
    let s = c.self.inside in
    rw (← c.self.view_is)
    (pilot_grid c.pilot_point.result s.head.rate s.symbol c.args.carrier c.in-Pilot.index c.legacy_carrier.result c.pilot_point.ensures
    c.legacy_carrier.ensures.value c.in-Pilot.is)
