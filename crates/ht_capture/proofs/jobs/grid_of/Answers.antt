use Rattle.ht_capture.proofs.Grids.{length-grid_of, length-pilot_grid}
use Rattle.ht_capture.proofs.jobs.grid_of.Goals as goal

pub returns-in-Data-clause-streams : goal.returns-in-Data-clause-streams
returns-in-Data-clause-streams c = length-grid_of c.args.rate.now c.args.full.now c.requires.full

pub returns-in-Pilot-clause-streams : goal.returns-in-Pilot-clause-streams
returns-in-Pilot-clause-streams c = length-pilot_grid c.args.rate.now c.args.symbol c.in-Pilot.index c.pilot_points.result c.pilot_points.ensures
