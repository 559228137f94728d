use Rattle.ht_lanes.proofs.InFlightCalls.{took, took_none, well_so}
use Rattle.ht_lanes.proofs.in_flight_lane.InFlightLaneLane.take.Goals as goal

pub returns-in-Ok-clause-leads : goal.returns-in-Ok-clause-leads
returns-in-Ok-clause-leads g c = λ source.
    let self = c.args.self.now in
    took g.R.BlockReader.means g.R.BlockReader.at g.A.LaneConsumer.pieces self.consumer c.take.new.self self.in_flight (g.S.Source.shown source)
    (g.K.Sink.shown c.args.sink.now) (g.K.Sink.shown c.take.new.sink) self.failed (well_so self.failed c.requires.going) c.take.new.in_flight
    c.in-Ok.ensures

pub returns-in-Err-clause-leads : goal.returns-in-Err-clause-leads
returns-in-Err-clause-leads g c = λ source.
    let self = c.args.self.now in
    took_none g.R.BlockReader.means g.R.BlockReader.at g.A.LaneConsumer.pieces self.consumer c.take.new.self self.in_flight (g.S.Source.shown source)
    (g.K.Sink.shown c.args.sink.now) (g.K.Sink.shown c.take.new.sink) self.failed (well_so self.failed c.requires.going) c.take.new.in_flight
    c.in-Err.ensures
