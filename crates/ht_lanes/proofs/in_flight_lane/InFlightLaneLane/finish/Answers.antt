use Rattle.std.proofs.Common.{◌∙◌, sym}
use Rattle.ht_lanes.proofs.InFlightCalls.{finished, unfinished, well_so}
use Rattle.ht_lanes.proofs.in_flight_lane.InFlightLaneLane.finish.Goals as goal

pub returns-in-Ok-clause-leads : goal.returns-in-Ok-clause-leads
returns-in-Ok-clause-leads g c = λ source.
    let self = c.args.self.now in
    finished g.R.BlockReader.means g.R.BlockReader.at g.A.LaneConsumer.pieces self.consumer c.finish.new.self self.in_flight (g.S.Source.shown source)
    (g.K.Sink.shown c.args.sink.now) (g.K.Sink.shown c.finish.new.sink) self.failed
    (well_so self.failed (sym c.is_some-failed.ensures ∙ c.if-failed.false)) c.in-Ok.ensures.books

pub returns-in-Err-clause-leads : goal.returns-in-Err-clause-leads
returns-in-Err-clause-leads g c = λ source.
    let self = c.args.self.now in
    unfinished g.R.BlockReader.means g.R.BlockReader.at g.A.LaneConsumer.pieces self.consumer c.finish.new.self self.in_flight (g.S.Source.shown source)
    (g.K.Sink.shown c.args.sink.now) (g.K.Sink.shown c.finish.new.sink) self.failed
    (well_so self.failed (sym c.is_some-failed.ensures ∙ c.if-failed.false)) c.in-Err.ensures.books
