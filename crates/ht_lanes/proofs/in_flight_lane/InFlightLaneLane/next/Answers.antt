use Rattle.std.proofs.Common.{refl}
use Rattle.ht_feed.proofs.Leads.{well}
use Rattle.ht_lanes.specs.InFlightLanes.{lane_telling}
use Rattle.ht_lanes.proofs.InFlightCalls.{asked, goes, lacking}
use Rattle.ht_lanes.proofs.in_flight_lane.InFlightLaneLane.next.Goals as goal

pub returns-clause-leads : goal.returns-clause-leads
returns-clause-leads g c = λ sink.
    let r = g.R.BlockReader in
    let self = c.args.self.now in
    let told = lane_telling g.A.LaneConsumer.pieces self.consumer (g.K.Sink.shown sink) in
    let none = goes self.failed self.in_flight.stop c.requires.going in
    let e = c.next.ensures in
    well self.failed self.failed _ _ none.0 refl
    (asked r.means r.at self.in_flight c.next.new.self (g.S.Source.shown c.args.source.now) (g.S.Source.shown c.next.new.source) told c.next.result
    (λ due h w. tt) e.reads (lacking self.in_flight c.next.new.self g.S.Source.shown c.args.source.now c.next.new.source c.next.result e.memory))
