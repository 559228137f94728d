use Rattle.ht_many.proofs.Opened.{one_more}
use Rattle.ht_many.proofs.capture_lane.open_crew_lanes.Goals as goal

pub loop-index-preserved : goal.loop-index-preserved
loop-index-preserved g c =
    let l = c.loop-index in
    let lane = c.in_ok-open_crew_lane.field-0 in
    one_more l._index l.lanes.items c.push.new.self.items lane c.in_ok-push.ensures.items l.invariant c.in_ok-open_crew_lane.ensures
