use Rattle.std.proofs.Common.{◌*◌, ℕ, ap}
use Rattle.ht_eights.proofs.Octets.{lane_more}
use Rattle.ht_eights.proofs.in_lanes.octets_of.Goals as goal

pub loop-k-preserved : goal.loop-k-preserved
loop-k-preserved c =
    let l = c.loop-k in
    lane_more c.args.lanes.now l.k c.args.streams (l.k * c.from.result) l.octets c.put_lane.new.octets c.requires.streams
    (ap (λ (n : ℕ). l.k * n) c.from.ensures) c.put_lane.ensures l.invariant
