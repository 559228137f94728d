use Rattle.std.proofs.Common.{◌<◌, ◌∙◌, List, [], ◌∷◌, ◌++◌, Result, length, map, take, sym, ap, arith}
use Rattle.std.proofs.lemmas.List.{map_more}
use Rattle.ht_runs.specs.declared.faults.RunFault.{RunFault}
use Rattle.ht_feed.specs.declared.ended.Ended.{Ended}
use Rattle.ht_many.specs.CaptureLanes.{LaneOf, lane_answer, lane_over}
use Rattle.ht_many.proofs.capture_lane.answers_of.Goals as goal

pub end-requires : goal.end-requires
end-requires g c =
    let k = c.loop-lane.lane-index in
    let lane = c.lane-item.result in
    let less : k < length c.args.lanes.now = omega (arith, c.loop-lane-test.true) in
    record { over = ap (λ (l : LaneOf g.row.A.Denot). lane_over l) c.lane-item.is ∙ c.requires.over lane k (omega arith) less }

pub loop-lane-preserved : goal.loop-lane-preserved
loop-lane-preserved g c =
    let l = c.loop-lane in
    let k = l.lane-index in
    let lanes = c.args.lanes.now in
    let lane = c.lane-item.result in
    let less : k < length lanes = omega (arith, c.loop-lane-test.true) in
    let answer = c.end.ensures ∙ ap (λ (x : LaneOf g.row.A.Denot). lane_answer x) c.lane-item.is in
    c.in_ok-push.ensures.items
    ∙ (ap (λ (answers : List (Result Ended RunFault)). answers ++ c.end.result ∷ []) l.invariant
    ∙ (ap (λ (a : Result Ended RunFault). map lane_answer (take k lanes) ++ a ∷ []) answer ∙ sym (map_more lane_answer lanes k lane less)))
