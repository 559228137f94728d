use Rattle.std.proofs.Common.{arith}
use Rattle.std.proofs.lemmas.Int.{ints}
use Rattle.ht_capture.proofs.Grids.{more_points, more_count, point_is}
use Rattle.ht_capture.proofs.jobs.pilot_points.Goals as goal

pub loop-stream-preserved : goal.loop-stream-preserved
loop-stream-preserved c = record {
  points = more_points _ _ _ _ c.loop-stream.stream c.loop-stream.invariant.points c.and-grid.ensures
      (point_is c.pilot-in-loop-stream.result _ _ _
      (omega (arith, ints)) c.pilot-in-loop-stream.ensures.value c.one_level-in-loop-stream.ensures c.of-zero.ensures);
  count = more_count _ _ _ _ c.loop-stream.invariant.count c.and-grid.ensures;
}
