-- The points of the streams so far.
use Rattle.std.proofs.Common.{◌≡◌, ◌+◌, vec_len, vec_capacity}
use Rattle.ht_tx.specs.Sources.{AreCarried}
use Rattle.ht_tx.proofs.mapper.push_carrier.Given as goal

abbrev pub invariant-loop-stream : goal.invariant-loop-stream
invariant-loop-stream l = record {
  count : vec_len l.points ≡ vec_len l.fn.points + l.stream;
  capacity : vec_capacity l.points ≡ vec_capacity l.fn.points;
  carried : AreCarried l.frame l.points.items;
}
