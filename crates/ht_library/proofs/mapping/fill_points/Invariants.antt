use Rattle.std.proofs.Common.{◌≡◌, length}
use Rattle.ht_library.specs.Mapped.{ArePointsBelow}
use Rattle.ht_library.proofs.mapping.fill_points.Given as goal

abbrev pub invariant-loop-at : goal.invariant-loop-at
invariant-loop-at l = record {
  size : length l.points ≡ length l.fn.points;
  done : ArePointsBelow l.at l.modulation l.labels l.points;
}
