use Rattle.std.proofs.Common.{◌≡◌, ℕ, ◌<◌, ◌≤◌, length, slice_index_or}
use Rattle.ht_metric.specs.Vectors.{no_point}
use Rattle.ht_library.proofs.detection.hit_of.Given as goal

abbrev pub invariant-loop-k : goal.invariant-loop-k
invariant-loop-k l = record {
  size : length l.points ≡ 4;
  found : (k : ℕ) → k < l.k → k < length l.found.vector → slice_index_or l.points k no_point ≡ slice_index_or l.found.vector k no_point;
  unused : (k : ℕ) → length l.found.vector ≤ k → slice_index_or l.points k no_point ≡ no_point;
}
