use Rattle.std.proofs.Common.{◌≡◌, ℕ, ◌<◌, slice_index_or, is_some, true}
use Rattle.ht_map.specs.Gray.{label_of}
use Rattle.ht_metric.specs.Vectors.{no_point}
use Rattle.ht_library.proofs.mapping.are_points.Given as goal

abbrev pub invariant-loop-at : goal.invariant-loop-at
invariant-loop-at l = (k : ℕ) → k < l.at → is_some (label_of l.fn.modulation (slice_index_or l.points k no_point)) ≡ true
