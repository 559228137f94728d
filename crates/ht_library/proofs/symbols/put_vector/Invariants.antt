use Rattle.std.proofs.Common.{◌≡◌, ℕ, ◌+◌, ◌<◌, length, slice_index, slice_index_or}
use Rattle.ht_metric.specs.Vectors.{no_point}
use Rattle.ht_results.specs.Folding.{label_at}
use Rattle.ht_library.proofs.symbols.put_vector.Given as goal

abbrev pub invariant-loop-k : goal.invariant-loop-k
invariant-loop-k l = record {
  size : length l.labels ≡ length l.fn.labels;
  before : (i : ℕ) → i < l.fn.first → slice_index l.labels i ≡ slice_index l.fn.labels i;
  done : (s : ℕ) → s < l.k → slice_index l.labels (l.fn.first + s) ≡ label_at l.fn.modulation (slice_index_or l.vector s no_point);
}
