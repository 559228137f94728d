use Rattle.std.proofs.Common.{◌≡◌, ℕ, ◌+◌, ◌<◌, length, slice_index}
use Rattle.ht_library.proofs.symbols.put_four.Given as goal

abbrev pub invariant-loop-s : goal.invariant-loop-s
invariant-loop-s l = record {
  size : length l.labels ≡ length l.fn.labels;
  before : (i : ℕ) → i < l.fn.first → slice_index l.labels i ≡ slice_index l.fn.labels i;
  done : (s : ℕ) → s < l.s → slice_index l.labels (l.fn.first + s) ≡ slice_index l.four s;
}
