use Rattle.std.proofs.Common.{◌≡◌, ◌<◌, ◌≤◌, ℕ, length, slice_index, slice_index_or}
use Rattle.ht_inverse.proofs.words.filled_up.Given as goal

abbrev pub invariant-loop-k : goal.invariant-loop-k
invariant-loop-k l = record {
  length : length l.lanes ≡ 64;
  done : (i : ℕ) → i < l.k → slice_index l.lanes i ≡ slice_index_or l.octets i 0;
  left : (i : ℕ) → l.k ≤ i → i < 64 → slice_index l.lanes i ≡ 0;
}
