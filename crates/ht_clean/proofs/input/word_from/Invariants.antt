use Rattle.std.proofs.Common.{◌≡◌, ◌<◌, ◌≤◌, ◌+◌, ℕ, false, slice_index_or}
use Rattle.ht_viterbi.specs.Packed.{flag}
use Rattle.ht_clean.proofs.input.word_from.Given as goal

abbrev pub invariant-loop-place : goal.invariant-loop-place
invariant-loop-place l = record {
  done : (k : ℕ) → k < l.place → flag l.word k ≡ slice_index_or l.bits (l.start + k) false;
  left : (k : ℕ) → l.place ≤ k → k < 64 → flag l.word k ≡ false;
}
