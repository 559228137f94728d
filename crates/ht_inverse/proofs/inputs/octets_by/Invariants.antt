use Rattle.std.proofs.Common.{◌≡◌, ◌<◌, ◌≤◌, ◌+◌, ◌*◌, ℕ, length, slice_index_or, vec_len, vec_capacity}
use mathlib.Core.Bool.{xor}
use Rattle.ht_scramble.specs.Sequence.{seed_of, sequence}
use Rattle.ht_viterbi.specs.Packed.{flag}
use Rattle.ht_inverse.specs.Words.{HasSequence, first_bits, word_bit}
use Rattle.ht_inverse.proofs.inputs.octets_by.Given as goal

abbrev pub invariant-loop-at : goal.invariant-loop-at
invariant-loop-at l = record {
  before : HasSequence (seed_of (first_bits l.fn.seven)) (8 * l.at) l.before;
  last : HasSequence (seed_of (first_bits l.fn.seven)) (8 * l.at + 8) l.last;
  count : length l.found.items ≡ l.at;
  len : vec_len l.found ≡ l.at;
  bits : (m k : ℕ) → m < l.at → k < 8 → flag (slice_index_or l.found.items m 0) k
      ≡ xor (word_bit l.pattern l.two l.first l.second (16 + (8 * m + k))) (sequence (seed_of (first_bits l.fn.seven)) (16 + (8 * m + k)));
  small : (m : ℕ) → m < l.at → slice_index_or l.found.items m 0 < 256;
  capacity : l.octets ≤ vec_capacity l.found;
}
