use Rattle.std.proofs.Common.{◌≡◌, ◌+◌, ◌++◌, length, vec_len, vec_capacity}
use Rattle.ht_viterbi.specs.Packed.{flags_of}
use Rattle.ht_viterbi.proofs.packed.push_flags.Given as goal

abbrev pub invariant-loop-place : goal.invariant-loop-place
invariant-loop-place l = record {
  items : l.input.items ≡ l.fn.input.items ++ flags_of l.bits 0 l.place;
  count : vec_len l.input ≡ length l.fn.input.items + l.place;
  capacity : vec_capacity l.input ≡ vec_capacity l.fn.input;
}
