use Rattle.std.proofs.Common.{◌≡◌, ◌+◌, ◌<◌, ℕ, false, get_or, vec_len, vec_capacity}
use Rattle.ht_parse.proofs.streams.push_group.Given as goal

abbrev pub invariant-loop-bit : goal.invariant-loop-bit
invariant-loop-bit l = record {
  count : vec_len l.bits ≡ vec_len l.fn.bits + l.bit-index;
  capacity : vec_capacity l.bits ≡ vec_capacity l.fn.bits;
  kept : (p : ℕ) → p < vec_len l.fn.bits → get_or l.bits.items p false ≡ get_or l.fn.bits.items p false;
  copied : (x : ℕ) → x < l.bit-index → get_or l.bits.items (vec_len l.fn.bits + x) false ≡ get_or l.fn.from (l.fn.at + x) false;
}
