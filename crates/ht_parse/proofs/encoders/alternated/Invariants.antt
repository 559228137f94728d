use Rattle.std.proofs.Common.{◌≡◌, ◌+◌, ◌*◌, ◌<◌, ℕ, false, get_or, length, vec_len, vec_capacity}
use Rattle.ht_parse.proofs.encoders.alternated.Given as goal

abbrev pub invariant-loop-i : goal.invariant-loop-i
invariant-loop-i l = record {
  count : vec_len l.bits ≡ 2 * l.i;
  capacity : vec_capacity l.bits ≡ 2 * length l.first;
  firsts : (i : ℕ) → i < l.i → get_or l.bits.items (2 * i) false ≡ get_or l.first i false;
  seconds : (i : ℕ) → i < l.i → get_or l.bits.items (2 * i + 1) false ≡ get_or l.second i false;
}
