use Rattle.std.proofs.Common.{◌≡◌, ◌+◌, ◌*◌, ◌<◌, ℕ, false, get_or, vec_len, vec_capacity}
use Rattle.ht_parse.proofs.encoders.every_second.Given as goal

abbrev pub invariant-loop-i : goal.invariant-loop-i
invariant-loop-i l = record {
  count : vec_len l.taken ≡ l.i;
  capacity : vec_capacity l.taken ≡ l.half;
  places : (i : ℕ) → i < l.i → get_or l.taken.items i false ≡ get_or l.bits (2 * i + l.start) false;
}
