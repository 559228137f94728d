-- the lanes so far
use Rattle.std.proofs.Common.{◌≡◌, ◌<◌, ◌+◌, ◌*◌, ℕ, length, drop, slice_index}
use Rattle.std.specs.Int.{cast_signed, w32}
use Rattle.byteorder.specs.Endian.{big_number}
use Rattle.ht_rounding.specs.Loading.{IsWord}
use Rattle.ht_legacy_blocks.proofs.words.words.Given as goal

abbrev pub invariant-loop-k : goal.invariant-loop-k
invariant-loop-k l =
    (length l.lanes ≡ 8)
    × ((j : ℕ) → j < l.k → IsWord (slice_index l.lanes j) (cast_signed w32 (big_number 4 (drop (l.fn.at + 8 * j) l.fn.octets))))
