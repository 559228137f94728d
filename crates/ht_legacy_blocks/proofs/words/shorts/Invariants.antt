-- the lanes so far
use Rattle.std.proofs.Common.{◌≡◌, ◌^◌, ◌<◌, ◌+◌, ◌*◌, ℕ, length, slice_index}
use Rattle.ht_capture.specs.Numbers.{unsigned_at}
use Rattle.ht_legacy_blocks.proofs.words.shorts.Given as goal

abbrev pub invariant-loop-k : goal.invariant-loop-k
invariant-loop-k l =
    (length l.lanes ≡ 8) × ((j : ℕ) → j < l.k → (slice_index l.lanes j ≡ unsigned_at l.fn.octets (l.fn.at + 2 * j)) × (slice_index l.lanes j < 2 ^ 16))
