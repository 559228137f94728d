use Rattle.std.proofs.Common.{◌≡◌, ◌<◌, ℕ, length, slice_index, slice_index_or}
use Rattle.ht_rounding.specs.Loading.{IsPlain, no_job}
use Rattle.ht_rounding.proofs.eight.plain_lanes.Given as goal

abbrev pub invariant-loop-k : goal.invariant-loop-k
invariant-loop-k l =
    (length l.lanes ≡ 8)
    × ((j : ℕ) → j < l.k → 0 < slice_index l.lanes j → IsPlain l.fn.i l.fn.q l.fn.streams (slice_index_or l.fn.jobs j no_job))
