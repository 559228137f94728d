use Rattle.std.proofs.Common.{◌≡◌, ◌<◌, ℕ, length, slice_index, slice_index_or}
use Rattle.ht_rounding.specs.Loading.{IsPartOf, no_job}
use Rattle.ht_rounding.proofs.loading.lanes_of.Given as goal

abbrev pub invariant-loop-k : goal.invariant-loop-k
invariant-loop-k l =
    (length l.lanes ≡ 8) × ((j : ℕ) → j < l.k → IsPartOf l.fn.part l.fn.row (slice_index_or l.fn.jobs j no_job).system (slice_index l.lanes j))
