use Rattle.std.proofs.Common.{◌≡◌, ◌<◌, ℕ, length, slice_index_or}
use Rattle.ht_rounding.specs.Loading.{no_job}
use Rattle.ht_rounding.proofs.block.have_streams.Given as goal

abbrev pub invariant-loop-k : goal.invariant-loop-k
invariant-loop-k l = (j : ℕ) → j < l.k → length (slice_index_or l.fn.jobs j no_job).system ≡ l.fn.streams
