use Rattle.std.proofs.Common.{◌≡◌, ◌^◌, ◌<◌, ℕ, length, slice_index_or}
use Rattle.ht_metric.specs.Jobs.{near}
use Rattle.ht_rounding.specs.Loading.{no_found, no_job}
use Rattle.ht_rounding.proofs.block.find_eight.Given as goal

abbrev pub invariant-loop-k : goal.invariant-loop-k
invariant-loop-k g l = record {
  near : (length l.founds ≡ 8) × ((j : ℕ) → j < l.k → slice_index_or l.founds j no_found ≡ near (slice_index_or l.fn.jobs j no_job));
  below : (j : ℕ) → j < l.k → (slice_index_or l.founds j no_found).distance < 2 ^ 66;
}
