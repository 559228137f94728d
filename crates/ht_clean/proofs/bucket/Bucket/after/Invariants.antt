use Rattle.std.proofs.Common.{◌≡◌, ◌+◌, ◌*◌, ◌<◌, ◌≤◌, ℕ, List, Bool, Option}
use Rattle.ht_clean.specs.Planes.{plane_bits}
use Rattle.ht_clean.specs.Sparse.{IsPoured, brim, wrong_at}
use Rattle.ht_clean.proofs.bucket.Bucket.after.Given as goal

abbrev pub invariant-loop-step : goal.invariant-loop-step
invariant-loop-step l = record {
  low : l.bucket.level < brim l.pattern;
  few : l.bucket.wrong ≤ l.fn.self.wrong + 2 * l.step;
  poured : (received : List (Option Bool)) (u : List Bool) (first : ℕ)
      → ((step : ℕ) → step < l.count → plane_bits l.wrong step ≡ wrong_at l.pattern received u (first + step))
      → IsPoured l.pattern received u first l.fn.self.level l.fn.self.wrong
      → IsPoured l.pattern received u (first + l.step) l.bucket.level l.bucket.wrong;
}
