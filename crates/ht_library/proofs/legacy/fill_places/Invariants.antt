use Rattle.std.proofs.Common.{◌≡◌, ℕ, ◌<◌, length, slice_index}
use Rattle.ht_clause18.specs.Interleaver.{place_of}
use Rattle.ht_library.proofs.legacy.fill_places.Given as goal

abbrev pub invariant-loop-k : goal.invariant-loop-k
invariant-loop-k l = record {
  size : length l.places ≡ length l.fn.places;
  done : (k : ℕ) → k < l.k → slice_index l.places k ≡ place_of l.rate k;
}
