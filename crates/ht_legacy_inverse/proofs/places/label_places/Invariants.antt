-- The places of the coded bits so far.
use Rattle.std.proofs.Common.{◌≡◌, ℕ, ◌<◌, length, slice_index_or}
use Rattle.ht_legacy_inverse.specs.Places.{label_place_of, no_place}
use Rattle.ht_legacy_inverse.proofs.places.label_places.Given as goal

abbrev pub invariant-loop-k : goal.invariant-loop-k
invariant-loop-k l = record {
  whole : length l.places ≡ 288;
  each : (k : ℕ) → k < l.k → slice_index_or l.places k no_place ≡ label_place_of l.rate k;
}
