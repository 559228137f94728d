-- Tables of texts.
use Rattle.std.specs.Prelude.{◌≡◌, ℕ, ◌<◌, List, length, slice_index_or}
use Rattle.ht_map.specs.Gray.{point_of}
use Rattle.ht_rate.specs.declared.kinds.Modulation.{Modulation}
use Rattle.ht_rx.specs.declared.carrier_text.CarrierText.{CarrierText}
use Rattle.ht_rx.specs.declared.point_text.PointText.{PointText}

-- each text is that of the point with its index as label
abbrev pub ArePoints : Modulation → List PointText → Type 0
ArePoints m texts = (k : ℕ) (d : PointText) → k < length texts → (slice_index_or texts k d).point ≡ point_of m k

-- each text is that of its index
abbrev pub AreCarriers : List CarrierText → Type 0
AreCarriers texts = (k : ℕ) (d : CarrierText) → k < length texts → (slice_index_or texts k d).carrier ≡ k
