-- What the walk over the samples of symbols keeps. No clause of a call for C cites it.
use Rattle.std.specs.Prelude.{◌≡◌, ℕ, ◌+◌, ◌*◌, ◌^◌, ◌<◌, ◌≤◌, List, length, map, slice_index, slice_index_or, sum}
use Rattle.std.specs.List.{range_with_len}
use Rattle.ht_rate.specs.declared.kinds.Modulation.{Modulation}
use Rattle.ht_rate.specs.declared.rates.Rate.{Rate}
use Rattle.ht_rate.specs.Rates.{modulation_of, streams_of}
use Rattle.ht_metric.specs.declared.found.Found.{Found}
use Rattle.ht_metric.specs.Vectors.{no_point}
use Rattle.ht_results.specs.Folding.{label_at}
use Rattle.ht_rounding.specs.Loading.{no_found}
use Rattle.ht_library.specs.declared.crossing.MizgaureChannel.{MizgaureChannel}
use Rattle.ht_library.specs.declared.crossing.MizgaureDistance.{MizgaureDistance}
use Rattle.ht_library.specs.declared.crossing.MizgaureHit.{MizgaureHit}
use Rattle.ht_library.specs.declared.crossing.MizgaureReceived.{MizgaureReceived}
use Rattle.ht_library.specs.declared.symbols.SymbolSum.{SymbolSum}
use Rattle.ht_library.specs.Detected.{IsHit, no_hit}
use Rattle.ht_library.specs.Symbols.{IsDistance, IsEmptyOr, found_at, no_distance, symbol_distance}

-- the hits of the first of the samples are there, where they are wanted
abbrev pub AreHitsBelow : ℕ → (ℕ → Found) → List MizgaureHit → Type 0
AreHitsBelow count found hits = (k : ℕ) → k < count → k < length hits → IsHit (found k) (slice_index_or hits k no_hit)

-- their labels are
abbrev pub AreLabelsBelow : ℕ → Modulation → ℕ → (ℕ → Found) → List ℕ → Type 0
AreLabelsBelow count m streams found labels = (k s : ℕ) → k < count → s < streams → k * streams + s < length labels
    → slice_index labels (k * streams + s) ≡ label_at m (slice_index_or (found k).vector s no_point)

-- The squared distances of so many samples are summed up: those of the symbols that are whole stand among the sums, where they
-- are wanted, and the others are on their way.
pub record AreSummed (count each : ℕ) (found : ℕ → Found) (under_way : SymbolSum) (sums : List MizgaureDistance) : Type 0 where
  pub at : count ≡ under_way.symbol * each + under_way.samples
  pub within : under_way.samples < each
  pub few : under_way.distance ≤ under_way.samples * 2 ^ 66
  pub distance : under_way.distance ≡ sum (map (λ k. (found k).distance) (range_with_len (under_way.symbol * each) under_way.samples))
  pub done : (s : ℕ) → s < under_way.symbol → s < length sums → IsDistance (symbol_distance each found s) (slice_index_or sums s no_distance)

-- eight things were found, those of the samples from one on
abbrev pub AreFoundFrom : ℕ → (ℕ → Found) → List Found → Type 0
AreFoundFrom at found founds = (k : ℕ) → k < 8 → slice_index_or founds k no_found ≡ found (at + k)

-- there is room for what is wanted of so many samples
pub record HasRoom (streams samples hits labels : ℕ) : Type 0 where
  pub hits_fit : IsEmptyOr samples hits
  pub labels_fit : IsEmptyOr (samples * streams) labels

-- the first of the samples are answered
pub record AreAnswered (count : ℕ) (rate : Rate) (channels : List MizgaureChannel) (received : List MizgaureReceived) (hits : List MizgaureHit)
    (labels : List ℕ) (under_way : SymbolSum) (sums : List MizgaureDistance) : Type 0 where
  pub are_hits : AreHitsBelow count (found_at rate channels received) hits
  pub are_labels : AreLabelsBelow count (modulation_of rate) (streams_of rate) (found_at rate channels received) labels
  pub are_summed : AreSummed count (length channels) (found_at rate channels received) under_way sums
