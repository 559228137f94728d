-- What C gets of whole symbols: the points, the labels and the distances that were found.
use Rattle.std.specs.Prelude.{◌≡◌, ◌⊎◌, ℕ, ◌+◌, ◌*◌, ◌/◌, ◌%◌, ◌^◌, ◌<◌, ◌≤◌, List, length, map, slice_index, slice_index_or, sum, Some}
use Rattle.std.specs.List.{range_with_len}
use Rattle.ht_rate.specs.declared.kinds.Modulation.{Modulation}
use Rattle.ht_rate.specs.declared.rates.Rate.{Rate}
use Rattle.ht_rate.specs.Rates.{streams_of}
use Rattle.ht_map.specs.Gray.{label_of}
use Rattle.ht_metric.specs.declared.found.Found.{Found}
use Rattle.ht_metric.specs.Jobs.{near}
use Rattle.ht_metric.specs.Vectors.{no_point}
use Rattle.ht_library.specs.declared.crossing.MizgaureChannel.{MizgaureChannel}
use Rattle.ht_library.specs.declared.crossing.MizgaureDistance.{MizgaureDistance}
use Rattle.ht_library.specs.declared.crossing.MizgaureHit.{MizgaureHit}
use Rattle.ht_library.specs.declared.crossing.MizgaureReceived.{MizgaureReceived}
use Rattle.ht_library.specs.Detected.{IsHit, job_at, no_hit}

-- what is found for the sample of this number
abbrev pub found_at : Rate → List MizgaureChannel → List MizgaureReceived → ℕ → Found
found_at rate channels received k = near (job_at rate channels received k)

-- an output isn't wanted, or has as many places as this
abbrev pub IsEmptyOr : ℕ → ℕ → Type 0
IsEmptyOr whole places = (places ≡ 0) ⊎ (places ≡ whole)

-- The samples are those of whole symbols over these channels. Each output that is wanted has a place for each sample, for each
-- stream of each sample, and for each symbol.
pub record AreSymbols (rate : Rate) (channels received hits labels sums : ℕ) : Type 0 where
  pub some : 1 ≤ channels
  pub whole : received % channels ≡ 0
  pub hits_fit : IsEmptyOr received hits
  pub labels_fit : IsEmptyOr (received * streams_of rate) labels
  pub sums_fit : IsEmptyOr (received / channels) sums

-- these hits are what was found for their samples
abbrev pub AreHits : (ℕ → Found) → List MizgaureHit → Type 0
AreHits found hits = (k : ℕ) → k < length hits → IsHit (found k) (slice_index_or hits k no_hit)

-- these labels are those of the points that were found, sample by sample and in each stream by stream
abbrev pub AreLabelsOf : Modulation → ℕ → (ℕ → Found) → List ℕ → Type 0
AreLabelsOf m streams found labels = (k s : ℕ) → s < streams → k * streams + s < length labels
    → label_of m (slice_index_or (found k).vector s no_point) ≡ Some (slice_index labels (k * streams + s))

-- what stands where there is none
abbrev pub no_distance : MizgaureDistance
no_distance = record { low = 0; high = 0 }

-- the sum of the squared distances of the samples of a symbol, each of which has so many
abbrev pub symbol_distance : ℕ → (ℕ → Found) → ℕ → ℕ
symbol_distance each found symbol = sum (map (λ k. (found k).distance) (range_with_len (symbol * each) each))

-- a sum as C has it
abbrev pub IsDistance : ℕ → MizgaureDistance → Type 0
IsDistance distance d = d.low + 2 ^ 64 * d.high ≡ distance

-- these sums are those of their symbols' squared distances
abbrev pub AreSums : ℕ → (ℕ → Found) → List MizgaureDistance → Type 0
AreSums each found sums = (s : ℕ) → s < length sums → IsDistance (symbol_distance each found s) (slice_index_or sums s no_distance)
