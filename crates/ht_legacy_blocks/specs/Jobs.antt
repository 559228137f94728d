-- The jobs of a symbol of a clause 18 frame: one for each of its subcarriers.
use Rattle.std.specs.Prelude.{ℕ, ◌+◌, List, [], ◌∷◌, map, slice_index_or}
use Rattle.std.specs.List.{range_with_len}
use Rattle.ht_rate.specs.declared.kinds.Carrier.{Carrier}
use Rattle.ht_rate.specs.declared.kinds.Carrier.TheVariants.{Data, Pilot}
use Rattle.ht_pam.specs.declared.axes.Axes.{Axes}
use Rattle.ht_map.specs.Constellation.{axes_of}
use Rattle.ht_metric.specs.declared.sample.Sample.{Sample}
use Rattle.ht_metric.specs.Jobs.{JobView}
use Rattle.ht_metric.specs.Rows.{Row, no_sample}
use Rattle.ht_capture.specs.Frames.{one_point}
use Rattle.ht_clause18.specs.declared.rates.LegacyRate.{LegacyRate}
use Rattle.ht_clause18.specs.Carriers.{carriers, carrier_of}
use Rattle.ht_clause18.specs.Pilots.{pilot_of}
use Rattle.ht_clause18.specs.Rates.{modulation_of}
use Rattle.ht_legacy_files.specs.CaptureFormats.{numbers_from, samples_from}
use Rattle.ht_legacy_blocks.specs.declared.head.LegacyFrameHead.{LegacyFrameHead}

-- the points of a subcarrier: the constellation where it carries data, and the one point (v, 0) where it is a pilot
abbrev pub axes_for : LegacyRate → ℕ → Carrier → Axes
axes_for rate symbol (Data m) = axes_of (modulation_of rate)
axes_for rate symbol (Pilot k) = one_point (pilot_of symbol k)

-- the grid of a subcarrier in a symbol: one stream
unfoldable pub grid_at : LegacyRate → ℕ → ℕ → List Axes
grid_at rate symbol carrier = axes_for rate symbol (carrier_of carrier) ∷ []

-- the system of one row: its diagonal and what was received
abbrev pub row_of : ℕ → Sample → List Row
row_of diagonal sample = record { diagonal = diagonal; right = []; sample = sample } ∷ []

-- the diagonals that octets have, two for each subcarrier, and the samples, eight for each
unfoldable pub diagonals_of : List ℕ → List ℕ
diagonals_of octets = numbers_from carriers octets

unfoldable pub samples_of : List ℕ → List Sample
samples_of octets = samples_from carriers octets

-- a symbol of a frame: the frame's head and the diagonal of each of its subcarriers, the symbol's number in the frame, the
-- number of its first job in the capture, and the sample of each subcarrier
pub record SymbolView : Type 0 where
  pub head : LegacyFrameHead
  pub diagonals : List ℕ
  pub symbol : ℕ
  pub number : ℕ
  pub samples : List Sample

-- the job of a subcarrier
unfoldable pub job_of : SymbolView → ℕ → JobView
job_of s carrier = record {
  number = s.number + carrier;
  place = record { frame = s.head.frame; symbol = s.symbol; carrier = carrier };
  grid = grid_at s.head.rate s.symbol carrier;
  system = row_of (slice_index_or s.diagonals carrier 0) (slice_index_or s.samples carrier no_sample);
}

-- the jobs of a number of subcarriers, from one on
unfoldable pub jobs_between : SymbolView → ℕ → ℕ → List JobView
jobs_between s first count = map (job_of s) (range_with_len first count)

-- the jobs of all subcarriers, the lowest first
abbrev pub jobs_of : SymbolView → List JobView
jobs_of s = jobs_between s 0 carriers
