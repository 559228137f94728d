-- Worked values: jobs of a symbol, and the heads and jobs of a small capture.
use Rattle.std.proofs.Common.{◌≡◌, ℕ, pos, List, [], ◌∷◌, length, map, replicate, refl}
use mathlib.Core.Bool.{xor}
use Rattle.ht_pam.specs.declared.axes.Axes.{Axes}
use Rattle.ht_scramble.specs.Sequence.{delayed, sequence, polarity_at}
use Rattle.ht_map.specs.Constellation.{axes_of}
use Rattle.ht_metric.specs.declared.sample.Sample.{Sample}
use Rattle.ht_metric.specs.Jobs.{JobView}
use Rattle.ht_clause18.specs.declared.rates.LegacyRate.TheVariants.{Mbit6, Mbit24, Mbit54}
use Rattle.ht_clause18.specs.Carriers.{carrier_of}
use Rattle.ht_clause18.specs.Pilots.{pilot_of}
use Rattle.ht_clause18.specs.Rates.{data_bits_of, modulation_of, symbols_of}
use Rattle.ht_feed.specs.Items.{Item, frames_of, jobs_of as jobs_among}
use Rattle.ht_legacy_files.specs.CaptureItems.{LegacyItem, Begins as BeginsFrame, Symbol}
use Rattle.ht_legacy_blocks.specs.declared.head.LegacyFrameHead.{LegacyFrameHead}
use Rattle.ht_legacy_blocks.specs.Frames.{at_first, frames_in, given_from, whole_frames}
use Rattle.ht_legacy_blocks.specs.Jobs.{SymbolView, diagonals_of, grid_at, job_of, jobs_between, samples_of}

-- one level for I and one for Q
point_axes : ℕ → Axes
point_axes mask = record { i = record { size = 2; mask = mask }; q = record { size = 1; mask = 1 } }

-- in symbol 0 pilot 0, on subcarrier 5, has the value 1, and pilot 3, on subcarrier 46, the value -1
pilots : (grid_at Mbit24 0 5 ≡ point_axes 2 ∷ []) × (grid_at Mbit24 0 46 ≡ point_axes 1 ∷ [])
unfolding point_axes grid_at carrier_of pilot_of polarity_at sequence delayed xor
pilots = (refl, refl)

-- a data subcarrier has all points of its rate, 2 levels of I in BPSK and 8 of I and Q in 64-QAM
constellations : (grid_at Mbit6 0 0 ≡ point_axes 3 ∷ [])
    × (grid_at Mbit54 0 51 ≡ record { i = record { size = 8; mask = 255 }; q = record { size = 8; mask = 255 } } ∷ [])
unfolding point_axes grid_at carrier_of modulation_of axes_of
constellations = (refl, refl)

-- the second diagonal, and the second sample
read : (map (λ n. n) (diagonals_of (0 ∷ 1 ∷ 2 ∷ 3 ∷ replicate 100 0)) ≡ 1 ∷ 515 ∷ replicate 50 0) × (length (samples_of (replicate 416 0)) ≡ 52)
unfolding diagonals_of samples_of
read = (refl, refl)

sample_of : ℕ → Sample
sample_of re = record { re = pos re; im = pos 0 }

-- symbol 1 of frame 3, whose jobs begin with number 152
symbol : SymbolView
symbol = record {
  head = record { frame = 3; rate = Mbit6; length = 1 };
  diagonals = 10 ∷ 20 ∷ replicate 50 0;
  symbol = 1;
  number = 152;
  samples = sample_of 7 ∷ sample_of 8 ∷ replicate 50 (sample_of 0);
}

-- its job on subcarrier 1
second_job : job_of symbol 1
    ≡ record {
      number = 153;
      place = record { frame = 3; symbol = 1; carrier = 1 };
      grid = point_axes 3 ∷ [];
      system = record { diagonal = 20; right = []; sample = sample_of 8 } ∷ [];
    }
unfolding symbol sample_of point_axes job_of grid_at carrier_of modulation_of axes_of
second_job = refl

-- a frame of one octet at 6 Mbit/s has two symbols; of a second frame one symbol came, and of a third none
silent : LegacyItem
silent = Symbol (replicate 52 (sample_of 0))

head : LegacyItem
head = BeginsFrame (record { rate = Mbit6; length = 1; diagonals = replicate 52 10 })

items : List (Item LegacyFrameHead)
items = given_from at_first (head ∷ silent ∷ silent ∷ head ∷ silent ∷ head ∷ [])

counted : (frames_of items ≡ 3) × (length (jobs_among items) ≡ 156) × (map (λ (j : JobView). j.number) (jobs_between symbol 50 2) ≡ 202 ∷ 203 ∷ [])
unfolding items head silent symbol jobs_between job_of
counted = (refl, refl, refl)

whole : (length (frames_in items) ≡ 3) × (map (λ f. f.head.frame) (whole_frames items) ≡ 0 ∷ [])
unfolding items head silent jobs_between symbols_of data_bits_of
whole = (refl, refl)
