-- A triangular system as a list of rows, the first stream's row first.
use Rattle.std.specs.Prelude.{◌≡◌, ℕ, zero, suc, ◌+◌, ◌-◌, ◌≤◌, pos}
use Rattle.std.specs.Prelude.{List, [], ◌∷◌, length, take, drop, replicate, slice_index, slice_index_or}
use Rattle.ht_metric.specs.declared.tap.Tap.{Tap}
use Rattle.ht_metric.specs.declared.sample.Sample.{Sample}

-- one row of a triangle: its real diagonal, and the complex entries to the right of it
pub record Leg : Type 0 where
  pub diagonal : ℕ
  pub right : List Tap

-- one row of a system: a row of the triangle and what was received on it
pub record Row : Type 0 where
  pub diagonal : ℕ
  pub right : List Tap
  pub sample : Sample

-- an entry, a sample and rows of zeros, which stand where there is none
abbrev pub no_tap : Tap
no_tap = record { re = pos 0; im = pos 0 }

abbrev pub no_sample : Sample
no_sample = record { re = pos 0; im = pos 0 }

abbrev pub no_leg : Leg
no_leg = record { diagonal = 0; right = [] }

abbrev pub no_row : Row
no_row = record { diagonal = 0; right = []; sample = no_sample }

-- the number of entries that stand above the diagonal of this number of streams
abbrev pub entries_of : ℕ → ℕ
entries_of zero = 0
entries_of (suc streams) = streams + entries_of streams

-- the rows of a triangle of this number of streams, whose entries lie one row after the other
abbrev pub legs_of : ℕ → List ℕ → List Tap → List Leg
legs_of zero diagonals entries = []
legs_of (suc streams) diagonals entries =
    record { diagonal = slice_index diagonals 0; right = take streams entries } ∷ legs_of streams (drop 1 diagonals) (drop streams entries)

-- the rows of a system: those of its triangle, each with its sample
abbrev pub rows_of : List Leg → List Sample → List Row
rows_of [] samples = []
rows_of (leg ∷ legs) samples =
    record { diagonal = leg.diagonal; right = leg.right; sample = slice_index_or samples 0 no_sample } ∷ rows_of legs (drop 1 samples)

-- a triangle of one to four streams in arrays whose other places are zero
pub record IsTriangle (streams : ℕ) (diagonal : List ℕ) (above : List Tap) : Type 0 where
  pub some : 1 ≤ streams
  pub few : streams ≤ 4
  pub diagonals : length diagonal ≡ 4
  pub entries : length above ≡ 6
  pub unused_diagonals : drop streams diagonal ≡ replicate (4 - streams) 0
  pub unused_entries : drop (entries_of streams) above ≡ replicate (6 - entries_of streams) no_tap

-- the samples of a triangle's rows in an array whose other places are zero
pub record IsSampled (legs : List Leg) (y : List Sample) : Type 0 where
  pub some : 1 ≤ length legs
  pub few : length legs ≤ 4
  pub samples : length y ≡ 4
  pub unused : drop (length legs) y ≡ replicate (4 - length legs) no_sample
