-- Diagonals and samples in their octets.
use Rattle.std.proofs.Common.{◌≡◌, ℕ, zero, suc, ◌+◌, ◌*◌, ◌<◌, List, [], ◌∷◌, drop, length, refl, sym, ap, ◌∙◌, arith}
use Rattle.std.specs.Prelude.{slice_index_or}
use Rattle.std.specs.Int.{cast_signed, w32}
use Rattle.std.proofs.lemmas.List.{drop-drop}
use Rattle.byteorder.specs.Endian.{big_number}
use Rattle.ht_metric.specs.declared.sample.Sample.{Sample}
use Rattle.ht_metric.specs.Rows.{Row, no_sample}
use Rattle.ht_pam.specs.declared.axes.Axes.{Axes}
use Rattle.ht_clause18.specs.declared.rates.LegacyRate.{LegacyRate}
use Rattle.ht_clause18.specs.Carriers.{carriers, carrier_of}
use Rattle.ht_clause18.specs.Pilots.{pilot_of}
use Rattle.ht_capture.specs.Frames.{one_point}
use Rattle.ht_rate.specs.declared.kinds.Carrier.{Carrier}
use Rattle.ht_rate.specs.declared.kinds.Carrier.TheVariants.{Data, Pilot}
use Rattle.ht_capture.specs.Numbers.{sample_at}
use Rattle.ht_legacy_files.specs.CaptureFormats.{numbers_from, samples_from}
use Rattle.ht_legacy_blocks.specs.Jobs.{axes_for, diagonals_of, grid_at, row_of, samples_of}
use Rattle.ht_legacy_blocks.specs.Symbols.{full_of}

-- the number at a place
number_at : (n k : ℕ) (octets : List ℕ) → k < n → slice_index_or (numbers_from n octets) k 0 ≡ big_number 2 (drop (2 * k) octets)
number_at zero k octets lt = absurd (omega arith)
number_at (suc n) zero octets lt = refl
number_at (suc n) (suc k) octets lt =
    let place : 2 + 2 * k ≡ 2 * suc k = omega arith in
    number_at n k (drop 2 octets) (omega (arith, lt))
    ∙ (ap (λ (xs : List ℕ). big_number 2 xs) (drop-drop (2 * k) 2 octets) ∙ ap (λ m. big_number 2 (drop m octets)) place)

sample_behind : (at : ℕ) (octets : List ℕ) → sample_at (drop 8 octets) at ≡ sample_at octets (8 + at)
unfolding sample_at
sample_behind at octets =
    let place : 8 + (at + 4) ≡ 8 + at + 4 = omega arith in
    let made : ℕ → ℕ → Sample = λ re im. record { re = cast_signed w32 re; im = cast_signed w32 im } in
    ap (λ re. made re (big_number 4 (drop (at + 4) (drop 8 octets)))) (ap (λ (xs : List ℕ). big_number 4 xs) (drop-drop at 8 octets))
    ∙ ap (λ im. made (big_number 4 (drop (8 + at) octets)) im)
    (ap (λ (xs : List ℕ). big_number 4 xs) (drop-drop (at + 4) 8 octets) ∙ ap (λ m. big_number 4 (drop m octets)) place)

-- the sample at a place
sample_place : (n k : ℕ) (octets : List ℕ) → k < n → slice_index_or (samples_from n octets) k no_sample ≡ sample_at octets (8 * k)
sample_place zero k octets lt = absurd (omega arith)
sample_place (suc n) zero octets lt = refl
sample_place (suc n) (suc k) octets lt =
    let place : 8 + 8 * k ≡ 8 * suc k = omega arith in
    sample_place n k (drop 8 octets) (omega (arith, lt)) ∙ (sample_behind (8 * k) octets ∙ ap (sample_at octets) place)

-- as a symbol reads them
pub diagonal_is : (octets : List ℕ) (k n x : ℕ) → n ≡ k → k < carriers → x ≡ big_number 2 (drop (2 * n) octets)
    → x ≡ slice_index_or (diagonals_of octets) k 0
unfolding diagonals_of
diagonal_is octets k n x same lt is = is ∙ (ap (λ m. big_number 2 (drop (2 * m) octets)) same ∙ sym (number_at carriers k octets lt))

pub sample_is : (octets : List ℕ) (k n : ℕ) (x : Sample) → n ≡ k → k < carriers → x ≡ sample_at octets (8 * n)
    → x ≡ slice_index_or (samples_of octets) k no_sample
unfolding samples_of
sample_is octets k n x same lt is = is ∙ (ap (λ m. sample_at octets (8 * m)) same ∙ sym (sample_place carriers k octets lt))

-- grid and system have one stream
pub one_stream : (grid : List Axes) (rows : List Row) (rate : LegacyRate) (symbol carrier diagonal : ℕ) (sample : Sample)
    → grid ≡ grid_at rate symbol carrier → rows ≡ row_of diagonal sample → length grid ≡ length rows
unfolding grid_at
one_stream grid rows rate symbol carrier diagonal sample g r = ap (λ (xs : List Axes). length xs) g ∙ sym (ap (λ (xs : List Row). length xs) r)

-- the grid of a data subcarrier, and of a pilot
pub data_grid : (full : List Axes) (rate : LegacyRate) (symbol carrier m : ℕ) (kind : Carrier) → full ≡ full_of rate → kind ≡ carrier_of carrier
    → kind ≡ Data m → full ≡ grid_at rate symbol carrier
unfolding grid_at
data_grid full rate symbol carrier m kind is found same = is ∙ ap (λ (k : Carrier). axes_for rate symbol k ∷ []) (sym same ∙ found)

pub pilot_grid : (grid : List Axes) (rate : LegacyRate) (symbol carrier index : ℕ) (kind : Carrier) → grid ≡ one_point (pilot_of symbol index) ∷ []
    → kind ≡ carrier_of carrier → kind ≡ Pilot index → grid ≡ grid_at rate symbol carrier
unfolding grid_at
pilot_grid grid rate symbol carrier index kind is found same = is ∙ ap (λ (k : Carrier). axes_for rate symbol k ∷ []) (sym same ∙ found)
