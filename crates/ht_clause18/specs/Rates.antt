-- The rate-dependent parameters of the OFDM PHY at 20 MHz (IEEE Std 802.11-2012, clause 18.3.2.3, table 18-4), and the
-- number of symbols that a PSDU takes (clause 18.3.5.4).
use Rattle.std.specs.Prelude.{ℕ, ◌+◌, ◌-◌, ◌*◌, ◌/◌, max, List, [], ◌∷◌, Option, slice_get}
use Rattle.std.specs.Int.{div_ceil}
use Rattle.ht_rate.specs.declared.kinds.Modulation.{Modulation}
use Rattle.ht_rate.specs.declared.kinds.Modulation.TheVariants.{Bpsk, Qpsk, Qam16, Qam64}
use Rattle.ht_rate.specs.declared.kinds.Pattern.{Pattern}
use Rattle.ht_rate.specs.declared.kinds.Pattern.TheVariants.{Half, TwoThirds, ThreeQuarters}
use Rattle.ht_clause18.specs.declared.rates.LegacyRate.{LegacyRate}
use Rattle.ht_clause18.specs.declared.rates.LegacyRate.TheVariants.{Mbit6, Mbit9, Mbit12, Mbit18, Mbit24, Mbit36, Mbit48, Mbit54}

-- a row of the table: its number, counted from 0, modulation, coding rate R, and the bits N_BPSC, N_CBPS and N_DBPS
pub record Row : Type 0 where
  pub index : ℕ
  pub modulation : Modulation
  pub pattern : Pattern
  pub label_bits : ℕ
  pub coded_bits : ℕ
  pub data_bits : ℕ

-- table 18-4, the columns for 20 MHz
abbrev pub row_of : LegacyRate → Row
row_of Mbit6 = record { index = 0; modulation = Bpsk; pattern = Half; label_bits = 1; coded_bits = 48; data_bits = 24 }
row_of Mbit9 = record { index = 1; modulation = Bpsk; pattern = ThreeQuarters; label_bits = 1; coded_bits = 48; data_bits = 36 }
row_of Mbit12 = record { index = 2; modulation = Qpsk; pattern = Half; label_bits = 2; coded_bits = 96; data_bits = 48 }
row_of Mbit18 = record { index = 3; modulation = Qpsk; pattern = ThreeQuarters; label_bits = 2; coded_bits = 96; data_bits = 72 }
row_of Mbit24 = record { index = 4; modulation = Qam16; pattern = Half; label_bits = 4; coded_bits = 192; data_bits = 96 }
row_of Mbit36 = record { index = 5; modulation = Qam16; pattern = ThreeQuarters; label_bits = 4; coded_bits = 192; data_bits = 144 }
row_of Mbit48 = record { index = 6; modulation = Qam64; pattern = TwoThirds; label_bits = 6; coded_bits = 288; data_bits = 192 }
row_of Mbit54 = record { index = 7; modulation = Qam64; pattern = ThreeQuarters; label_bits = 6; coded_bits = 288; data_bits = 216 }

-- the constellation
unfoldable pub modulation_of : LegacyRate → Modulation
modulation_of r = (row_of r).modulation

-- the coding rate R, as a puncturing pattern
unfoldable pub pattern_of : LegacyRate → Pattern
pattern_of r = (row_of r).pattern

-- N_BPSC, the coded bits of a subcarrier
unfoldable pub label_bits_of : LegacyRate → ℕ
label_bits_of r = (row_of r).label_bits

-- N_CBPS, the coded bits of a symbol
unfoldable pub coded_bits_of : LegacyRate → ℕ
coded_bits_of r = (row_of r).coded_bits

-- N_DBPS, the data bits of a symbol
unfoldable pub data_bits_of : LegacyRate → ℕ
data_bits_of r = (row_of r).data_bits

-- s = max(1, N_BPSC / 2) (clause 18.3.5.7)
unfoldable pub axis_bits_of : LegacyRate → ℕ
axis_bits_of r = max 1 (label_bits_of r / 2)

-- the index by which files name a rate
abbrev pub index_of : LegacyRate → ℕ
index_of r = (row_of r).index

-- the rows in their order
abbrev pub all_rates : List LegacyRate
all_rates = Mbit6 ∷ Mbit9 ∷ Mbit12 ∷ Mbit18 ∷ Mbit24 ∷ Mbit36 ∷ Mbit48 ∷ Mbit54 ∷ []

-- the rate of an index, if there is one
unfoldable pub rate_of : ℕ → Option LegacyRate
rate_of index = slice_get all_rates index

-- the bits that a PSDU of this length in octets needs: SERVICE, the octets and six tail bits
abbrev pub needed_bits : ℕ → ℕ
needed_bits length = 16 + 8 * length + 6

-- N_SYM, the symbols that hold these bits
unfoldable pub symbols_of : LegacyRate → ℕ → ℕ
symbols_of r length = div_ceil (needed_bits length) (data_bits_of r)

-- N_PAD, the pad bits behind them in the last symbol
unfoldable pub pads_of : LegacyRate → ℕ → ℕ
pads_of r length = symbols_of r length * data_bits_of r - needed_bits length
