-- The parts of a rate (IEEE Std 802.11-2012, clause 20.6): what its bandwidth, its number of streams and its scheme say.
use Rattle.std.specs.Prelude.{ℕ, List, [], ◌∷◌, ◌==◌, length, if◌then◌else◌, slice_index_or}
use Rattle.std.specs.List.{list_any}
use Rattle.ht_rate.specs.declared.kinds.Bandwidth.{Bandwidth}
use Rattle.ht_rate.specs.declared.kinds.Bandwidth.TheVariants.{Mhz20, Mhz40}
use Rattle.ht_rate.specs.declared.kinds.Modulation.{Modulation}
use Rattle.ht_rate.specs.declared.kinds.Modulation.TheVariants.{Bpsk, Qpsk, Qam16, Qam64}
use Rattle.ht_rate.specs.declared.kinds.Pattern.{Pattern}
use Rattle.ht_rate.specs.declared.kinds.Pattern.TheVariants.{Half, TwoThirds, ThreeQuarters, FiveSixths}
use Rattle.ht_rate.specs.declared.parts.Streams.{Streams}
use Rattle.ht_rate.specs.declared.parts.Streams.TheVariants.{One, Two, Three, Four}
use Rattle.ht_rate.specs.declared.parts.Scheme.{Scheme}
use Rattle.ht_rate.specs.declared.parts.Scheme.TheVariants.{BpskHalf, QpskHalf, QpskThreeQuarters, Qam16Half, Qam16ThreeQuarters}
use Rattle.ht_rate.specs.declared.parts.Scheme.TheVariants.{Qam64TwoThirds, Qam64ThreeQuarters, Qam64FiveSixths}

-- N_SS, the number of spatial streams
abbrev pub count_of : Streams → ℕ
count_of One = 1
count_of Two = 2
count_of Three = 3
count_of Four = 4

-- the streams of an MCS index with this number of whole eights
abbrev pub streams_at : ℕ → Streams
streams_at eights = slice_index_or (One ∷ Two ∷ Three ∷ Four ∷ []) eights Four

-- a row of the eight that repeat for each number of spatial streams: the MCS index modulo 8, the constellation and the
-- coding rate
pub record Row : Type 0 where
  pub number : ℕ
  pub modulation : Modulation
  pub pattern : Pattern

-- tables 20-30 to 20-37
abbrev pub row_of : Scheme → Row
row_of BpskHalf = record { number = 0; modulation = Bpsk; pattern = Half }
row_of QpskHalf = record { number = 1; modulation = Qpsk; pattern = Half }
row_of QpskThreeQuarters = record { number = 2; modulation = Qpsk; pattern = ThreeQuarters }
row_of Qam16Half = record { number = 3; modulation = Qam16; pattern = Half }
row_of Qam16ThreeQuarters = record { number = 4; modulation = Qam16; pattern = ThreeQuarters }
row_of Qam64TwoThirds = record { number = 5; modulation = Qam64; pattern = TwoThirds }
row_of Qam64ThreeQuarters = record { number = 6; modulation = Qam64; pattern = ThreeQuarters }
row_of Qam64FiveSixths = record { number = 7; modulation = Qam64; pattern = FiveSixths }

-- the MCS index modulo 8
abbrev pub number_of : Scheme → ℕ
number_of scheme = (row_of scheme).number

-- the scheme of an MCS index modulo 8
abbrev pub scheme_at : ℕ → Scheme
scheme_at number =
    slice_index_or
    (BpskHalf ∷ QpskHalf ∷ QpskThreeQuarters ∷ Qam16Half ∷ Qam16ThreeQuarters ∷ Qam64TwoThirds ∷ Qam64ThreeQuarters ∷ Qam64FiveSixths ∷ [])
    number
    Qam64FiveSixths

-- the constellation
abbrev pub scheme_modulation : Scheme → Modulation
scheme_modulation scheme = (row_of scheme).modulation

-- the coding rate
abbrev pub scheme_pattern : Scheme → Pattern
scheme_pattern scheme = (row_of scheme).pattern

-- N_BPSCS, the coded bits of a subcarrier and stream
abbrev pub bits_of : Modulation → ℕ
bits_of Bpsk = 1
bits_of Qpsk = 2
bits_of Qam16 = 4
bits_of Qam64 = 6

-- of the coding rate R = numerator / denominator, the numerator
abbrev pub numerator_of : Pattern → ℕ
numerator_of Half = 1
numerator_of TwoThirds = 2
numerator_of ThreeQuarters = 3
numerator_of FiveSixths = 5

-- and the denominator
abbrev pub denominator_of : Pattern → ℕ
denominator_of Half = 2
denominator_of TwoThirds = 3
denominator_of ThreeQuarters = 4
denominator_of FiveSixths = 6

-- N_SD, the data subcarriers (table 20-6)
abbrev pub data_count : Bandwidth → ℕ
data_count Mhz20 = 52
data_count Mhz40 = 108

-- the indexes of the pilot subcarriers, counted from 0 at the lowest subcarrier (clause 20.3.11.10):
-- -21, -7, 7 and 21 of the subcarriers -28 to -1 and 1 to 28; -53, -25, -11, 11, 25 and 53 of -58 to -2 and 2 to 58
abbrev pub pilot_places : Bandwidth → List ℕ
pilot_places Mhz20 = 7 ∷ 21 ∷ 34 ∷ 48 ∷ []
pilot_places Mhz40 = 5 ∷ 33 ∷ 47 ∷ 66 ∷ 80 ∷ 108 ∷ []

-- N_SP, the pilot subcarriers
abbrev pub pilot_count : Bandwidth → ℕ
pilot_count b = length (pilot_places b)

-- the MCS indexes with two encoders at 40 MHz
abbrev pub two_encoders : List ℕ
two_encoders = 21 ∷ 22 ∷ 23 ∷ 28 ∷ 29 ∷ 30 ∷ 31 ∷ []

-- N_ES, the encoders at a bandwidth and an MCS index
abbrev pub encoder_count : Bandwidth → ℕ → ℕ
encoder_count Mhz20 mcs = 1
encoder_count Mhz40 mcs = if list_any (λ m. m == mcs) two_encoders then 2 else 1

-- the bandwidth of a code: 0 is 20 MHz, 1 is 40 MHz
abbrev pub bandwidth_at : ℕ → Bandwidth
bandwidth_at code = if code == 0 then Mhz20 else Mhz40

-- the code of a bandwidth
abbrev pub bandwidth_code : Bandwidth → ℕ
bandwidth_code Mhz20 = 0
bandwidth_code Mhz40 = 1
