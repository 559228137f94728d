-- The rate-dependent parameters (IEEE Std 802.11-2012, clause 20.6, tables 20-30 to 20-37), and the number of symbols
-- that a PSDU takes (clause 20.3.11). A rate is a bandwidth, a number of spatial streams and a scheme of modulation and coding.
use Rattle.std.specs.Prelude.{ℕ, ◌+◌, ◌-◌, ◌*◌, ◌/◌, ◌%◌, max, nat_lt, if◌then◌else◌, Result, Ok, Err}
use Rattle.std.specs.Int.{div_ceil}
use Rattle.ht_rate.specs.declared.kinds.Bandwidth.{Bandwidth}
use Rattle.ht_rate.specs.declared.kinds.Modulation.{Modulation}
use Rattle.ht_rate.specs.declared.kinds.Pattern.{Pattern}
use Rattle.ht_rate.specs.declared.rates.Rate.{Rate}
use Rattle.ht_rate.specs.declared.rates.RateFault.{RateFault}
use Rattle.ht_rate.specs.declared.rates.RateFault.TheVariants.{BadBandwidth, BadMcs}
use Rattle.ht_rate.specs.Schemes.{
  count_of,
  streams_at,
  number_of,
  scheme_at,
  scheme_modulation,
  scheme_pattern,
  bits_of,
  numerator_of,
  denominator_of,
  data_count,
  pilot_count,
  encoder_count,
  bandwidth_at,
}

-- the bandwidth
unfoldable pub bandwidth_of : Rate → Bandwidth
bandwidth_of r = r.bandwidth

-- N_SS, the number of spatial streams
unfoldable pub streams_of : Rate → ℕ
streams_of r = count_of r.streams

-- the MCS index: eight schemes for each number of streams
unfoldable pub mcs_of : Rate → ℕ
mcs_of r = 8 * (streams_of r - 1) + number_of r.scheme

-- the constellation
unfoldable pub modulation_of : Rate → Modulation
modulation_of r = scheme_modulation r.scheme

-- the coding rate R, as a puncturing pattern
unfoldable pub pattern_of : Rate → Pattern
pattern_of r = scheme_pattern r.scheme

-- N_SD, the data subcarriers
unfoldable pub data_carriers_of : Rate → ℕ
data_carriers_of r = data_count r.bandwidth

-- N_SP, the pilot subcarriers
unfoldable pub pilots_of : Rate → ℕ
pilots_of r = pilot_count r.bandwidth

-- N_ST, all subcarriers
unfoldable pub carriers_of : Rate → ℕ
carriers_of r = data_carriers_of r + pilots_of r

-- N_BPSCS, the coded bits of a subcarrier and stream
unfoldable pub label_bits_of : Rate → ℕ
label_bits_of r = bits_of (modulation_of r)

-- s = max(1, N_BPSCS / 2), the bits of one axis of the constellation, at least 1
unfoldable pub axis_bits_of : Rate → ℕ
axis_bits_of r = max 1 (label_bits_of r / 2)

-- N_CBPSS = N_SD * N_BPSCS, the coded bits of a symbol and stream
unfoldable pub stream_bits_of : Rate → ℕ
stream_bits_of r = data_carriers_of r * label_bits_of r

-- N_CBPS = N_SS * N_CBPSS, the coded bits of a symbol
unfoldable pub coded_bits_of : Rate → ℕ
coded_bits_of r = streams_of r * stream_bits_of r

-- N_DBPS = N_CBPS * R, the data bits of a symbol
unfoldable pub data_bits_of : Rate → ℕ
data_bits_of r = coded_bits_of r * numerator_of (pattern_of r) / denominator_of (pattern_of r)

-- N_ES, the encoders: two at 40 MHz for the MCS indexes that are listed, else one
unfoldable pub encoders_of : Rate → ℕ
encoders_of r = encoder_count (bandwidth_of r) (mcs_of r)

-- the bits that a PSDU of this length in octets needs: SERVICE, the octets and six tail bits for each encoder
unfoldable pub needed_bits_of : Rate → ℕ → ℕ
needed_bits_of r length = 16 + 8 * length + 6 * encoders_of r

-- N_SYM, the symbols that hold these bits
unfoldable pub symbols_of : Rate → ℕ → ℕ
symbols_of r length = div_ceil (needed_bits_of r length) (data_bits_of r)

-- the pad bits behind them in the last symbol
unfoldable pub pads_of : Rate → ℕ → ℕ
pads_of r length = symbols_of r length * data_bits_of r - needed_bits_of r length

-- the labels of a frame: one for each symbol, data subcarrier and stream
unfoldable pub labels_of : Rate → ℕ → ℕ
labels_of r length = symbols_of r length * (data_carriers_of r * streams_of r)

-- the steps of a codeword: each encoder's share of SERVICE and octets, and its tail
unfoldable pub steps_of : Rate → ℕ → ℕ
steps_of r length = (8 * length + 16) / encoders_of r + 6

-- the rate of a code up to 1 and an MCS index up to 31
unfoldable pub rate_at : ℕ → ℕ → Rate
rate_at bw mcs = record { bandwidth = bandwidth_at bw; streams = streams_at (mcs / 8); scheme = scheme_at (mcs % 8) }

-- the rate of a bandwidth's code (0 is 20 MHz, 1 is 40 MHz) and an MCS index, or why there is none
unfoldable pub rate_of : ℕ → ℕ → Result Rate RateFault
rate_of bw mcs = if nat_lt 1 bw then Err BadBandwidth else (if nat_lt 31 mcs then Err BadMcs else Ok (rate_at bw mcs))
