-- Worked landings, by computation.
use Rattle.std.proofs.Common.{◌≡◌, ℕ, ◌+◌, ◌*◌, refl}
use Rattle.ht_rate.specs.Rates.{rate_at, bandwidth_of, streams_of, mcs_of, data_carriers_of, label_bits_of}
use Rattle.ht_rate.specs.Rates.{stream_bits_of, coded_bits_of, encoders_of, modulation_of, axis_bits_of}
use Rattle.ht_parse.specs.Streams.{share_of, source_of, stream_place_of}
use Rattle.ht_interleave.specs.Interleaver.{place_of, origin_of}
use Rattle.ht_interleave.specs.Steps.{columns_of, rows_of, rotation_of, turn_of, first, second, third, first_back, second_back, third_back}
use Rattle.ht_landing.specs.declared.landings.Landing.{Landing}
use Rattle.ht_landing.specs.Landings.{landing_of, coded_bit_of}

abbrev at : ℕ → ℕ → ℕ → ℕ → Landing
at symbol stream carrier bit = record { symbol = symbol; stream = stream; carrier = carrier; bit = bit }

-- BPSK at 20 MHz on one stream: bit 14 is in row 1 and column 1
one_stream : landing_of (rate_at 0 0) 0 (52 + 14) ≡ at 1 1 5 0
unfolding landing_of share_of axis_bits_of stream_place_of place_of columns_of rows_of rotation_of turn_of first second third rate_at bandwidth_of
    streams_of mcs_of data_carriers_of label_bits_of stream_bits_of coded_bits_of encoders_of modulation_of
one_stream = refl

-- 64-QAM at 20 MHz on two streams: bit 1 of stream 2 is bit 4 of the encoder, at place 206 = 34 * 6 + 2
second_stream : landing_of (rate_at 0 13) 0 4 ≡ at 0 2 34 2
unfolding landing_of share_of axis_bits_of stream_place_of place_of columns_of rows_of rotation_of turn_of first second third rate_at bandwidth_of
    streams_of mcs_of data_carriers_of label_bits_of stream_bits_of coded_bits_of encoders_of modulation_of
second_stream = refl

-- 64-QAM at 40 MHz on four streams with two encoders: the last bit of encoder 1 in symbol 2 is the last one of stream 4,
-- at place 123 = 20 * 6 + 3
last_bit : landing_of (rate_at 1 31) 1 (2 * 1296 + 1295) ≡ at 2 4 20 3
unfolding landing_of share_of axis_bits_of stream_place_of place_of columns_of rows_of rotation_of turn_of first second third rate_at bandwidth_of
    streams_of mcs_of data_carriers_of label_bits_of stream_bits_of coded_bits_of encoders_of modulation_of
last_bit = refl

-- and back
from_label : coded_bit_of (rate_at 1 31) (at 2 4 20 3) ≡ (1, 2 * 1296 + 1295)
unfolding coded_bit_of share_of axis_bits_of source_of origin_of columns_of rows_of rotation_of turn_of first_back second_back third_back rate_at
    bandwidth_of streams_of mcs_of data_carriers_of label_bits_of stream_bits_of coded_bits_of encoders_of modulation_of
from_label = refl
