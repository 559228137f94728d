-- Worked values of the definitions, each by computation.
use Rattle.std.proofs.Common.{◌≡◌, refl}
use Rattle.ht_rate.specs.Rates.{bandwidth_of, mcs_of, streams_of, modulation_of, data_carriers_of, label_bits_of}
use Rattle.ht_rate.specs.Rates.{stream_bits_of, coded_bits_of, encoders_of, rate_at, axis_bits_of}
use Rattle.ht_parse.specs.Streams.{share_of, source_of, stream_place_of}
use Rattle.ht_parse.specs.Groups.{rounds_of}

-- 40 MHz, MCS 31: four streams of 64-QAM and two encoders
sizes_of_31 : (axis_bits_of (rate_at 1 31) ≡ 3) × (share_of (rate_at 1 31) ≡ 1296) × (rounds_of (rate_at 1 31) ≡ 108)
unfolding share_of rounds_of axis_bits_of coded_bits_of stream_bits_of data_carriers_of label_bits_of modulation_of streams_of encoders_of mcs_of bandwidth_of
    rate_at
sizes_of_31 = (refl, refl, refl)

-- of stream 2, bit 3 is bit 3 of encoder 1, and bit 7 is bit 16 of encoder 0; and the last bit of all
bits_of_31 : (source_of (rate_at 1 31) 2 3 ≡ (1, 3)) × (source_of (rate_at 1 31) 2 7 ≡ (0, 16)) × (source_of (rate_at 1 31) 4 647 ≡ (1, 1295))
    × (stream_place_of (rate_at 1 31) 1 3 ≡ (2, 3))
unfolding source_of stream_place_of axis_bits_of label_bits_of modulation_of streams_of encoders_of mcs_of bandwidth_of rate_at
bits_of_31 = (refl, refl, refl, refl)

-- 20 MHz, MCS 8: two streams of BPSK and one encoder, so the bits go to the streams in turn
bits_of_8 : (axis_bits_of (rate_at 0 8) ≡ 1) × (source_of (rate_at 0 8) 2 5 ≡ (0, 11)) × (stream_place_of (rate_at 0 8) 0 11 ≡ (2, 5))
unfolding source_of stream_place_of axis_bits_of label_bits_of modulation_of streams_of encoders_of mcs_of bandwidth_of rate_at
bits_of_8 = (refl, refl, refl)

-- with one stream and one encoder nothing moves, and 16-QAM on three streams has groups of two bits
one_encoder : (source_of (rate_at 0 7) 1 311 ≡ (0, 311)) × (source_of (rate_at 0 19) 3 3 ≡ (0, 11))
unfolding source_of axis_bits_of label_bits_of modulation_of streams_of encoders_of mcs_of bandwidth_of rate_at
one_encoder = (refl, refl)
