-- Worked values: the octet a5 with seed 127 at 20 MHz and MCS 0.
use Rattle.std.proofs.Common.{◌≡◌, ℕ, ℤ, pos, negsuc, [], ◌∷◌, map, refl}
use mathlib.Core.Bool.{xor}
use Rattle.ht_rate.specs.Rates.{bandwidth_of, mcs_of, streams_of, modulation_of, pattern_of, data_carriers_of, pilots_of, carriers_of, label_bits_of}
use Rattle.ht_rate.specs.Rates.{axis_bits_of, stream_bits_of, coded_bits_of, data_bits_of, encoders_of, needed_bits_of, symbols_of, pads_of, rate_at}
use Rattle.ht_bits.specs.Bits.{octet_bits, number_of}
use Rattle.ht_scramble.specs.Sequence.{delayed, sequence, polarity_at}
use Rattle.ht_interleave.specs.Steps.{columns_of, rows_of, rotation_of, turn_of, first_back, second_back, third_back}
use Rattle.ht_interleave.specs.Interleaver.{origin_of}
use Rattle.ht_parse.specs.Streams.{share_of, source_of}
use Rattle.ht_landing.specs.Landings.{coded_bit_of}
use Rattle.ht_pilot.specs.Pilots.{pilot_of}
use Rattle.ht_pam.specs.declared.point.Point.{Point}
use Rattle.ht_tx.specs.Frames.{FrameView}
use Rattle.ht_tx.specs.Symbols.{points_of, index_of_point, pilot_point}
use Rattle.ht_tx.specs.Coded.{data_of, coder_input, part_of, coded_of, reach_of}
use Rattle.ht_tx.specs.Sources.{source_at}

abbrev one_octet : FrameView
one_octet = record { rate = rate_at 0 0; seed = 127; octets = 0xa5 ∷ [] }

-- 16 zeros, 10100101, 6 zeros and 22 zeros
data_is : number_of (data_of one_octet) ≡ 10813440
unfolding data_of octet_bits pads_of symbols_of needed_bits_of encoders_of data_bits_of pattern_of coded_bits_of streams_of stream_bits_of
    data_carriers_of label_bits_of modulation_of mcs_of bandwidth_of rate_at
data_is = refl

-- 00001110 11110010 01101100 00000010 00100110 00101110 1011, the first bit counting 1
input_is : number_of (coder_input one_octet) ≡ 3787148620091248
unfolding coder_input data_of octet_bits pads_of symbols_of needed_bits_of encoders_of data_bits_of pattern_of coded_bits_of streams_of stream_bits_of
    data_carriers_of label_bits_of modulation_of mcs_of bandwidth_of rate_at sequence delayed xor
input_is = refl

-- the coded bits of both symbols: 00000000 11100101 and on to 01110000 0100
coded_is : number_of (coded_of one_octet 0) ≡ 2608087077552526708929335371520
unfolding coded_of part_of coder_input data_of octet_bits pads_of symbols_of needed_bits_of encoders_of data_bits_of pattern_of coded_bits_of
    streams_of stream_bits_of data_carriers_of label_bits_of modulation_of mcs_of bandwidth_of rate_at sequence delayed xor
coded_is = refl

reach_is : reach_of one_octet ≡ 104
unfolding reach_of share_of symbols_of needed_bits_of encoders_of data_bits_of pattern_of coded_bits_of streams_of stream_bits_of data_carriers_of
    label_bits_of modulation_of mcs_of bandwidth_of rate_at
reach_is = refl

points_are : points_of (rate_at 0 0) 1 ≡ 112
unfolding points_of carriers_of pilots_of symbols_of needed_bits_of encoders_of data_bits_of pattern_of coded_bits_of streams_of stream_bits_of
    data_carriers_of label_bits_of modulation_of mcs_of bandwidth_of rate_at
points_are = refl

last_point : index_of_point (rate_at 0 0) 1 55 1 ≡ 111
unfolding index_of_point carriers_of pilots_of streams_of data_carriers_of bandwidth_of rate_at
last_point = refl

-- data subcarrier 1 takes coded bit 13
second_label : source_at (rate_at 0 0) 104 1 1 0 ≡ 13
unfolding source_at coded_bit_of source_of origin_of first_back second_back third_back turn_of rotation_of rows_of columns_of axis_bits_of share_of
    coded_bits_of streams_of stream_bits_of data_carriers_of label_bits_of modulation_of encoders_of mcs_of bandwidth_of rate_at
second_label = refl

-- a point on the real axis
abbrev real : ℤ → Point
real i = record { i = i; q = pos 0 }

-- the pilots of symbol 0 are 1, 1, 1, -1, and those of symbol 1 are -1, -1, 1, -1
pilots : map (λ (n : ℕ). map (λ (k : ℕ). pilot_point (rate_at 0 0) n k 1) (0 ∷ 1 ∷ 2 ∷ 3 ∷ [])) (0 ∷ 1 ∷ [])
    ≡ map real (pos 1 ∷ pos 1 ∷ pos 1 ∷ negsuc 0 ∷ []) ∷ map real (negsuc 0 ∷ negsuc 0 ∷ pos 1 ∷ negsuc 0 ∷ []) ∷ []
unfolding pilot_point pilot_of polarity_at sequence delayed pilots_of bandwidth_of rate_at xor
pilots = refl
