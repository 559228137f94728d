-- Worked values of the definitions, each by computation.
use Rattle.std.proofs.Common.{◌≡◌, ◌^◌, [], ◌∷◌, ◌++◌, true, false, None, Some, replicate, refl}
use mathlib.Core.Bool.{xor}
use Rattle.ht_rate.specs.Carriers.{index_of}
use Rattle.ht_rate.specs.Rates.{rate_at, bandwidth_of, streams_of, mcs_of, data_carriers_of, label_bits_of, needed_bits_of, data_bits_of, symbols_of}
use Rattle.ht_rate.specs.Rates.{stream_bits_of, coded_bits_of, encoders_of, modulation_of, axis_bits_of, pattern_of}
use Rattle.ht_map.specs.Gray.{label_bit}
use Rattle.ht_parse.specs.Streams.{share_of, stream_place_of}
use Rattle.ht_interleave.specs.Interleaver.{place_of}
use Rattle.ht_interleave.specs.Steps.{columns_of, rows_of, rotation_of, turn_of, first, second, third}
use Rattle.ht_landing.specs.Landings.{landing_of}
use Rattle.ht_scramble.specs.Sequence.{delayed, sequence}
use Rattle.ht_inverse.specs.declared.outcome.Outcome.TheVariants.{Octets, SeedZero}
use Rattle.ht_inverse.specs.Received.{is_lost, label_number, labels_in_frame, labels_per_symbol, received_at}
use Rattle.ht_inverse.specs.Decoding.{outcome_of}

labels_widest : labels_per_symbol (rate_at 1 31) ≡ 432
unfolding rate_at bandwidth_of streams_of data_carriers_of
labels_widest = refl

-- one octet at the slowest rate
labels_of_one : labels_in_frame (rate_at 0 0) 1 ≡ 104
unfolding rate_at bandwidth_of streams_of mcs_of data_carriers_of label_bits_of stream_bits_of coded_bits_of encoders_of modulation_of pattern_of needed_bits_of
    data_bits_of symbols_of
labels_of_one = refl

-- the longest frame at the fastest rate has 243 symbols
labels_of_longest : labels_in_frame (rate_at 1 31) 65535 ≡ 104976
unfolding rate_at bandwidth_of streams_of mcs_of data_carriers_of label_bits_of stream_bits_of coded_bits_of encoders_of modulation_of pattern_of needed_bits_of
    data_bits_of symbols_of
labels_of_longest = refl

number_in_frame : label_number (rate_at 1 31) 1 85 3 ≡ 774
unfolding rate_at bandwidth_of streams_of data_carriers_of
number_in_frame = refl

-- subcarrier 7 of 20 MHz is a pilot, so data subcarrier 7 is subcarrier 8
lost_behind_a_pilot : is_lost (rate_at 0 0) (2 ^ 8) 7 ≡ true
unfolding rate_at bandwidth_of index_of is_lost
lost_behind_a_pilot = refl

pilot_lost : is_lost (rate_at 0 0) (2 ^ 7) 7 ≡ false
unfolding rate_at bandwidth_of index_of is_lost
pilot_lost = refl

-- coded bit 1 lands at data subcarrier 4
one_bit_received : received_at (rate_at 0 0) 0 (0 ∷ 0 ∷ 0 ∷ 0 ∷ 1 ∷ []) 0 1 ≡ Some true
unfolding rate_at bandwidth_of streams_of mcs_of data_carriers_of label_bits_of stream_bits_of coded_bits_of encoders_of modulation_of axis_bits_of share_of
    stream_place_of place_of columns_of rows_of rotation_of turn_of first second third landing_of label_bit index_of is_lost received_at
one_bit_received = refl

one_bit_lost : received_at (rate_at 0 0) (2 ^ 4) (0 ∷ 0 ∷ 0 ∷ 0 ∷ 1 ∷ []) 0 1 ≡ None
unfolding rate_at bandwidth_of streams_of mcs_of data_carriers_of label_bits_of stream_bits_of coded_bits_of encoders_of modulation_of axis_bits_of share_of
    stream_place_of place_of columns_of rows_of rotation_of turn_of first second third landing_of label_bit index_of is_lost received_at
one_bit_lost = refl

-- coded bit 1303 of encoder 0 lands at bit 2 of label 774
bit_of_the_widest : received_at (rate_at 1 31) 0 (replicate 774 0 ++ 8 ∷ []) 0 1303 ≡ Some true
unfolding rate_at bandwidth_of streams_of mcs_of data_carriers_of label_bits_of stream_bits_of coded_bits_of encoders_of modulation_of axis_bits_of share_of
    stream_place_of place_of columns_of rows_of rotation_of turn_of first second third landing_of label_bit index_of is_lost received_at
bit_of_the_widest = refl

no_seed : outcome_of (replicate 24 false) ≡ SeedZero
unfolding outcome_of
no_seed = refl

-- the scrambled bits of SERVICE and of the octet a5 by seed 127
one_octet : outcome_of (
    false ∷ false ∷ false ∷ false ∷ true ∷ true ∷ true ∷ false
    ∷ true ∷ true ∷ true ∷ true ∷ false ∷ false ∷ true ∷ false
    ∷ false ∷ true ∷ true ∷ false ∷ true ∷ true ∷ false ∷ false ∷ []
    ) ≡ Octets (0xa5 ∷ [])
unfolding outcome_of xor delayed sequence
one_octet = refl
