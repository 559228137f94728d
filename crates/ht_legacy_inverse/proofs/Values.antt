-- Worked values of the definitions, each by computation.
use Rattle.std.proofs.Common.{◌≡◌, [], ◌∷◌, ◌++◌, replicate, true, false, Some, refl}
use Rattle.ht_map.specs.Gray.{label_bit}
use Rattle.ht_clause18.specs.declared.rates.LegacyRate.TheVariants.{Mbit6, Mbit9, Mbit36, Mbit54}
use Rattle.ht_clause18.specs.Interleaver.{first, second, place_of}
use Rattle.ht_clause18.specs.Rates.{axis_bits_of, coded_bits_of, data_bits_of, label_bits_of, modulation_of, symbols_of}
use Rattle.ht_legacy_inverse.specs.Places.{label_place_of}
use Rattle.ht_legacy_inverse.specs.Received.{label_number, labels_in_frame, received_at}

-- one octet at 6 Mbit/s, and the longest frame
labels_of_one : labels_in_frame Mbit6 1 ≡ 96
unfolding symbols_of data_bits_of
labels_of_one = refl

labels_of_longest : labels_in_frame Mbit6 4095 ≡ 65568
unfolding symbols_of data_bits_of
labels_of_longest = refl

number_in_frame : label_number 2 5 ≡ 101
number_in_frame = refl

-- coded bit 1 stands on place 3 in BPSK, which is label 3
bit_of_bpsk : received_at Mbit6 (0 ∷ 0 ∷ 0 ∷ 1 ∷ []) 1 ≡ Some true
unfolding coded_bits_of label_bits_of axis_bits_of modulation_of first second place_of label_bit received_at
bit_of_bpsk = refl

-- and in the next symbol label 51
bit_of_next_symbol : received_at Mbit9 (replicate 51 0 ++ 1 ∷ []) 49 ≡ Some true
unfolding coded_bits_of label_bits_of axis_bits_of modulation_of first second place_of label_bit received_at
bit_of_next_symbol = refl

-- in 16-QAM on place 13, which is bit 1 of label 3
bit_of_16_qam : received_at Mbit36 (0 ∷ 0 ∷ 0 ∷ 0b0100 ∷ []) 1 ≡ Some true
unfolding coded_bits_of label_bits_of axis_bits_of modulation_of first second place_of label_bit received_at
bit_of_16_qam = refl

other_bits_of_16_qam : received_at Mbit36 (0 ∷ 0 ∷ 0 ∷ 0b1011 ∷ []) 1 ≡ Some false
unfolding coded_bits_of label_bits_of axis_bits_of modulation_of first second place_of label_bit received_at
other_bits_of_16_qam = refl

-- in 64-QAM on place 20, which is bit 2 of label 3, with three bits behind it
place_of_64_qam : label_place_of Mbit54 1 ≡ record { carrier = 3; mask = 0b1000 }
unfolding coded_bits_of label_bits_of axis_bits_of first second place_of label_place_of
place_of_64_qam = refl
