-- Worked values of the definitions.
use Rattle.std.proofs.Common.{◌≡◌, [], ◌∷◌, map, refl}
use Rattle.ht_rate.specs.Rates.{rate_at, bandwidth_of, modulation_of, label_bits_of, data_carriers_of, stream_bits_of, axis_bits_of}
use Rattle.ht_interleave.specs.Steps.{columns_of, rows_of, rotation_of, turn_of, first, second, third, first_back, second_back, third_back}
use Rattle.ht_interleave.specs.Interleaver.{place_of, origin_of}

-- bit 1 of each of four streams of BPSK at 20 MHz
narrow : map (λ stream. place_of (rate_at 0 24) stream 1) (1 ∷ 2 ∷ 3 ∷ 4 ∷ []) ≡ 4 ∷ 34 ∷ 45 ∷ 23 ∷ []
unfolding rate_at bandwidth_of modulation_of label_bits_of data_carriers_of stream_bits_of columns_of rows_of rotation_of axis_bits_of turn_of first
    second third place_of
narrow = refl

-- bit 1 of two streams of 64-QAM at 20 MHz, step by step at the first
steps : (first (rate_at 0 13) 1 ≡ 24) × (second (rate_at 0 13) 24 ≡ 26) × (third (rate_at 0 13) 1 26 ≡ 26) × (third (rate_at 0 13) 2 26 ≡ 206)
unfolding rate_at bandwidth_of modulation_of label_bits_of data_carriers_of stream_bits_of columns_of rows_of rotation_of axis_bits_of turn_of first
    second third
steps = (refl, refl, refl, refl)

dense : map (λ stream. place_of (rate_at 0 13) stream 1) (1 ∷ 2 ∷ []) ≡ 26 ∷ 206 ∷ []
unfolding rate_at bandwidth_of modulation_of label_bits_of data_carriers_of stream_bits_of columns_of rows_of rotation_of axis_bits_of turn_of first
    second third place_of
dense = refl

dense_back : (origin_of (rate_at 0 13) 1 26 ≡ 1) × (origin_of (rate_at 0 13) 2 206 ≡ 1)
unfolding rate_at bandwidth_of modulation_of label_bits_of data_carriers_of stream_bits_of columns_of rows_of rotation_of axis_bits_of turn_of
    first_back second_back third_back origin_of
dense_back = (refl, refl)

-- bit 1 and the last bit of streams 3 and 4 of 64-QAM at 40 MHz
wide : map (λ stream. place_of (rate_at 1 31) stream 1) (3 ∷ 4 ∷ []) ≡ 512 ∷ 164 ∷ []
unfolding rate_at bandwidth_of modulation_of label_bits_of data_carriers_of stream_bits_of columns_of rows_of rotation_of axis_bits_of turn_of first
    second third place_of
wide = refl

last : map (λ stream. place_of (rate_at 1 31) stream 647) (3 ∷ 4 ∷ []) ≡ 471 ∷ 123 ∷ []
unfolding rate_at bandwidth_of modulation_of label_bits_of data_carriers_of stream_bits_of columns_of rows_of rotation_of axis_bits_of turn_of first
    second third place_of
last = refl

-- the rotations of the four streams, in N_ROT * N_BPSCS
turns : map (λ stream. turn_of (rate_at 0 24) stream) (1 ∷ 2 ∷ 3 ∷ 4 ∷ []) ≡ 0 ∷ 22 ∷ 11 ∷ 33 ∷ []
unfolding rate_at bandwidth_of modulation_of label_bits_of rotation_of turn_of
turns = refl
