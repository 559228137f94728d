-- Worked values: the table, the interleaver, the pilots, and the octet a5 with seed 127 at 6 Mbit/s.
use Rattle.std.proofs.Common.{◌≡◌, ℕ, ℤ, ◌==◌, [], ◌∷◌, List, Bool, map, pos, negsuc, Some, None, refl}
use mathlib.Core.Bool.{xor}
use Rattle.ht_rate.specs.declared.kinds.Carrier.TheVariants.{Data, Pilot}
use Rattle.ht_bits.specs.Bits.{octet_bits, number_of}
use Rattle.ht_scramble.specs.Sequence.{delayed, sequence, polarity_at}
use Rattle.ht_clause18.specs.declared.rates.LegacyRate.TheVariants.{Mbit6, Mbit9, Mbit36, Mbit54}
use Rattle.ht_clause18.specs.Carriers.{carrier_of}
use Rattle.ht_clause18.specs.Coded.{data_of, coder_input, coded_of, symbol_bits}
use Rattle.ht_clause18.specs.Frames.{LegacyFrameView}
use Rattle.ht_clause18.specs.Interleaver.{first, second, first_back, second_back, place_of, origin_of, interleaved}
use Rattle.ht_clause18.specs.Pilots.{pilot_of}
use Rattle.ht_clause18.specs.Points.{label_at}
use Rattle.ht_clause18.specs.Rates.{rate_of, pattern_of, label_bits_of, axis_bits_of, coded_bits_of, data_bits_of, symbols_of, pads_of}

-- the indexes of rates
last_rate : (rate_of 7 ≡ Some Mbit54) × (rate_of 8 ≡ None)
unfolding rate_of
last_rate = (refl, refl)

-- 100 octets at 36 Mbit/s take 6 symbols with 42 pads, and 4095 octets at 6 Mbit/s the most, 1366
example_symbols : (symbols_of Mbit36 100 ≡ 6) × (pads_of Mbit36 100 ≡ 42) × (symbols_of Mbit6 4095 ≡ 1366)
unfolding symbols_of pads_of data_bits_of
example_symbols = (refl, refl, refl)

-- bit 1 of 16-QAM, step by step, and of 64-QAM
steps : (first Mbit36 1 ≡ 12) × (second Mbit36 12 ≡ 13) × (place_of Mbit54 1 ≡ 20) × (origin_of Mbit54 20 ≡ 1)
unfolding first second first_back second_back place_of origin_of coded_bits_of label_bits_of axis_bits_of
steps = (refl, refl, refl, refl)

-- bits 0 to 4 and 17 of BPSK
columns : map (place_of Mbit9) (0 ∷ 1 ∷ 2 ∷ 3 ∷ 4 ∷ 17 ∷ []) ≡ 0 ∷ 3 ∷ 6 ∷ 9 ∷ 12 ∷ 4 ∷ []
unfolding first second place_of coded_bits_of label_bits_of axis_bits_of
columns = refl

-- the subcarriers round the pilots
subcarriers : map carrier_of (0 ∷ 4 ∷ 5 ∷ 6 ∷ 19 ∷ 25 ∷ 26 ∷ 32 ∷ 46 ∷ 47 ∷ 51 ∷ [])
    ≡ Data 0 ∷ Data 4 ∷ Pilot 0 ∷ Data 5 ∷ Pilot 1 ∷ Data 23 ∷ Data 24 ∷ Pilot 2 ∷ Pilot 3 ∷ Data 43 ∷ Data 47 ∷ []
unfolding carrier_of
subcarriers = refl

-- the pilots of a symbol
four : ℕ → List ℤ
four symbol = pilot_of symbol 0 ∷ pilot_of symbol 1 ∷ pilot_of symbol 2 ∷ pilot_of symbol 3 ∷ []

first_pilots : four 0 ≡ pos 1 ∷ pos 1 ∷ pos 1 ∷ negsuc 0 ∷ []
unfolding four xor delayed sequence polarity_at pilot_of
first_pilots = refl

third_pilots : four 2 ≡ pos 1 ∷ pos 1 ∷ pos 1 ∷ negsuc 0 ∷ []
unfolding four xor delayed sequence polarity_at pilot_of
third_pilots = refl

fourth_pilots : four 3 ≡ negsuc 0 ∷ negsuc 0 ∷ negsuc 0 ∷ pos 1 ∷ []
unfolding four xor delayed sequence polarity_at pilot_of
fourth_pilots = refl

-- one octet needs 30 bits; two symbols of 24 data bits hold them, with 18 pads
abbrev one_octet : LegacyFrameView
one_octet = record { rate = Mbit6; seed = 127; octets = 0xa5 ∷ [] }

two_symbols : (symbols_of Mbit6 1 ≡ 2) × (pads_of Mbit6 1 ≡ 18)
unfolding symbols_of pads_of data_bits_of
two_symbols = (refl, refl)

-- 16 zeros, 10100101, 6 zeros and 18 zeros, the first bit counting 1
data_is : number_of (data_of one_octet) ≡ 10813440
unfolding data_of octet_bits pads_of symbols_of data_bits_of
data_is = refl

abbrev bits : List ℕ → List Bool
bits digits = map (λ d. d == 1) digits

-- symbol 0, interleaved
symbol_0 : interleaved Mbit6 (symbol_bits one_octet 0)
    ≡ bits (
    0 ∷ 1 ∷ 1 ∷ 0 ∷ 1 ∷ 0 ∷ 0 ∷ 1 ∷ 1 ∷ 0 ∷ 1 ∷ 1 ∷ 0 ∷ 0 ∷ 1 ∷ 0 ∷ 0 ∷ 0 ∷ 0 ∷ 1 ∷ 0 ∷ 0 ∷ 1 ∷ 0 ∷
    1 ∷ 1 ∷ 0 ∷ 1 ∷ 0 ∷ 0 ∷ 1 ∷ 1 ∷ 0 ∷ 0 ∷ 0 ∷ 1 ∷ 0 ∷ 0 ∷ 0 ∷ 1 ∷ 1 ∷ 0 ∷ 0 ∷ 0 ∷ 0 ∷ 1 ∷ 0 ∷ 1 ∷ []
    )
unfolding interleaved symbol_bits coded_of coder_input data_of octet_bits pads_of symbols_of data_bits_of coded_bits_of label_bits_of axis_bits_of
    pattern_of first_back second_back origin_of sequence delayed xor
symbol_0 = refl

-- the label of data subcarrier 1 is its bit
second_label : label_at Mbit6 (bits (0 ∷ 1 ∷ [])) 1 ≡ 1
unfolding label_at label_bits_of
second_label = refl
