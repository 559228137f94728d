-- Worked values of the definitions: the table of rates, and the lengths of some codewords.
use Rattle.std.proofs.Common.{◌≡◌, ℕ, ◌+◌, List, [], ◌∷◌, map, replicate, Err, refl}
use Rattle.ht_rate.specs.declared.rates.Rate.{Rate}
use Rattle.ht_rate.specs.declared.kinds.Modulation.{Modulation}
use Rattle.ht_rate.specs.declared.kinds.Modulation.TheVariants.{Bpsk, Qpsk, Qam16, Qam64}
use Rattle.ht_rate.specs.declared.kinds.Pattern.{Pattern}
use Rattle.ht_rate.specs.declared.kinds.Pattern.TheVariants.{Half, TwoThirds, ThreeQuarters, FiveSixths}
use Rattle.ht_rate.specs.declared.kinds.Carrier.TheVariants.{Data, Pilot}
use Rattle.ht_rate.specs.declared.rates.RateFault.TheVariants.{BadBandwidth, BadMcs}
use Rattle.ht_rate.specs.Rates.{rate_at, rate_of, bandwidth_of, streams_of, mcs_of, modulation_of, pattern_of, data_carriers_of, label_bits_of}
use Rattle.ht_rate.specs.Rates.{stream_bits_of, coded_bits_of, data_bits_of, encoders_of, needed_bits_of, symbols_of, pads_of, steps_of}
use Rattle.ht_rate.specs.Carriers.{carrier_of, carrier_at}

-- a figure of each rate at a bandwidth: a line for each number of streams, with the eight schemes in order
abbrev lines : {A : Type 0} → (Rate → A) → ℕ → List (List A)
lines figure bw = map (λ first. map (λ m. figure (rate_at bw (first + m))) (0 ∷ 1 ∷ 2 ∷ 3 ∷ 4 ∷ 5 ∷ 6 ∷ 7 ∷ [])) (0 ∷ 8 ∷ 16 ∷ 24 ∷ [])

-- the same at 20 and at 40 MHz
abbrev tables : {A : Type 0} → (Rate → A) → List (List (List A))
tables figure = map (lines figure) (0 ∷ 1 ∷ [])

-- MCS and N_SS
indexes : tables mcs_of ≡ replicate 2 (map (λ first. map (λ m. first + m) (0 ∷ 1 ∷ 2 ∷ 3 ∷ 4 ∷ 5 ∷ 6 ∷ 7 ∷ [])) (0 ∷ 8 ∷ 16 ∷ 24 ∷ []))
unfolding rate_at mcs_of streams_of
indexes = refl

streams : tables streams_of ≡ replicate 2 (map (replicate 8) (1 ∷ 2 ∷ 3 ∷ 4 ∷ []))
unfolding rate_at streams_of
streams = refl

-- modulation, R and N_BPSCS
schemes : tables {A = Modulation × Pattern × ℕ} (λ r. (modulation_of r, pattern_of r, label_bits_of r)) ≡ replicate 2 (replicate 4
    ((Bpsk, Half, 1) ∷ (Qpsk, Half, 2) ∷ (Qpsk, ThreeQuarters, 2) ∷ (Qam16, Half, 4)
    ∷ (Qam16, ThreeQuarters, 4) ∷ (Qam64, TwoThirds, 6) ∷ (Qam64, ThreeQuarters, 6) ∷ (Qam64, FiveSixths, 6) ∷ []))
unfolding rate_at pattern_of label_bits_of modulation_of
schemes = refl

-- N_CBPSS
stream_bits : tables stream_bits_of
    ≡ replicate 4 (52 ∷ 104 ∷ 104 ∷ 208 ∷ 208 ∷ 312 ∷ 312 ∷ 312 ∷ [])
    ∷ replicate 4 (108 ∷ 216 ∷ 216 ∷ 432 ∷ 432 ∷ 648 ∷ 648 ∷ 648 ∷ []) ∷ []
unfolding rate_at stream_bits_of data_carriers_of label_bits_of modulation_of bandwidth_of
stream_bits = refl

-- N_CBPS and N_DBPS, at 20 MHz and at 40 MHz
symbol_bits : (lines {A = ℕ × ℕ} (λ r. (coded_bits_of r, data_bits_of r)) 0 ≡
    ((52, 26) ∷ (104, 52) ∷ (104, 78) ∷ (208, 104) ∷ (208, 156) ∷ (312, 208) ∷ (312, 234) ∷ (312, 260) ∷ [])
    ∷ ((104, 52) ∷ (208, 104) ∷ (208, 156) ∷ (416, 208) ∷ (416, 312) ∷ (624, 416) ∷ (624, 468) ∷ (624, 520) ∷ [])
    ∷ ((156, 78) ∷ (312, 156) ∷ (312, 234) ∷ (624, 312) ∷ (624, 468) ∷ (936, 624) ∷ (936, 702) ∷ (936, 780) ∷ [])
    ∷ ((208, 104) ∷ (416, 208) ∷ (416, 312) ∷ (832, 416) ∷ (832, 624) ∷ (1248, 832) ∷ (1248, 936) ∷ (1248, 1040) ∷ []) ∷ [])
    × (lines {A = ℕ × ℕ} (λ r. (coded_bits_of r, data_bits_of r)) 1 ≡
    ((108, 54) ∷ (216, 108) ∷ (216, 162) ∷ (432, 216) ∷ (432, 324) ∷ (648, 432) ∷ (648, 486) ∷ (648, 540) ∷ [])
    ∷ ((216, 108) ∷ (432, 216) ∷ (432, 324) ∷ (864, 432) ∷ (864, 648) ∷ (1296, 864) ∷ (1296, 972) ∷ (1296, 1080) ∷ [])
    ∷ ((324, 162) ∷ (648, 324) ∷ (648, 486) ∷ (1296, 648) ∷ (1296, 972) ∷ (1944, 1296) ∷ (1944, 1458) ∷ (1944, 1620) ∷ [])
    ∷ ((432, 216) ∷ (864, 432) ∷ (864, 648) ∷ (1728, 864) ∷ (1728, 1296) ∷ (2592, 1728) ∷ (2592, 1944) ∷ (2592, 2160) ∷ []) ∷ [])
unfolding rate_at data_bits_of pattern_of coded_bits_of streams_of stream_bits_of data_carriers_of label_bits_of modulation_of bandwidth_of
symbol_bits = (refl, refl)

-- N_ES
encoders : tables encoders_of ≡ replicate 4 (replicate 8 1)
    ∷ (replicate 8 1 ∷ replicate 8 1 ∷ (1 ∷ 1 ∷ 1 ∷ 1 ∷ 1 ∷ 2 ∷ 2 ∷ 2 ∷ []) ∷ (1 ∷ 1 ∷ 1 ∷ 1 ∷ 2 ∷ 2 ∷ 2 ∷ 2 ∷ []) ∷ []) ∷ []
unfolding rate_at encoders_of mcs_of streams_of bandwidth_of
encoders = refl

-- 100 octets at MCS 0 and 20 MHz: 822 bits, 32 symbols, 10 pads, 822 steps
short : (needed_bits_of (rate_at 0 0) 100 ≡ 822) × (symbols_of (rate_at 0 0) 100 ≡ 32) × (pads_of (rate_at 0 0) 100 ≡ 10) × (steps_of (rate_at 0 0) 100 ≡ 822)
unfolding rate_at symbols_of pads_of steps_of needed_bits_of data_bits_of pattern_of coded_bits_of streams_of stream_bits_of data_carriers_of
    label_bits_of modulation_of encoders_of bandwidth_of mcs_of
short = (refl, refl, refl, refl)

-- 65535 octets at MCS 31 and 40 MHz: two encoders, 524308 bits, 243 symbols, 572 pads, 262154 steps each
longest : (needed_bits_of (rate_at 1 31) 65535 ≡ 524308) × (symbols_of (rate_at 1 31) 65535 ≡ 243)
    × (pads_of (rate_at 1 31) 65535 ≡ 572) × (steps_of (rate_at 1 31) 65535 ≡ 262154)
unfolding rate_at symbols_of pads_of steps_of needed_bits_of data_bits_of pattern_of coded_bits_of streams_of stream_bits_of data_carriers_of
    label_bits_of modulation_of encoders_of bandwidth_of mcs_of
longest = (refl, refl, refl, refl)

-- the most symbols: 65535 octets at MCS 0 and 20 MHz
most : symbols_of (rate_at 0 0) 65535 ≡ 20166
unfolding rate_at symbols_of needed_bits_of data_bits_of pattern_of coded_bits_of streams_of stream_bits_of data_carriers_of label_bits_of
    modulation_of encoders_of bandwidth_of mcs_of
most = refl

-- the subcarriers round the pilots
carriers_20 : map (carrier_of (rate_at 0 0)) (0 ∷ 6 ∷ 7 ∷ 8 ∷ 20 ∷ 21 ∷ 22 ∷ 33 ∷ 34 ∷ 35 ∷ 47 ∷ 48 ∷ 49 ∷ 55 ∷ [])
    ≡ Data 0 ∷ Data 6 ∷ Pilot 0 ∷ Data 7 ∷ Data 19 ∷ Pilot 1 ∷ Data 20 ∷ Data 31 ∷ Pilot 2 ∷ Data 32 ∷ Data 44 ∷ Pilot 3 ∷ Data 45 ∷ Data 51 ∷ []
unfolding rate_at carrier_of carrier_at bandwidth_of
carriers_20 = refl

carriers_40 : map (carrier_of (rate_at 1 0)) (0 ∷ 5 ∷ 6 ∷ 33 ∷ 47 ∷ 66 ∷ 80 ∷ 107 ∷ 108 ∷ 109 ∷ 113 ∷ [])
    ≡ Data 0 ∷ Pilot 0 ∷ Data 5 ∷ Pilot 1 ∷ Pilot 2 ∷ Pilot 3 ∷ Pilot 4 ∷ Data 102 ∷ Pilot 5 ∷ Data 103 ∷ Data 107 ∷ []
unfolding rate_at carrier_of carrier_at bandwidth_of
carriers_40 = refl

-- codes and indexes that name no rate
no_bandwidth : rate_of 2 32 ≡ Err BadBandwidth
unfolding rate_of
no_bandwidth = refl

no_mcs : rate_of 1 32 ≡ Err BadMcs
unfolding rate_of
no_mcs = refl
