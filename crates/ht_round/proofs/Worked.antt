-- The text of two frames, and a frame of two streams that was received exactly, by computation.
use Rattle.std.specs.Prelude.{◌≡◌, pos, negsuc, List, [], ◌∷◌, ◌++◌, codes, map, replicate, refl}
use Rattle.std.specs.Fmt.{digits}
use Rattle.std.specs.List.{flat_map, range_with_len}
use Rattle.ht_rate.specs.Rates.{bandwidth_of, carriers_of, coded_bits_of, data_bits_of, data_carriers_of, encoders_of, label_bits_of, mcs_of}
use Rattle.ht_rate.specs.Rates.{modulation_of, needed_bits_of, pattern_of, pilots_of, rate_at, stream_bits_of, streams_of, symbols_of}
use Rattle.ht_pam.specs.declared.point.Point.{Point}
use Rattle.ht_metric.specs.declared.sample.Sample.{Sample}
use Rattle.ht_metric.specs.Distance.{received}
use Rattle.ht_metric.specs.Rows.{Leg}
use Rattle.ht_sim.specs.Channel.{symbols_mixed}
use Rattle.ht_text.specs.Lines.{end_text, frame_text, outcome_text, sums_text}
use Rattle.ht_tx.specs.Frames.{FrameView}
use Rattle.ht_results.specs.Texts.{result_line}
use Rattle.ht_round.specs.Returned.{returned_text}

-- two frames of one octet
frames : List FrameView
frames = record { rate = rate_at 0 0; seed = 1; octets = 165 ∷ [] } ∷ record { rate = rate_at 1 31; seed = 127; octets = 7 ∷ [] } ∷ []

text : returned_text frames
    ≡ codes "frame 0 data 0 pilot 0 code 0 octets a5" ++ 10 ∷ (codes "frame 1 data 0 pilot 0 code 0 octets 07" ++ 10 ∷ (codes "end 2 frames" ++ 10 ∷ []))
unfolding frames result_line frame_text sums_text outcome_text end_text digits
text = refl

-- One symbol at 20 MHz, MCS 8, with 1 on stream 1 and -1 on stream 2 of all 56 subcarriers. Each triangle has 2 and then
-- 1 - j in its first row and 3 in its second one, so that the samples are 2 - (1 - j) = 1 + j and -3.
points : List Point
points = flat_map (λ c. record { i = pos 1; q = pos 0 } ∷ record { i = negsuc 0; q = pos 0 } ∷ []) (range_with_len 0 56)

triangle : List Leg
triangle = record { diagonal = 2; right = record { re = pos 1; im = negsuc 0 } ∷ [] } ∷ record { diagonal = 3; right = [] } ∷ []

samples : List Sample
samples = flat_map (λ c. record { re = pos 1; im = pos 1 } ∷ record { re = negsuc 2; im = pos 0 } ∷ []) (range_with_len 0 56)

exact : map received samples ≡ symbols_mixed (symbols_of (rate_at 0 8) 1) (streams_of (rate_at 0 8)) (replicate 56 triangle) points
unfolding points triangle samples rate_at carriers_of data_carriers_of pilots_of streams_of symbols_of needed_bits_of data_bits_of encoders_of mcs_of
    bandwidth_of coded_bits_of stream_bits_of label_bits_of modulation_of pattern_of
exact = refl
