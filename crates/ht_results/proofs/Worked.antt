-- The sums, the labels and the lines of a small capture, by computation. The numbers were worked out by hand.
use Rattle.std.specs.Prelude.{◌≡◌, ℕ, List, [], ◌∷◌, ◌++◌, codes, map, replicate, refl}
use mathlib.Core.Bool.{xor}
use Rattle.std.specs.Fmt.{digits}
use Rattle.ht_fields.specs.Meanings.{meaning, meaning_of}
use Rattle.ht_rate.specs.Carriers.{carrier_at, carrier_of, index_of}
use Rattle.ht_rate.specs.Rates.{bandwidth_of, carriers_of, coded_bits_of, data_bits_of, data_carriers_of, encoders_of, label_bits_of, mcs_of}
use Rattle.ht_rate.specs.Rates.{modulation_of, needed_bits_of, pattern_of, pilots_of, rate_at, stream_bits_of, streams_of, symbols_of}
use Rattle.ht_scramble.specs.Sequence.{delayed, polarity_at, sequence}
use Rattle.ht_map.specs.Constellation.{axes_of, grid_of}
use Rattle.ht_map.specs.Gray.{bits_at, label_of}
use Rattle.ht_pilot.specs.Pilots.{pilot_of}
use Rattle.ht_capture.specs.Captures.{capture_of}
use Rattle.ht_capture.specs.Fields.{bad_flag, carriers_due, turn_due, head_given, judge_bandwidth, judge_count, judge_flag, judge_length}
use Rattle.ht_capture.specs.Fields.{judge_magic, judge_mcs, judge_symbol, judge_triangle, judge_version, next_symbol, next_turn, symbol_due}
use Rattle.ht_capture.specs.Frames.{erase, grid_at, job_at, jobs_at, pilot_grid}
use Rattle.ht_capture.specs.Numbers.{sample_at}
use Rattle.ht_capture.specs.Systems.{triangle_of}
use Rattle.ht_capture_laws.specs.Items.{FrameJobs, whole_frames}
use Rattle.ht_inverse.specs.declared.outcome.Outcome.TheVariants.{Octets, SeedZero}
use Rattle.ht_text.specs.Lines.{frame_text, outcome_text, sums_text}
use Rattle.ht_results.specs.Labels.{frame_label}
use Rattle.ht_results.specs.Places.{places_of, put_on}
use Rattle.ht_results.specs.Results.{data_sum_of, pilot_sum_of}
use Rattle.ht_results.specs.Texts.{result_line}

-- A frame at 20 MHz, MCS 0, of one octet, so of two symbols, of which subcarrier 0, the first data subcarrier, and
-- subcarrier 7, the first pilot, are present, each with a channel of 10. The samples are -7 and 11, and then 12 + j and 11.
-- On the data subcarrier -10 is nearest to -7, at 9, and 10 to 12 + j, at 5; so the labels are 0 and 1. The pilot was sent
-- as 1 and then as -1, so it is 1 away and then 441.
octets : List ℕ
octets =
    72 ∷ 84 ∷ 67 ∷ 80 ∷ 2 ∷ 0 ∷ 1 ∷ 0 ∷ 0 ∷ 0 ∷ 1 ∷ (0 ∷ 0 ∷ 10 ∷ replicate 6 1 ++ (0 ∷ 0 ∷ 10 ∷ replicate 48 1
    ++ (255 ∷ 255 ∷ 255 ∷ 249 ∷ 0 ∷ 0 ∷ 0 ∷ 0 ∷ 0 ∷ 0 ∷ 0 ∷ 11 ∷ 0 ∷ 0 ∷ 0 ∷ 0 ∷ 0 ∷ 0 ∷ 0 ∷ 12 ∷ 0 ∷ 0 ∷ 0 ∷ 1 ∷ 0 ∷ 0 ∷ 0 ∷ 11 ∷ 0 ∷ 0 ∷ 0 ∷ 0 ∷ [])))

sums_of : FrameJobs → List ℕ
sums_of f = data_sum_of f ∷ pilot_sum_of f ∷ []

sums : map sums_of (whole_frames (capture_of octets).items) ≡ (14 ∷ 442 ∷ []) ∷ []
unfolding octets sums_of meaning meaning_of judge_magic judge_version judge_count turn_due judge_bandwidth judge_mcs judge_length carriers_due judge_flag
    bad_flag
    judge_triangle triangle_of head_given erase symbol_due judge_symbol next_symbol next_turn jobs_at job_at rate_at carriers_of data_carriers_of pilots_of
    streams_of symbols_of needed_bits_of data_bits_of encoders_of mcs_of bandwidth_of coded_bits_of stream_bits_of label_bits_of modulation_of pattern_of
    grid_at carrier_of carrier_at grid_of axes_of pilot_grid pilot_of polarity_at
    sequence delayed xor sample_at
sums = refl

-- the labels of the first two data subcarriers in both symbols; the second one is erased
first_labels : FrameJobs → List ℕ
first_labels f = frame_label f 0 0 1 ∷ frame_label f 0 1 1 ∷ frame_label f 1 0 1 ∷ frame_label f 1 1 1 ∷ []

labels : map first_labels (whole_frames (capture_of octets).items) ≡ (0 ∷ 0 ∷ 1 ∷ 0 ∷ []) ∷ []
unfolding octets meaning meaning_of judge_magic judge_version judge_count turn_due judge_bandwidth judge_mcs judge_length carriers_due judge_flag bad_flag
    judge_triangle triangle_of head_given erase symbol_due judge_symbol next_symbol next_turn jobs_at job_at rate_at carriers_of data_carriers_of pilots_of
    streams_of symbols_of needed_bits_of data_bits_of encoders_of mcs_of bandwidth_of coded_bits_of stream_bits_of label_bits_of modulation_of pattern_of
    grid_at carrier_of carrier_at grid_of axes_of pilot_grid pilot_of polarity_at
    sequence delayed xor sample_at
    first_labels index_of frame_label label_of bits_at
labels = refl

-- the lines of two frames
decoded_line : result_line (record { frame = 0; data_sum = 14; pilot_sum = 442; code = 3; outcome = Octets (165 ∷ 15 ∷ []) })
    ≡ codes "frame 0 data 14 pilot 442 code 3 octets a50f" ++ 10 ∷ []
unfolding result_line frame_text sums_text outcome_text digits
decoded_line = refl

seedless_line : result_line (record { frame = 7; data_sum = 0; pilot_sum = 0; code = 0; outcome = SeedZero })
    ≡ codes "frame 7 data 0 pilot 0 code 0 seed zero" ++ 10 ∷ []
unfolding result_line frame_text sums_text outcome_text digits
seedless_line = refl

-- two places from 2 on, and place 7, which a frame of five places doesn't have
places_of_stretches : places_of (record { at = 2; count = 2 } ∷ []) (record { at = 7; count = 1 }) ≡ 2 ∷ 3 ∷ 7 ∷ []
places_of_stretches = refl

labels_put : put_on {V = ℕ} (2 ∷ 3 ∷ 7 ∷ []) (5 ∷ 6 ∷ 9 ∷ []) (replicate 5 0) ≡ 0 ∷ 0 ∷ 5 ∷ 6 ∷ 0 ∷ []
labels_put = refl

-- of two labels on one place the later one stays
later_label : put_on {V = ℕ} (1 ∷ 1 ∷ []) (3 ∷ 4 ∷ []) (replicate 3 0) ≡ 0 ∷ 4 ∷ 0 ∷ []
later_label = refl
