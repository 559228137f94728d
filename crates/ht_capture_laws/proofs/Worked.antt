-- The frames of a small capture, by computation.
use Rattle.std.specs.Prelude.{◌≡◌, ℕ, List, [], ◌∷◌, ◌++◌, Some, length, map, replicate, refl}
use Rattle.ht_io.specs.declared.faults.Kind.TheVariants.{BadMcs, Truncated}
use Rattle.ht_fields.specs.Meanings.{meaning, meaning_of}
use Rattle.ht_metric.specs.Jobs.{JobView}
use Rattle.ht_capture.specs.Captures.{capture_of}
use Rattle.ht_capture.specs.Frames.{erase, job_at, jobs_at}
use Rattle.ht_capture.specs.Fields.{bad_flag, carriers_due, turn_due, head_given, judge_bandwidth, judge_count, judge_flag, judge_length}
use Rattle.ht_capture.specs.Fields.{judge_magic, judge_mcs, judge_symbol, judge_triangle, judge_version, next_symbol, next_turn, symbol_due}
use Rattle.ht_rate.specs.Rates.{bandwidth_of, carriers_of, coded_bits_of, data_bits_of, data_carriers_of, encoders_of, label_bits_of, mcs_of}
use Rattle.ht_rate.specs.Rates.{modulation_of, needed_bits_of, pattern_of, pilots_of, rate_at, stream_bits_of, streams_of, symbols_of}
use Rattle.ht_capture_laws.specs.Items.{cut_frames, frames_in, jobs_in, whole_frames}

-- a frame at 20 MHz of one octet, in which subcarrier 0 alone is present, and the first octets of its samples
frame_with : ℕ → ℕ → List ℕ
frame_with mcs samples = 0 ∷ mcs ∷ 0 ∷ 1 ∷ 0 ∷ 0 ∷ 10 ∷ (replicate 55 1 ++ replicate samples 0)

-- two such frames in version 2
two_frames : ℕ → ℕ → List ℕ
two_frames mcs samples = 72 ∷ 84 ∷ 67 ∷ 80 ∷ 2 ∷ 0 ∷ 2 ∷ (frame_with 0 16 ++ frame_with mcs samples)

two_frames_length : length (two_frames 0 16) ≡ 163
unfolding two_frames frame_with
two_frames_length = refl

-- what its octets show: all of them, those without the last one, and those with MCS 32 in the second head
record IsShown : Type 0 where
  all : (length (capture_of (two_frames 0 16)).items ≡ 6) × (length (whole_frames (capture_of (two_frames 0 16)).items) ≡ 2)
      × (cut_frames (capture_of (two_frames 0 16)).items ≡ [])
  shorter : (length (whole_frames (capture_of (two_frames 0 15)).items) ≡ 1)
      × (map (λ (j : JobView). j.place) (jobs_in (cut_frames (capture_of (two_frames 0 15)).items)) ≡ record { frame = 1; symbol = 0; carrier = 0 } ∷ [])
      × ((capture_of (two_frames 0 15)).fault ≡ Some (record { kind = Truncated; offset = 162 }))
  bad_head : ((capture_of (two_frames 32 16)).fault ≡ Some (record { kind = BadMcs; offset = 86 }))
      × (length (whole_frames (capture_of (two_frames 32 16)).items) ≡ 1)
      × (length (frames_in (capture_of (two_frames 32 16)).items) ≡ 1)

is_shown : IsShown
unfolding two_frames frame_with meaning meaning_of judge_magic judge_version judge_count turn_due judge_bandwidth judge_mcs judge_length carriers_due
    judge_flag bad_flag judge_triangle head_given erase symbol_due judge_symbol next_symbol next_turn jobs_at job_at rate_at carriers_of
    data_carriers_of pilots_of streams_of symbols_of needed_bits_of data_bits_of encoders_of mcs_of bandwidth_of coded_bits_of stream_bits_of
    label_bits_of modulation_of pattern_of
is_shown = record { all = (refl, refl, refl); shorter = (refl, refl, refl); bad_head = (refl, refl, refl) }
