-- What the frames of a clause 18 capture come to, by the places of their jobs.
use Rattle.std.specs.Prelude.{ℕ, ◌+◌, List, [], ◌∷◌, nat_lt, if◌then◌else◌}
use Rattle.ht_rate.specs.declared.kinds.Modulation.{Modulation}
use Rattle.ht_pam.specs.declared.point.Point.{Point}
use Rattle.ht_metric.specs.Jobs.{near}
use Rattle.ht_inverse.specs.declared.decoded.Decoded.{Decoded}
use Rattle.ht_clause18.specs.Carriers.{carriers, carrier_of}
use Rattle.ht_clause18.specs.Rates.{modulation_of}
use Rattle.ht_results.specs.declared.frame_result.FrameResult.{FrameResult}
use Rattle.ht_results.specs.Folding.{label_at}
use Rattle.ht_results.specs.Plans.{Plan, SoFar, whole_by}
use Rattle.ht_legacy_inverse.specs.Decoding.{legacy_decoded_frame}
use Rattle.ht_legacy_inverse.specs.Received.{labels_per_symbol}
use Rattle.ht_legacy_blocks.specs.declared.head.LegacyFrameHead.{LegacyFrameHead}
use Rattle.ht_legacy_blocks.specs.Frames.{LegacyFrameJobs, symbols_in}

-- the index of the subcarrier that is data subcarrier m: the pilots stand at 5, 19, 32 and 46
abbrev pub data_index : ℕ → ℕ
data_index m =
    if nat_lt m 5 then m
    else if nat_lt m 18 then m + 1
    else if nat_lt m 30 then m + 2
    else if nat_lt m 43 then m + 3
    else m + 4

-- the label of the one stream of a vector
abbrev pub first_label : Modulation → List Point → ℕ
first_label m [] = 0
first_label m (point ∷ points) = label_at m point

-- Of each job on a data subcarrier the label is kept that was detected: that of its first nearest point. No subcarrier is
-- erased.
abbrev pub legacy_plan : Plan LegacyFrameHead ℕ
legacy_plan = record {
  symbols = symbols_in;
  subcarriers = λ head. carriers;
  data_carriers = λ head. labels_per_symbol;
  kind = λ head carrier. carrier_of carrier;
  index = λ head m. data_index m;
  erased = λ head. 0;
  width = λ head. 1;
  values = λ head job. first_label (modulation_of head.rate) (near job).vector ∷ [];
  none = 0;
}

abbrev pub LegacySoFar : Type 0
LegacySoFar = SoFar LegacyFrameHead ℕ

-- the result of a frame, from its sums and its labels
abbrev pub result_by : LegacySoFar → Decoded → FrameResult
result_by f d = record { frame = f.head.frame; data_sum = f.data_sum; pilot_sum = f.pilot_sum; code = d.code; outcome = d.outcome }

unfoldable pub result_of : LegacySoFar → FrameResult
result_of f = result_by f (legacy_decoded_frame f.head.rate f.head.length f.labels)

-- what all jobs of a frame come to: the sums of their distances on data subcarriers and on pilots, and the labels in the
-- order symbol, data subcarrier
abbrev pub legacy_frame_result : LegacyFrameJobs → FrameResult
legacy_frame_result f = result_of (whole_by legacy_plan f.head f.jobs)
