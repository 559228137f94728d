-- The results of frames, from the jobs of a capture one after another: a frame's result comes with its last job.
--
-- The definitions hold for any jobs, whether they are those of a capture or not. They are those of `Plans` and of
-- `Captured`, for the labels of the jobs.
use Rattle.std.specs.Prelude.{ℕ, ◌+◌, ◌-◌, ◌*◌, nat_le, List, [], ◌∷◌, length, map, unwrap_or, if◌then◌else◌}
use Rattle.ht_rate.specs.declared.kinds.Modulation.{Modulation}
use Rattle.ht_rate.specs.declared.rates.Rate.{Rate}
use Rattle.ht_rate.specs.Rates.{data_carriers_of, modulation_of, rate_at, streams_of}
use Rattle.ht_map.specs.Gray.{label_of}
use Rattle.ht_pam.specs.declared.point.Point.{Point}
use Rattle.ht_metric.specs.Jobs.{JobView, near}
use Rattle.ht_capture.specs.declared.items.FrameHead.{FrameHead}
use Rattle.ht_capture_laws.specs.Items.{FrameJobs}
use Rattle.ht_inverse.specs.declared.decoded.Decoded.{Decoded}
use Rattle.ht_inverse.specs.Decoding.{decoded_frame}
use Rattle.ht_results.specs.declared.frame_result.FrameResult.{FrameResult}
use Rattle.ht_results.specs.Heads.{Headed}
use Rattle.ht_results.specs.Plans.{Fold, Plan, SoFar, begun_by, given_from, given_if, jobs_by, put_values, under_way, with_kind_by}
use Rattle.ht_results.specs.Captured.{capture_plan, frame_by}
pub use Rattle.ht_results.specs.Captured.{kind_of, with_octets}

-- a frame under way: its head, the sums and labels of its jobs so far, and how many of its jobs are still to come
abbrev pub FrameSoFar : Type 0
FrameSoFar = SoFar FrameHead ℕ

-- the label of a point of the constellation
abbrev pub label_at : Modulation → Point → ℕ
label_at m p = unwrap_or (label_of m p) 0

-- a label of each stream is kept of a job: those of the points of its first nearest vector
abbrev pub job_labels : FrameHead → JobView → List ℕ
job_labels head job = map (label_at (modulation_of head.rate)) (near job).vector

-- the number of streams of a frame
abbrev pub streams_in : FrameHead → ℕ
streams_in head = streams_of head.rate

-- labels stand in the order symbol, data subcarrier, stream
abbrev pub label_plan : Plan FrameHead ℕ
label_plan = capture_plan streams_in job_labels 0

-- the number of a frame's jobs: its symbols times the subcarriers that are present
abbrev pub jobs_in_frame : FrameHead → ℕ
jobs_in_frame head = jobs_by label_plan head

-- a frame of which no hit was taken; it has a job at least
abbrev pub frame_begun : FrameHead → FrameSoFar
frame_begun head = begun_by label_plan head

-- where no frame is under way, the next job begins one
abbrev pub frame_of : FrameHead → FrameSoFar → FrameSoFar
frame_of head f = frame_by label_plan head f

-- the labels of points, stream by stream, from a place on
abbrev pub put_labels : Modulation → List ℕ → ℕ → List Point → List ℕ
put_labels m labels at points = put_values labels at (map (label_at m) points)

-- the place of the first label of a data subcarrier
abbrev pub label_place : Rate → ℕ → ℕ → ℕ
label_place r symbol m = (symbol * data_carriers_of r + m) * streams_of r

-- the frame with the hit of one more job
abbrev pub with_kind : JobView → FrameSoFar → FrameSoFar
with_kind job f = with_kind_by label_plan job f

-- the frame with one more job, which may begin it
unfoldable pub with_job : Headed → FrameSoFar → FrameSoFar
with_job h f = with_kind h.job (frame_of h.head f)

-- the result of a frame, from its sums and its labels
abbrev pub result_by : FrameSoFar → Decoded → FrameResult
result_by f d = record { frame = f.head.frame; data_sum = f.data_sum; pilot_sum = f.pilot_sum; code = d.code; outcome = d.outcome }

unfoldable pub result_of : FrameSoFar → FrameResult
result_of f = result_by f (decoded_frame f.head.rate f.head.length f.head.erased f.labels)

abbrev pub label_fold : Fold Headed FrameHead ℕ FrameResult
label_fold = record { step = with_job; result = result_of }

-- a frame's result comes with its last job
abbrev pub result_if : FrameSoFar → List FrameResult
result_if f = given_if label_fold f

-- the results that jobs give, one after another
abbrev pub results_from : FrameSoFar → List Headed → List FrameResult
results_from f jobs = given_from label_fold f jobs

-- the frame that is under way behind them
abbrev pub frame_after : FrameSoFar → List Headed → FrameSoFar
frame_after f jobs = under_way label_fold f jobs

-- no frame is under way
abbrev pub no_frame : FrameSoFar
no_frame = record { head = record { frame = 0; rate = rate_at 0 0; length = 1; erased = 0 }; data_sum = 0; pilot_sum = 0; labels = []; left = 0 }

-- the first frames that together have at most this number of jobs
abbrev pub frames_within : ℕ → List FrameJobs → List FrameJobs
frames_within jobs [] = []
frames_within jobs (f ∷ fs) = if nat_le (length f.jobs) jobs then f ∷ frames_within (jobs - length f.jobs) fs else []
