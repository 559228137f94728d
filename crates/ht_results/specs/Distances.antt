-- The distances of a capture's jobs by their places, frame by frame: a second thing that is kept of a job.
use Rattle.std.specs.Prelude.{ℕ, List, [], ◌∷◌, map, Option, None, Some}
use Rattle.std.specs.List.{flat_map, range_with_len}
use Rattle.ht_rate.specs.Rates.{data_carriers_of}
use Rattle.ht_metric.specs.Jobs.{JobView, near}
use Rattle.ht_capture.specs.declared.items.FrameHead.{FrameHead}
use Rattle.ht_capture.specs.Captures.{capture_of}
use Rattle.ht_capture_laws.specs.Items.{FrameJobs, symbols_in, whole_frames}
use Rattle.ht_results.specs.Heads.{Headed}
use Rattle.ht_results.specs.Captured.{capture_plan, with_job_by}
use Rattle.ht_results.specs.Labels.{data_job_at}
use Rattle.ht_results.specs.Plans.{Fold, Plan}

-- the distance of a job, and 0 where there is none
abbrev pub distance_in : Option JobView → ℕ
distance_in None = 0
distance_in (Some job) = (near job).distance

-- the distances in a symbol, one for each data subcarrier
abbrev pub symbol_distances : FrameJobs → ℕ → List ℕ
symbol_distances f symbol = map (λ m. distance_in (data_job_at f symbol m)) (range_with_len 0 (data_carriers_of f.head.rate))

-- the distances of a frame in the order symbol, data subcarrier
abbrev pub frame_distances : FrameJobs → List ℕ
frame_distances f = flat_map (symbol_distances f) (range_with_len 0 (symbols_in f.head))

-- the distances of the frames that are whole in a list of octets
abbrev pub distances_of : List ℕ → List (List ℕ)
distances_of octets = map frame_distances (whole_frames (capture_of octets).items)

-- the same job by job
abbrev pub one_value : FrameHead → ℕ
one_value head = 1

-- the one value that is kept of a job: its distance
abbrev pub job_distance : FrameHead → JobView → List ℕ
job_distance head job = (near job).distance ∷ []

-- the plan by which the distances of jobs are kept
abbrev pub distance_plan : Plan FrameHead ℕ
distance_plan = capture_plan one_value job_distance 0

-- the fold whose result of a frame is the list of its distances
abbrev pub distance_fold : Fold Headed FrameHead ℕ (List ℕ)
distance_fold = record { step = with_job_by distance_plan; result = λ f. f.labels }
