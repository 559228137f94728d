-- What is kept of the jobs of a capture's frames comes to what is said of their places: the labels, and the distances.
use Rattle.std.proofs.Common.{◌≡◌, ℕ, zero, suc, ◌+◌, ◌<◌, List, [], ◌∷◌, ◌++◌, map, replicate, not, Bool, true, false, Option, None, Some}
use Rattle.std.proofs.Common.{if◌then◌else◌, refl, sym, ap, ◌∙◌}
use Rattle.std.specs.List.{AllByRecursion, filter, find, flat_map, range_with_len}
use Rattle.std.proofs.lemmas.List.{length-map}
use Rattle.ht_rate.specs.declared.kinds.Carrier.TheVariants.{Data}
use Rattle.ht_rate.specs.Carriers.{carrier_of, index_of}
use Rattle.ht_rate.specs.Rates.{data_carriers_of, modulation_of, streams_of}
use Rattle.ht_rate.proofs.CarrierFacts.{carrier_of-index_of}
use Rattle.ht_metric.specs.Jobs.{JobView, near}
use Rattle.ht_capture.specs.declared.items.FrameHead.{FrameHead}
use Rattle.ht_capture_laws.specs.Items.{FrameJobs, IsHead, IsJobOf, IsPlaceIn, IsWholeFrame, symbols_in}
use Rattle.ht_capture_laws.proofs.Lists.{all_weaker}
use Rattle.ht_results.specs.declared.frame_result.FrameResult.{FrameResult}
use Rattle.ht_results.specs.Heads.{Headed}
use Rattle.ht_results.specs.Captured.{ComesTo, with_job_by}
use Rattle.ht_results.specs.Distances.{distance_fold, distance_in, distance_plan, frame_distances, job_distance, one_value, symbol_distances}
use Rattle.ht_results.specs.Folding.{FrameSoFar, job_labels, label_at, label_fold, label_plan, result_of, streams_in, with_job}
use Rattle.ht_results.specs.Labels.{carrier_labels, data_job_at, frame_label, frame_labels, label_in}
use Rattle.ht_results.specs.Plans.{distances, kept_at, kept_by_place, kept_in, kept_of, is_data, on_data_by, stands_at, whole_by}
use Rattle.ht_results.specs.Results.{data_sum_of, frame_result, on_data, pilot_sum_of}
use Rattle.ht_results.proofs.Places.{stands}
use Rattle.ht_results.proofs.Putting.{flat_same, table_same}
use Rattle.ht_results.proofs.Vectors.{stream_labels, vector_long}
use Rattle.ht_results.proofs.Whole.{in_frame, kind_is}

-- what holds of all jobs holds of the one that is found
abbrev Holds : (JobView → Type 0) → Option JobView → Type 0
Holds P None = Unit {0}
Holds P (Some job) = P job

chosen : (P : JobView → Type 0) (test : JobView → Bool) (job : JobView) (b : Bool) (rest : Option JobView) → test job ≡ b → P job
    → Holds (λ j. P j × (test j ≡ true)) rest → Holds (λ j. P j × (test j ≡ true)) (if b then Some job else rest)
chosen P test job true rest is holds others = (holds, is)
chosen P test job false rest is holds others = others

found : (P : JobView → Type 0) (test : JobView → Bool) (jobs : List JobView) → AllByRecursion P jobs → Holds (λ j. P j × (test j ≡ true)) (find test jobs)
found P test [] all = tt
found P test (job ∷ jobs) all = chosen P test job (test job) (find test jobs) refl all.0 (found P test jobs all.1)

-- two tests that agree keep the same jobs
kept_same : (p q : JobView → Bool) (jobs : List JobView) → AllByRecursion (λ j. p j ≡ q j) jobs → filter p jobs ≡ filter q jobs
kept_same p q [] same = refl
kept_same p q (job ∷ jobs) same =
    ap (λ (b : Bool). if b then job ∷ filter p jobs else filter p jobs) same.0
    ∙ ap (λ (js : List JobView). if q job then job ∷ js else js) (kept_same p q jobs same.1)

-- the labels of a job are those of its streams
no_labels : (a n : ℕ) → replicate n 0 ≡ map {B = ℕ} (λ (s : ℕ). 0) (range_with_len a n)
no_labels a zero = refl
no_labels a (suc n) = ap (λ (z : List ℕ). 0 ∷ z) (no_labels (a + 1) n)

listed : (head : FrameHead) (symbol m : ℕ) (o : Option JobView) → m < data_carriers_of head.rate
    → Holds (λ j. IsJobOf head j × (stands_at symbol (index_of head.rate (Data m)) j ≡ true)) o
    → kept_of label_plan head o ≡ map (label_in (modulation_of head.rate) o) (range_with_len 1 (streams_of head.rate))
listed head symbol m None below holds = no_labels 1 (streams_of head.rate)
listed head symbol m (Some job) below holds =
    let carrier = (stands symbol (index_of head.rate (Data m)) job holds.1).1 in
    let is : carrier_of head.rate job.place.carrier ≡ Data m = ap (carrier_of head.rate) carrier ∙ (carrier_of-index_of head.rate (Data m) below).1 in
    sym (stream_labels (modulation_of head.rate) job (streams_of head.rate) (vector_long head job m is holds.0))

labels_kept : (f : FrameJobs) → IsWholeFrame f → kept_by_place label_plan f.head f.jobs ≡ frame_labels f
unfolding kept_by_place frame_labels frame_label
labels_kept f whole =
    let of_frame = all_weaker (λ (j : JobView). IsPlaceIn f.head j.place × IsJobOf f.head j) (IsJobOf f.head) f.jobs (λ j both. both.1) (in_frame f whole) in
    table_same (kept_at label_plan f.head f.jobs) (carrier_labels f) (symbols_in f.head) (data_carriers_of f.head.rate)
    (λ symbol m low few. listed f.head symbol m (data_job_at f symbol m) few
    (found (IsJobOf f.head) (stands_at symbol (index_of f.head.rate (Data m))) f.jobs of_frame))

-- a job on a data subcarrier of the rate
data_same : (f : FrameJobs) → IsWholeFrame f → AllByRecursion (λ j. on_data_by label_plan f.head j ≡ on_data f.head.rate j) f.jobs
data_same f whole =
    all_weaker (λ (j : JobView). IsPlaceIn f.head j.place × IsJobOf f.head j) (λ j. on_data_by label_plan f.head j ≡ on_data f.head.rate j) f.jobs
    (λ j both. ap is_data (kind_is f.head.rate j.place.carrier both.0.carrier)) (in_frame f whole)

-- with the sums they are the result of a frame
abbrev made : FrameHead → ℕ → ℕ → List ℕ → FrameResult
made head sum pilot_sum labels = result_of (record { head = head; data_sum = sum; pilot_sum = pilot_sum; labels = labels; left = 0 })

is_result : (f : FrameJobs) → made f.head (data_sum_of f) (pilot_sum_of f) (frame_labels f) ≡ frame_result f
unfolding result_of frame_result
is_result f = refl

result_is : (f : FrameJobs) → IsHead f.head → IsWholeFrame f → result_of (whole_by label_plan f.head f.jobs) ≡ frame_result f
result_is f head whole =
    let same = data_same f whole in
    let other = all_weaker (λ j. on_data_by label_plan f.head j ≡ on_data f.head.rate j)
    (λ j. not (on_data_by label_plan f.head j) ≡ not (on_data f.head.rate j)) f.jobs (λ j is. ap not is) same in
    let pilots : ℕ = distances (filter (λ j. not (on_data_by label_plan f.head j)) f.jobs) in
    let kept : List ℕ = kept_by_place label_plan f.head f.jobs in
    ap (λ (jobs : List JobView). made f.head (distances jobs) pilots kept) (kept_same (on_data_by label_plan f.head) (on_data f.head.rate) f.jobs same)
    ∙ (ap (λ (jobs : List JobView). made f.head (data_sum_of f) (distances jobs) kept)
    (kept_same (λ j. not (on_data_by label_plan f.head j)) (λ j. not (on_data f.head.rate j)) f.jobs other)
    ∙ (ap (made f.head (data_sum_of f) (pilot_sum_of f)) (labels_kept f whole) ∙ is_result f))

label_step : (h : Headed) (f : FrameSoFar) → with_job h f ≡ with_job_by label_plan h f
unfolding with_job with_job_by
label_step h f = refl

pub labels_come : ComesTo streams_in job_labels 0 label_fold frame_result
labels_come = record {
  step = label_step;
  wide = λ head job m is of. length-map (near job).vector (label_at (modulation_of head.rate)) ∙ vector_long head job m is of;
  whole = result_is;
}

-- one distance for each data subcarrier
one_each : (f : ℕ → List ℕ) (g : ℕ → ℕ) (a n : ℕ) → ((i : ℕ) → f i ≡ g i ∷ []) → flat_map f (range_with_len a n) ≡ map g (range_with_len a n)
one_each f g a zero same = refl
one_each f g a (suc n) same =
    ap (λ (z : List ℕ). z ++ flat_map f (range_with_len (a + 1) n)) (same a) ∙ ap (λ (z : List ℕ). g a ∷ z) (one_each f g (a + 1) n same)

one_distance : (head : FrameHead) (o : Option JobView) → kept_of distance_plan head o ≡ distance_in o ∷ []
one_distance head None = refl
one_distance head (Some job) = refl

distances_kept : (f : FrameJobs) → kept_by_place distance_plan f.head f.jobs ≡ frame_distances f
unfolding kept_by_place
distances_kept f =
    flat_same (kept_in distance_plan f.head f.jobs) (symbol_distances f) 0 (symbols_in f.head)
    (λ symbol low high. one_each (kept_at distance_plan f.head f.jobs symbol) (λ m. distance_in (data_job_at f symbol m)) 0 (data_carriers_of f.head.rate)
    (λ m. one_distance f.head (data_job_at f symbol m)))

pub distances_come : ComesTo one_value job_distance 0 distance_fold frame_distances
distances_come = record { step = λ h f. refl; wide = λ head job m is of. refl; whole = λ f head whole. distances_kept f }
