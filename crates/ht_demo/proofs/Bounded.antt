-- The sums of a capture's frames, each and all together, fit their types.
use Rattle.std.proofs.Common.{◌≡◌, inl, ℕ, zero, suc, ◌+◌, ◌*◌, ◌^◌, ◌≤◌, List, [], ◌∷◌, ◌++◌, length, map, slice_index_or}
use Rattle.std.proofs.Common.{Bool, true, false, not, All, refl, sym, ap, subst, ◌∙◌, arith, rules}
use Rattle.std.specs.List.{AllByRecursion, filter, range_with_len}
use Rattle.std.proofs.Math.Nat.{mul-le-mul, mul-le-mul_right, le_trans}
use Rattle.std.proofs.lemmas.Bool.Decides.{nat_tests}
use Rattle.std.proofs.lemmas.List.{length-map}
use Rattle.std.proofs.lemmas.List.FromFn.{length-range_with_len}
use Rattle.std.proofs.lemmas.List.Elements.{All-nil, All-cons, All-head, All-tail, All-filter, All-from_recursion, All-weaker}
use Rattle.std.proofs.lemmas.List.Sums.{count_by-le-length, length-filter, sum_by-le}
use Rattle.ht_rate.specs.declared.rates.Rate.{Rate}
use Rattle.ht_rate.specs.Carriers.{carrier_of}
use Rattle.ht_rate.specs.Rates.{carriers_of, streams_of, symbols_of}
use Rattle.ht_rate.proofs.RateFacts.{carriers_of-range, streams_of-range}
use Rattle.ht_pam.specs.declared.point.Point.{Point}
use Rattle.ht_pam.specs.Grids.{IsGrid}
use Rattle.ht_metric.specs.declared.sample.Sample.{Sample}
use Rattle.ht_metric.specs.Distance.{distance_of}
use Rattle.ht_metric.specs.Jobs.{JobView, IsNear, near}
use Rattle.ht_metric.specs.Rows.{Leg, Row, rows_of}
use Rattle.ht_metric.specs.Vectors.{is_in}
use Rattle.ht_metric.proofs.Allowed.{small_points}
use Rattle.ht_metric.proofs.Finding.{is_near}
use Rattle.ht_capture.specs.declared.frames.CaptureFrame.{CaptureFrame}
use Rattle.ht_capture.specs.declared.items.FrameHead.{FrameHead}
use Rattle.ht_capture.specs.declared.items.Item.{Item}
use Rattle.ht_capture.specs.declared.items.Item.TheVariants.{Frame, Job, Done}
use Rattle.ht_capture.specs.declared.places.Present.{Present}
use Rattle.ht_capture.specs.Contents.{AreLegs, AreSamples, AreTriangles, AreTyped, AreWhole, IsVersion, frame_jobs, head_of, items_from, items_of, job_of}
use Rattle.ht_capture.specs.Contents.{presents, presents_of, seen, symbol_jobs}
use Rattle.ht_capture.specs.Captures.{capture_of}
use Rattle.ht_capture.specs.Fields.{captures}
use Rattle.ht_capture.specs.Files.{AreCaptureFrames, HasAllCarriers, capture_file_of, is_erased, triangles_behind}
use Rattle.ht_capture.specs.Frames.{grid_at}
use Rattle.ht_capture.proofs.Filed.{file_written, samples_before, samples_behind}
use Rattle.ht_capture.proofs.Routes.{behind_typed}
use Rattle.ht_files.proofs.PointRoutes.{symbols_most}
use Rattle.ht_capture_laws.specs.Items.{FrameJobs, carriers_in, frames_in, has_all_jobs, items_of_frame, jobs_first, symbols_in, whole_frames}
use Rattle.ht_capture_laws.specs.Written.{items_each}
use Rattle.ht_capture_laws.proofs.Lists.{all_append, all_kept}
use Rattle.ht_capture_laws.proofs.More.{frames_each}
use Rattle.ht_fields.specs.Cases.{File}
use Rattle.ht_fields.specs.Meanings.{Meaning}
use Rattle.ht_fields.proofs.Answered.{met}
use Rattle.ht_results.specs.declared.frame_result.FrameResult.{FrameResult}
use Rattle.ht_results.specs.Results.{distances, frame_result, on_data, results_of}
use Rattle.ht_demo.specs.Demos.{SumsFit}
use Rattle.ht_round.proofs.Points.{ladders_for, length-grid}
use Rattle.ht_demo.proofs.Small.{rows_small}

-- the grid of a subcarrier
grid_good : (rate : Rate) (symbol carrier : ℕ) → IsGrid (grid_at rate symbol carrier)
unfolding grid_at
grid_good rate symbol carrier =
    let count = length-grid rate symbol carrier in
    let range = streams_of-range rate in
    record { some = omega (arith, count, range); few = omega (arith, count, range); ladders = ladders_for rate symbol (carrier_of rate carrier) }

-- the distance of a job's first nearest vector
abbrev pub IsSmall : JobView → Type 0
IsSmall job = (near job).distance ≤ 2 ^ 66

near_small : (job : JobView) (legs : List Leg) (samples : List Sample) → IsGrid job.grid → job.system ≡ rows_of legs samples
    → length legs ≤ 4 → AreLegs legs → AreSamples samples → IsSmall job
near_small job legs samples grid is few typed numbers =
    let x : List Point = (near job).vector in
    let found : IsNear job x = is_near job grid in
    let within : is_in job.grid x ≡ true = search (rules, found.within) in
    let small = rows_small legs samples x few typed numbers (small_points job.grid x grid.ladders within) in
    subst (λ (rows : List Row). distance_of rows x ≤ 2 ^ 66) (sym is) (omega (arith, small))

-- items whose jobs are near, and whose frames have a length of 16 bits
abbrev pub AreSmall : List Item → Type 0
AreSmall [] = Unit {0}
AreSmall (Frame head ∷ items) = (head.length ≤ 65535) × AreSmall items
AreSmall (Job job ∷ items) = IsSmall job × AreSmall items
AreSmall (Done ∷ items) = AreSmall items

small_append : (xs ys : List Item) → AreSmall xs → AreSmall ys → AreSmall (xs ++ ys)
small_append [] ys a b = b
small_append (Frame head ∷ xs) ys a b = (a.0, small_append xs ys a.1 b)
small_append (Job job ∷ xs) ys a b = (a.0, small_append xs ys a.1 b)
small_append (Done ∷ xs) ys a b = small_append xs ys a b

abbrev IsShaped : Present → Type 0
IsShaped p = (length p.triangle ≤ 4) × AreLegs p.triangle

first_shaped : (streams : ℕ) (triangles : List (List Leg)) → streams ≤ 4 → AreTriangles streams triangles
    → (length (slice_index_or triangles 0 []) ≤ 4) × AreLegs (slice_index_or triangles 0 [])
first_shaped streams [] few typed = (omega arith, tt)
first_shaped streams (t ∷ triangles) few typed = (omega (arith, typed.0), typed.1)

seen_shaped : (b : Bool) (carrier streams : ℕ) (triangles : List (List Leg)) → streams ≤ 4 → AreTriangles streams triangles
    → AllByRecursion IsShaped (seen b carrier triangles)
seen_shaped true carrier streams triangles few typed = tt
seen_shaped false carrier streams triangles few typed = (first_shaped streams triangles few typed, tt)

presents_shaped : (n carrier erased streams : ℕ) (triangles : List (List Leg)) → streams ≤ 4 → AreTriangles streams triangles
    → AllByRecursion IsShaped (presents n carrier erased triangles)
presents_shaped zero carrier erased streams triangles few typed = tt
presents_shaped (suc n) carrier erased streams triangles few typed =
    let b : Bool = is_erased erased carrier in
    all_append IsShaped (seen b carrier triangles) (presents n (carrier + 1) erased (triangles_behind b triangles))
    (seen_shaped b carrier streams triangles few typed)
    (presents_shaped n (carrier + 1) erased streams (triangles_behind b triangles) few (behind_typed b streams triangles typed))

symbol_small : (head : FrameHead) (symbol number : ℕ) (present : List Present) (samples : List Sample) → AllByRecursion IsShaped present
    → AreSamples samples → AreSmall (symbol_jobs head symbol number present samples)
symbol_small head symbol number [] samples shaped typed = tt
symbol_small head symbol number (p ∷ present) samples shaped typed = (
  near_small (job_of head symbol number p samples) p.triangle samples (grid_good head.rate symbol p.carrier) refl shaped.0.0 shaped.0.1 typed,
  symbol_small head symbol (number + 1) present _ shaped.1 (samples_behind (streams_of head.rate) samples typed),
)

frame_small : (n : ℕ) (head : FrameHead) (symbol number : ℕ) (present : List Present) (samples : List Sample) → AllByRecursion IsShaped present
    → AreSamples samples → AreSmall (frame_jobs n head symbol number present samples)
frame_small zero head symbol number present samples shaped typed = tt
frame_small (suc n) head symbol number present samples shaped typed =
    let w : ℕ = length present * streams_of head.rate in
    small_append (symbol_jobs head symbol number present _) (frame_jobs n head (symbol + 1) (number + length present) present _)
    (symbol_small head symbol number present _ shaped (samples_before w samples typed))
    (frame_small n head (symbol + 1) (number + length present) present _ shaped (samples_behind w samples typed))

items_small : (frame number : ℕ) (frames : List CaptureFrame) → AreTyped frames → AreSmall (items_from frame number frames)
unfolding items_from
items_small frame number [] typed = tt
items_small frame number (f ∷ frames) typed =
    let shaped = presents_shaped (carriers_of f.rate) 0 f.erased (streams_of f.rate) f.triangles (streams_of-range f.rate).1 typed.0.triangles in
    let len = typed.0.length_is in (
      omega (arith, len),
      small_append (frame_jobs (symbols_of f.rate f.length) (head_of frame f) 0 number (presents_of f) f.samples) _
          (frame_small (symbols_of f.rate f.length) (head_of frame f) 0 number (presents_of f) f.samples shaped typed.0.samples)
          (items_small (frame + 1) (number + symbols_of f.rate f.length * length (presents_of f)) frames typed.1),
    )

-- a frame whose jobs are near
abbrev pub IsSmallFrame : FrameJobs → Type 0
IsSmallFrame f = (f.head.length ≤ 65535) × AllByRecursion IsSmall f.jobs

jobs_small : (items : List Item) → AreSmall items → AllByRecursion IsSmall (jobs_first items)
jobs_small [] small = tt
jobs_small (Frame head ∷ items) small = tt
jobs_small (Job job ∷ items) small = (small.0, jobs_small items small.1)
jobs_small (Done ∷ items) small = jobs_small items small

frames_small : (items : List Item) → AreSmall items → AllByRecursion IsSmallFrame (frames_in items)
frames_small [] small = tt
frames_small (Frame head ∷ items) small = ((small.0, jobs_small items small.1), frames_small items small.1)
frames_small (Job job ∷ items) small = frames_small items small.1
frames_small (Done ∷ items) small = frames_small items small

-- how many jobs a frame has
filter_few : {X : Type 0} (p : X → Bool) (xs : List X) → length (filter p xs) ≤ length xs
filter_few p xs = let a = length-filter p xs in let b = count_by-le-length p xs in omega (arith, a, b)

carriers_few : (head : FrameHead) → length (carriers_in head) ≤ 114
carriers_few head =
    let most = filter_few (λ carrier. not (is_erased head.erased carrier)) (range_with_len 0 (carriers_of head.rate)) in
    let all = length-range_with_len 0 (carriers_of head.rate) in
    let range = (carriers_of-range head.rate).1 in
    omega (arith, most, all, range)

jobs_few : (f : FrameJobs) → f.head.length ≤ 65535 → has_all_jobs f ≡ true → length f.jobs ≤ 119574144
jobs_few f le all =
    let n : ℕ = symbols_in f.head in
    let m : ℕ = length (carriers_in f.head) in
    let is : length f.jobs ≡ n * m = grind (arith, nat_tests, all) in
    let most : n * m ≤ 20166 * 114 = mul-le-mul (symbols_most f.head.rate f.head.length le) (carriers_few f.head) in
    omega (arith, is, most)

-- the sum over the jobs that a test picks
picked_small : (p : JobView → Bool) (jobs : List JobView) → AllByRecursion IsSmall jobs → length jobs ≤ 119574144
    → distances (filter p jobs) ≤ 2 ^ 96
picked_small p jobs small few =
    let all : All IsSmall (filter p jobs) = All-filter p IsSmall jobs (All-from_recursion IsSmall jobs small) in
    let sum = sum_by-le (λ (job : JobView). (near job).distance) (2 ^ 66) (filter p jobs) all in
    let most = filter_few p jobs in
    let wide : length (filter p jobs) * 2 ^ 66 ≤ 119574144 * 2 ^ 66 = mul-le-mul_right (2 ^ 66) (le_trans most few) in
    omega (arith, sum, wide)

-- the sums of a frame
abbrev pub HasSmallSums : FrameResult → Type 0
HasSmallSums r = (r.data_sum ≤ 2 ^ 96) × (r.pilot_sum ≤ 2 ^ 96)

result_small : (f : FrameJobs) → IsSmallFrame f → has_all_jobs f ≡ true → HasSmallSums (frame_result f)
unfolding frame_result
result_small f small all =
    let few = jobs_few f small.0 all in
    (picked_small (on_data f.head.rate) f.jobs small.1 few, picked_small (λ job. not (on_data f.head.rate job)) f.jobs small.1 few)

results_small : (fs : List FrameJobs) → AllByRecursion (λ f. IsSmallFrame f × (has_all_jobs f ≡ true)) fs → All HasSmallSums (map frame_result fs)
results_small [] small = All-nil HasSmallSums
results_small (f ∷ fs) small =
    All-cons HasSmallSums (frame_result f) (map frame_result fs) (result_small f small.0.0 small.0.1) (results_small fs small.1)

-- the items of a file that was written
items_written : (frames : List CaptureFrame) → AreCaptureFrames frames → AreTyped frames → IsVersion 1 frames
    → (capture_of (capture_file_of 1 frames)).items ≡ items_of frames
items_written frames fit typed version =
    ap (λ (m : Meaning Item). m.items) (met captures (capture_file_of 1 frames) (items_of frames) File (file_written 1 frames fit typed version))

length-each : (frame number : ℕ) (frames : List CaptureFrame) → length (items_each frame number frames) ≡ length frames
length-each frame number [] = refl
length-each frame number (f ∷ frames) =
    ap suc (length-each (frame + 1) (number + symbols_of f.rate f.length * length (presents_of f)) frames)

frames_counted : (frames : List CaptureFrame) → length (frames_in (items_of frames)) ≡ length frames
frames_counted frames =
    sym (length-map (frames_in (items_of frames)) items_of_frame) ∙ (ap length (frames_each frames) ∙ length-each 0 0 frames)

small_data : (r : FrameResult) → HasSmallSums r → r.data_sum ≤ 2 ^ 96
small_data r small = small.0

small_pilot : (r : FrameResult) → HasSmallSums r → r.pilot_sum ≤ 2 ^ 96
small_pilot r small = small.1

fit_of : (results : List FrameResult) → length results ≤ 65535 → All HasSmallSums results → SumsFit results
fit_of results few small =
    let d = sum_by-le (λ (r : FrameResult). r.data_sum) (2 ^ 96) results (All-weaker HasSmallSums (λ r. r.data_sum ≤ 2 ^ 96) small_data results small) in
    let p = sum_by-le (λ (r : FrameResult). r.pilot_sum) (2 ^ 96) results (All-weaker HasSmallSums (λ r. r.pilot_sum ≤ 2 ^ 96) small_pilot results small) in
    let most : length results * 2 ^ 96 ≤ 65535 * 2 ^ 96 = mul-le-mul_right (2 ^ 96) few in
    record { few = few; data_sums = omega (arith, d, most); pilot_sums = omega (arith, p, most) }

whole_all : (frames : List CaptureFrame) → All HasAllCarriers frames → AreWhole frames
whole_all [] whole = tt
whole_all (f ∷ frames) whole = (All-head HasAllCarriers f frames whole, whole_all frames (All-tail HasAllCarriers f frames whole))

pub have_fit : (frames : List CaptureFrame) → AreCaptureFrames frames → AreTyped frames → All HasAllCarriers frames
    → SumsFit (results_of (capture_file_of 1 frames))
unfolding results_of
have_fit frames fit typed whole =
    let items : List Item = items_of frames in
    let kept = all_kept IsSmallFrame has_all_jobs (frames_in items) (frames_small items (items_small 0 0 frames typed)) in
    let most = filter_few has_all_jobs (frames_in items) in
    let count = frames_counted frames in
    let few = fit.few in
    let len = length-map (whole_frames items) frame_result in
    let here = fit_of (map frame_result (whole_frames items)) (omega (arith, most, count, few, len)) (results_small (whole_frames items) kept) in
    subst (λ (is : List Item). SumsFit (map frame_result (whole_frames is))) (sym (items_written frames fit typed (inl (refl, whole_all frames whole)))) here
