-- The jobs of frames that are written: how far their nearest vectors are, and where they stand.
use Rattle.std.proofs.Common.{◌≡◌, ℕ, zero, suc, ◌+◌, ◌*◌, ◌^◌, ◌<◌, ◌≤◌, List, [], ◌∷◌, ◌++◌, length, map, take, drop, slice_index_or}
use Rattle.std.proofs.Common.{Bool, true, false, not, All, refl, sym, ap, subst, ◌∙◌, arith, rules, length-append}
use Rattle.std.specs.List.{AllByRecursion, filter, range_with_len}
use Rattle.std.proofs.Math.Nat.{mul-le-mul, mul-le-mul_right, le_trans}
use Rattle.std.proofs.lemmas.Bool.Decides.{nat_tests}
use Rattle.std.proofs.lemmas.List.FromFn.{length-range_with_len}
use Rattle.std.proofs.lemmas.List.Elements.{All-head, All-tail, All-filter, All-from_recursion}
use Rattle.std.proofs.lemmas.List.Sums.{count_by-le-length, length-filter, sum_by-le}
use Rattle.ht_rate.specs.declared.rates.Rate.{Rate}
use Rattle.ht_rate.specs.Carriers.{carrier_of}
use Rattle.ht_rate.specs.Rates.{carriers_of, streams_of, symbols_of}
use Rattle.ht_rate.proofs.RateFacts.{carriers_of-range, streams_of-range}
use Rattle.ht_pam.specs.declared.point.Point.{Point}
use Rattle.ht_pam.specs.Grids.{IsGrid}
use Rattle.ht_metric.specs.declared.sample.Sample.{Sample}
use Rattle.ht_metric.specs.Distance.{IsInRange, distance_of}
use Rattle.ht_metric.specs.Jobs.{JobView, IsNear, near}
use Rattle.ht_metric.specs.Rows.{Leg, Row, rows_of}
use Rattle.ht_metric.specs.Vectors.{is_in}
use Rattle.ht_metric.proofs.Allowed.{long_as_grid, small_points}
use Rattle.ht_metric.proofs.Finding.{is_near}
use Rattle.ht_capture.specs.declared.frames.CaptureFrame.{CaptureFrame}
use Rattle.ht_capture.specs.declared.items.FrameHead.{FrameHead}
use Rattle.ht_capture.specs.declared.items.Item.{Item}
use Rattle.ht_capture.specs.declared.items.Item.TheVariants.{Frame, Job, Done}
use Rattle.ht_capture.specs.declared.places.Present.{Present}
use Rattle.ht_capture.specs.Contents.{AreLegs, AreSamples, AreTriangles, AreTyped, frame_jobs, head_of, items_from, job_of}
use Rattle.ht_capture.specs.Contents.{presents, presents_of, seen, symbol_jobs}
use Rattle.ht_capture.specs.Files.{FitsFrame, is_erased, present_of, triangles_behind}
use Rattle.ht_capture.specs.Frames.{grid_at}
use Rattle.ht_capture.proofs.Filed.{length-presents, samples_before, samples_behind}
use Rattle.ht_capture.proofs.Routes.{behind_typed}
use Rattle.ht_files.proofs.PointRoutes.{symbols_most}
use Rattle.ht_capture_laws.specs.Items.{FrameJobs, carriers_in, frames_in, has_all_jobs, jobs_first, symbols_in}
use Rattle.ht_capture_laws.proofs.Lists.{all_append}
use Rattle.ht_results.specs.JobTexts.{job_line_of, job_lines, jobs_of, levels_of}
use Rattle.ht_results.specs.Results.{distances}
use Rattle.ht_round.proofs.Points.{ladders_for, length-grid}
use Rattle.ht_demo.proofs.Small.{rows_small}
use Rattle.ht_library.proofs.LineLengths.{IsLevel, job-long}

-- the grid of a subcarrier
grid_good : (rate : Rate) (symbol carrier : ℕ) → IsGrid (grid_at rate symbol carrier)
unfolding grid_at
grid_good rate symbol carrier =
    let count = length-grid rate symbol carrier in
    let range = streams_of-range rate in
    record { some = omega (arith, count, range); few = omega (arith, count, range); ladders = ladders_for rate symbol (carrier_of rate carrier) }

-- the distance of a job's first nearest vector
abbrev pub IsSmall : JobView → Type 0
IsSmall job = (near job).distance ≤ 2 ^ 66

-- a subcarrier of a frame with a triangle of up to four rows
abbrev pub Stands : Present → Type 0
Stands p = (p.carrier < 114) × (length p.triangle ≤ 4) × AreLegs p.triangle

pub near_small : (head : FrameHead) (symbol number : ℕ) (p : Present) (samples : List Sample) → Stands p → AreSamples samples
    → IsSmall (job_of head symbol number p samples)
near_small head symbol number p samples stands numbers =
    let job : JobView = job_of head symbol number p samples in
    let grid : IsGrid job.grid = grid_good head.rate symbol p.carrier in
    let x : List Point = (near job).vector in
    let found : IsNear job x = is_near job grid in
    let within : is_in job.grid x ≡ true = search (rules, found.within) in
    let few = stands.1 in
    let small = rows_small p.triangle samples x few stands.2 numbers (small_points job.grid x grid.ladders within) in
    let less : distance_of (rows_of p.triangle samples) x ≤ 2 ^ 66 = omega (arith, small, few) in
    less

-- the levels of points
levels-small : (x : List Point) → All IsInRange x → AllByRecursion IsLevel (levels_of x)
levels-small [] range = tt
levels-small (p ∷ x) range =
    let here : IsInRange p = All-head IsInRange p x range in
    (here.i, (here.q, levels-small x (All-tail IsInRange p x range)))

length-levels : (x : List Point) → length (levels_of x) ≡ 2 * length x
length-levels [] = refl
length-levels (p ∷ x) = omega (arith, length-levels x)

-- the line of a job
line-long : (head : FrameHead) (symbol number : ℕ) (p : Present) (samples : List Sample) → head.frame ≤ 65535 → symbol < 20166 → Stands p
    → AreSamples samples → length (job_line_of (job_of head symbol number p samples)) ≤ 48 * streams_of head.rate
unfolding job_line_of
line-long head symbol number p samples few early stands numbers =
    let job : JobView = job_of head symbol number p samples in
    let grid : IsGrid job.grid = grid_good head.rate symbol p.carrier in
    let x : List Point = (near job).vector in
    let found : IsNear job x = is_near job grid in
    let within : is_in job.grid x ≡ true = search (rules, found.within) in
    let long : length x ≡ streams_of head.rate = long_as_grid job.grid x within ∙ length-grid head.rate symbol p.carrier in
    let low = stands.0 in
    let line = job-long head.frame symbol p.carrier (near job).distance (levels_of x) few (omega (arith, early)) (omega (arith, low))
    (near_small head symbol number p samples stands numbers) (levels-small x (small_points job.grid x grid.ladders within)) in
    omega (arith, line, long, length-levels x, streams_of-range head.rate)

-- the lines of the jobs among items, and how long they are
abbrev pub lines_in : List Item → ℕ
lines_in items = length (job_lines (jobs_of items))

lines-append : (xs ys : List Item) → lines_in (xs ++ ys) ≡ lines_in xs + lines_in ys
lines-append [] ys = omega arith
lines-append (Frame head ∷ xs) ys = lines-append xs ys
lines-append (Job job ∷ xs) ys =
    omega (
      arith,
      length-append (job_line_of job) (job_lines (jobs_of (xs ++ ys))),
      length-append (job_line_of job) (job_lines (jobs_of xs)),
      lines-append xs ys,
    )
lines-append (Done ∷ xs) ys = lines-append xs ys

symbol-lines : (head : FrameHead) (symbol number : ℕ) (present : List Present) (samples : List Sample) → head.frame ≤ 65535 → symbol < 20166
    → AllByRecursion Stands present → AreSamples samples
    → lines_in (symbol_jobs head symbol number present samples) ≤ length present * (48 * streams_of head.rate)
symbol-lines head symbol number [] samples few early stand numbers = omega arith
symbol-lines head symbol number (p ∷ present) samples few early stand numbers =
    let w : ℕ = 48 * streams_of head.rate in
    let here = line-long head symbol number p samples few early stand.0 numbers in
    let rest = symbol-lines head symbol (number + 1) present (drop (streams_of head.rate) samples) few early stand.1
    (samples_behind (streams_of head.rate) samples numbers) in
    let all : (1 + length present) * w ≡ w + length present * w = omega arith in
    omega (
      arith,
      here,
      rest,
      all,
      length-append (job_line_of (job_of head symbol number p samples))
          (job_lines (jobs_of (symbol_jobs head symbol (number + 1) present (drop (streams_of head.rate) samples)))),
    )

frame-lines : (n : ℕ) (head : FrameHead) (symbol number : ℕ) (present : List Present) (samples : List Sample) → head.frame ≤ 65535
    → symbol + n ≤ 20166 → AllByRecursion Stands present → AreSamples samples
    → lines_in (frame_jobs n head symbol number present samples) ≤ n * (length present * (48 * streams_of head.rate))
frame-lines zero head symbol number present samples few early stand numbers = omega arith
frame-lines (suc n) head symbol number present samples few early stand numbers =
    let w : ℕ = length present * streams_of head.rate in
    let each : ℕ = length present * (48 * streams_of head.rate) in
    let here = symbol-lines head symbol number present (take w samples) few (omega (arith, early)) stand (samples_before w samples numbers) in
    let rest = frame-lines n head (symbol + 1) (number + length present) present (drop w samples) few (omega (arith, early)) stand
    (samples_behind w samples numbers) in
    let all : (1 + n) * each ≡ each + n * each = omega arith in
    omega (
      arith,
      here,
      rest,
      all,
      lines-append (symbol_jobs head symbol number present (take w samples))
          (frame_jobs n head (symbol + 1) (number + length present) present (drop w samples)),
    )

-- the subcarriers of a frame that are present
first_stands : (carrier streams : ℕ) (triangles : List (List Leg)) → carrier < 114 → streams ≤ 4 → AreTriangles streams triangles
    → (carrier < 114) × (length (slice_index_or triangles 0 []) ≤ 4) × AreLegs (slice_index_or triangles 0 [])
first_stands carrier streams [] low few typed = (low, omega arith, tt)
first_stands carrier streams (t ∷ triangles) low few typed = (low, omega (arith, few, typed.0), typed.1)

seen_stands : (b : Bool) (carrier streams : ℕ) (triangles : List (List Leg)) → carrier < 114 → streams ≤ 4 → AreTriangles streams triangles
    → AllByRecursion Stands (seen b carrier triangles)
seen_stands true carrier streams triangles low few typed = tt
seen_stands false carrier streams triangles low few typed = (first_stands carrier streams triangles low few typed, tt)

presents_stand : (n carrier erased streams : ℕ) (triangles : List (List Leg)) → carrier + n ≤ 114 → streams ≤ 4 → AreTriangles streams triangles
    → AllByRecursion Stands (presents n carrier erased triangles)
presents_stand zero carrier erased streams triangles low few typed = tt
presents_stand (suc n) carrier erased streams triangles low few typed =
    let b : Bool = is_erased erased carrier in
    all_append Stands (seen b carrier triangles) (presents n (carrier + 1) erased (triangles_behind b triangles))
    (seen_stands b carrier streams triangles (omega (arith, low)) few typed)
    (presents_stand n (carrier + 1) erased streams (triangles_behind b triangles) (omega (arith, low)) few (behind_typed b streams triangles typed))

pub stand_in : (f : CaptureFrame) → AreTriangles (streams_of f.rate) f.triangles → AllByRecursion Stands (presents_of f)
stand_in f typed =
    let wide : 0 + carriers_of f.rate ≤ 114 = let range = carriers_of-range f.rate in omega (arith, range) in
    let few : streams_of f.rate ≤ 4 = (streams_of-range f.rate).1 in
    presents_stand (carriers_of f.rate) 0 f.erased (streams_of f.rate) f.triangles wide few typed

-- the samples of frames
abbrev pub samples_in : List CaptureFrame → ℕ
samples_in [] = 0
samples_in (f ∷ frames) = length f.samples + samples_in frames

times : (n p s : ℕ) → n * (p * (48 * s)) ≡ 48 * (n * (p * s))
times n p s = grind arith

-- the lines of the jobs of frames
pub lines-long : (frame number : ℕ) (frames : List CaptureFrame) → frame + length frames ≤ 65535 → AreTyped frames → AllByRecursion FitsFrame frames
    → lines_in (items_from frame number frames) ≤ 48 * samples_in frames
unfolding items_from
lines-long frame number [] few typed fits = omega arith
lines-long frame number (f ∷ frames) few typed fits =
    let n : ℕ = symbols_of f.rate f.length in
    let len = typed.0.length_is in
    let early : 0 + n ≤ 20166 = let most = symbols_most f.rate f.length (omega (arith, len)) in omega (arith, most) in
    let here = frame-lines n (head_of frame f) 0 number (presents_of f) f.samples (omega (arith, few)) early (stand_in f typed.0.triangles) typed.0.samples in
    let next : ℕ = number + n * length (presents_of f) in
    let rest = lines-long (frame + 1) next frames (omega (arith, few)) typed.1 fits.1 in
    let count : length (presents_of f) ≡ present_of f = length-presents (carriers_of f.rate) 0 f.erased f.triangles in
    let put : n * (length (presents_of f) * (48 * streams_of f.rate)) ≡ 48 * length f.samples =
    ap (λ (p : ℕ). n * (p * (48 * streams_of f.rate))) count ∙ (times n (present_of f) (streams_of f.rate) ∙ ap (λ (k : ℕ). 48 * k) (sym fits.0.samples)) in
    omega (
      arith,
      here,
      rest,
      put,
      lines-append (Frame (head_of frame f) ∷ frame_jobs n (head_of frame f) 0 number (presents_of f) f.samples) (items_from (frame + 1) next frames),
    )
