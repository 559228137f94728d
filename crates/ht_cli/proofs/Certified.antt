-- The records of the data jobs of a capture are those of a file of certificates, and all of their certificates hold.
use Rattle.std.proofs.Common.{◌≡◌, ℕ, zero, suc, ◌+◌, ◌*◌, ◌≤◌, ℤ, unsigned_abs, w8, FitsSigned, List, [], ◌∷◌, ◌++◌, length, take, drop, map}
use Rattle.std.proofs.Common.{Bool, true, false, if◌then◌else◌, All, inl, inr, refl, sym, ap, subst, ◌∙◌, arith, rules}
use Rattle.std.specs.List.{AllByRecursion}
use Rattle.std.proofs.Math.Nat.{mul-le-mul_right}
use Rattle.std.proofs.lemmas.Int.{fits_signed_from_abs, ints}
use Rattle.std.proofs.lemmas.List.{length-append}
use Rattle.std.proofs.lemmas.List.Elements.{All-head, All-tail}
use Rattle.ht_fields.specs.Cases.{File, IsFile}
use Rattle.ht_fields.specs.Meanings.{Meaning}
use Rattle.ht_fields.specs.Tests.{AreBytes}
use Rattle.ht_fields.proofs.Answered.{met}
use Rattle.ht_rate.specs.declared.kinds.Carrier.{Carrier}
use Rattle.ht_rate.specs.declared.kinds.Carrier.TheVariants.{Data, Pilot}
use Rattle.ht_rate.specs.declared.kinds.Modulation.{Modulation}
use Rattle.ht_rate.specs.declared.rates.Rate.{Rate}
use Rattle.ht_rate.specs.Carriers.{carrier_of, one_for}
use Rattle.ht_rate.specs.Rates.{carriers_of, modulation_of, streams_of, symbols_of}
use Rattle.ht_rate.proofs.LengthFacts.{symbols_of-holds}
use Rattle.ht_rate.proofs.RateFacts.{streams_of-range}
use Rattle.ht_map.specs.Constellation.{grid_of}
use Rattle.ht_pam.specs.declared.axes.Axes.{Axes}
use Rattle.ht_pam.specs.declared.point.Point.{Point}
use Rattle.ht_pam.specs.Grids.{IsGrid}
use Rattle.ht_metric.specs.declared.sample.Sample.{Sample}
use Rattle.ht_metric.specs.Arrays.{legs-rows_of, samples}
use Rattle.ht_metric.proofs.RowLemmas.{length-rows_of}
use Rattle.ht_metric.specs.Distance.{IsInRange}
use Rattle.ht_metric.specs.Jobs.{IsJob, IsNear, JobView, near}
use Rattle.ht_metric.specs.Rows.{Leg, rows_of}
use Rattle.ht_metric.specs.Vectors.{is_in}
use Rattle.ht_metric.proofs.Allowed.{long_as_grid, small_points}
use Rattle.ht_metric.proofs.Finding.{is_near}
use Rattle.ht_capture.specs.declared.frames.CaptureFrame.{CaptureFrame}
use Rattle.ht_capture.specs.declared.items.FrameHead.{FrameHead}
use Rattle.ht_capture.specs.declared.items.Item.{Item}
use Rattle.ht_capture.specs.declared.items.Item.TheVariants.{Frame, Job, Done}
use Rattle.ht_capture.specs.declared.places.Present.{Present}
use Rattle.ht_capture.specs.Captures.{capture_of}
use Rattle.ht_capture.specs.Contents.{AreLegs, AreSamples, AreTriangles, AreTyped, IsTyped, items_from, items_of, presents, presents_of, seen}
use Rattle.ht_capture.specs.Fields.{CaptureState, captures}
use Rattle.ht_capture.specs.Files.{AreCaptureFrames, FitsFrame, is_erased, present_among, triangles_behind}
use Rattle.ht_capture.specs.Frames.{grid_at, grid_for}
use Rattle.ht_capture.proofs.Bounds.{jobs_few}
use Rattle.ht_capture.proofs.Filed.{samples_before, samples_behind}
use Rattle.ht_capture.proofs.Routes.{behind_length, behind_typed}
use Rattle.ht_capture_laws.specs.Items.{FrameJobs, IsJobOf, frames_in, items_in}
use Rattle.ht_capture_laws.specs.Written.{IsFileOf}
use Rattle.ht_capture_laws.proofs.Back.{file_back}
use Rattle.ht_capture_laws.proofs.Given.{AreCaptureFrames as AreFramesRead}
use Rattle.ht_capture_laws.proofs.Lists.{all_append, all_map}
use Rattle.ht_capture_laws.proofs.Parts.{frames_of}
use Rattle.ht_files.proofs.PointRoutes.{symbols_most}
use Rattle.ht_cert.specs.declared.record.Record.{Record}
use Rattle.ht_cert.specs.Files.{AreNumbered, ArePoints, AreRecords, IsRecord}
use Rattle.ht_cert.specs.Formats.{certificates}
use Rattle.ht_cert.specs.Records.{full_grid}
use Rattle.ht_cert.proofs.Filed.{file_written}
use Rattle.ht_certify.specs.Checks.{all_yes_text, check_text}
use Rattle.ht_certify.proofs.Accepting.{Holds, accepts}
use Rattle.ht_witness.proofs.Trusting.{checked_near}
use Rattle.ht_certify.specs.declared.subcarriers.Subcarrier.{Subcarrier}
use Rattle.ht_certify.specs.Certifying.{CertifiesTo, certified, record_for, record_of, records_behind, records_of}
use Rattle.ht_certify.specs.Making.{job_on, records_of_frame, records_of_frames, records_of_symbol, records_of_symbols, records_on, subcarrier_of}
use Rattle.ht_certify.specs.Making.{subcarriers_of}
use Rattle.ht_certify.proofs.Counting.{data_among, data_few, length-frame}
use Rattle.ht_certify.proofs.Fewness.{marks_few}
use Rattle.ht_certify.proofs.Holding.{Holds as HoldsOfJob, all_hold}
use Rattle.ht_certify.proofs.Listed.{are_few}
use Rattle.ht_certify.proofs.Numberless.{bare}
use Rattle.ht_certify.proofs.Shown.{of_frames}
use Rattle.ht_cli.specs.Streaming.{IsCapture}
use Rattle.ht_results.proofs.Vectors.{grid_good, grid_length}
use Rattle.ht_demo.proofs.Small.{rows_small}

grid_full : (r : Rate) → grid_of r ≡ full_grid (modulation_of r) (streams_of r)
unfolding grid_of
grid_full r = refl

-- numbers of the machine
samples_typed : (ls : List Leg) (ys : List Sample) → AreSamples ys → AreSamples (samples (rows_of ls ys))
samples_typed [] ys typed = tt
samples_typed (leg ∷ ls) [] typed = (omega (arith, ints), omega (arith, ints), samples_typed ls [] tt)
samples_typed (leg ∷ ls) (y ∷ ys) typed = (typed.0, typed.1, samples_typed ls ys typed.2)

part_fits : (z : ℤ) → unsigned_abs z ≤ 7 → FitsSigned w8 z
part_fits z le = fits_signed_from_abs w8 z (omega (arith, le))

points_typed : (x : List Point) → All IsInRange x → ArePoints x
points_typed [] range = tt
points_typed (p ∷ x) range =
    let here = All-head IsInRange p x range in
    (part_fits p.i here.i, part_fits p.q here.q, points_typed x (All-tail IsInRange p x range))

-- the record of a data job
record_good : (r : Rate) (ls : List Leg) (ys : List Sample) → length ls ≡ streams_of r → AreLegs ls → AreSamples ys
    → IsRecord 0 (record_of 0 (modulation_of r) (job_on (grid_of r) ls ys))
record_good r ls ys long typed numbers =
    let job : JobView = job_on (grid_of r) ls ys in
    let range = streams_of-range r in
    let rows : length (rows_of ls ys) ≡ streams_of r = length-rows_of ls ys ∙ long in
    let is : IsJob job = record { grid = grid_good r; streams = grid_length r ∙ sym rows } in
    let x : List Point = (near job).vector in
    let found : IsNear job x = is_near job (grid_good r) in
    let within : is_in (grid_of r) x ≡ true = search (rules, found.within) in
    let small = small_points (grid_of r) x (grid_good r).ladders within in
    let size = rows_small ls ys x (omega (arith, long, range)) typed numbers small in
    let marks = marks_few (near job).distance job is in
    record {
      number_is = refl;
      place = refl;
      grid = grid_full r ∙ ap (full_grid (modulation_of r)) (sym rows);
      some = omega (arith, rows, range);
      few = omega (arith, rows, range);
      legs_are = subst AreLegs (sym (legs-rows_of ls ys)) typed;
      samples_are = samples_typed ls ys numbers;
      points = long_as_grid (grid_of r) x within ∙ (grid_length r ∙ sym rows);
      points_are = points_typed x small;
      distance = omega (arith, size, long, range);
      marks = omega (arith, marks);
    }

abbrev pub AreGood : List Record → Type 0
AreGood rs = AllByRecursion (IsRecord 0) rs

abbrev IsTypedOn : ℕ → Subcarrier → Type 0
IsTypedOn streams s = (length s.triangle ≡ streams) × AreLegs s.triangle

where_data : (b : Bool) (r : Rate) (ls : List Leg) (ys : List Sample) → length ls ≡ streams_of r → AreLegs ls → AreSamples ys
    → AreGood (if b then record_of 0 (modulation_of r) (job_on (grid_of r) ls ys) ∷ [] else [])
where_data true r ls ys long typed numbers = (record_good r ls ys long typed numbers, tt)
where_data false r ls ys long typed numbers = tt

symbol_good : (r : Rate) (ss : List Subcarrier) (ys : List Sample) → AllByRecursion (IsTypedOn (streams_of r)) ss → AreSamples ys
    → AreGood (records_of_symbol (modulation_of r) (grid_of r) (streams_of r) ss ys)
symbol_good r [] ys typed numbers = tt
symbol_good r (s ∷ ss) ys typed numbers =
    let behind = drop (streams_of r) ys in
    all_append (IsRecord 0) (records_on (modulation_of r) (grid_of r) s ys) (records_of_symbol (modulation_of r) (grid_of r) (streams_of r) ss behind)
    (where_data s.carries_data r s.triangle ys typed.0.0 typed.0.1 numbers)
    (symbol_good r ss behind typed.1 (samples_behind (streams_of r) ys numbers))

symbols_good : (n : ℕ) (r : Rate) (ss : List Subcarrier) (ys : List Sample) → AllByRecursion (IsTypedOn (streams_of r)) ss → AreSamples ys
    → AreGood (records_of_symbols (modulation_of r) (grid_of r) (streams_of r) n ss ys)
symbols_good zero r ss ys typed numbers = tt
symbols_good (suc n) r ss ys typed numbers =
    let w = length ss * streams_of r in
    all_append (IsRecord 0) (records_of_symbol (modulation_of r) (grid_of r) (streams_of r) ss (take w ys))
    (records_of_symbols (modulation_of r) (grid_of r) (streams_of r) n ss (drop w ys))
    (symbol_good r ss (take w ys) typed (samples_before w ys numbers))
    (symbols_good n r ss (drop w ys) typed (samples_behind w ys numbers))

-- the subcarriers of a frame
abbrev IsTypedAt : ℕ → Present → Type 0
IsTypedAt streams p = (length p.triangle ≡ streams) × AreLegs p.triangle

seen_typed : (b : Bool) (n k streams : ℕ) (ts : List (List Leg)) → AreTriangles streams ts → length ts ≡ (if b then n else 1 + n)
    → AllByRecursion (IsTypedAt streams) (seen b k ts)
seen_typed true n k streams ts typed len = tt
seen_typed false n k streams [] typed len = absurd (omega (arith, len))
seen_typed false n k streams (t ∷ ts) typed len = ((typed.0, typed.1), tt)

presents_typed : (n k e streams : ℕ) (ts : List (List Leg)) → AreTriangles streams ts → length ts ≡ present_among n k e
    → AllByRecursion (IsTypedAt streams) (presents n k e ts)
presents_typed zero k e streams ts typed len = tt
presents_typed (suc n) k e streams ts typed len =
    let b : Bool = is_erased e k in
    let m : ℕ = present_among n (k + 1) e in
    all_append (IsTypedAt streams) (seen b k ts) (presents n (k + 1) e (triangles_behind b ts)) (seen_typed b m k streams ts typed len)
    (presents_typed n (k + 1) e streams (triangles_behind b ts) (behind_typed b streams ts typed) (behind_length b m ts len))

frame_good : (f : CaptureFrame) → FitsFrame f → IsTyped f → AreGood (records_of_frame f)
unfolding records_of_frame
frame_good f fits typed =
    symbols_good (symbols_of f.rate f.length) f.rate (subcarriers_of f) f.samples
    (all_map (IsTypedOn (streams_of f.rate)) (subcarrier_of f.rate) (presents_of f)
    (presents_typed (carriers_of f.rate) 0 f.erased (streams_of f.rate) f.triangles typed.triangles fits.triangles))
    typed.samples

frames_good : (fs : List CaptureFrame) → All FitsFrame fs → AreTyped fs → AreGood (records_of_frames fs)
frames_good [] fit typed = tt
frames_good (f ∷ fs) fit typed =
    all_append (IsRecord 0) (records_of_frame f) (records_of_frames fs) (frame_good f (All-head FitsFrame f fs fit) typed.0)
    (frames_good fs (All-tail FitsFrame f fs fit) typed.1)

-- how many there are
frame_count : (f : CaptureFrame) → IsTyped f → length (records_of_frame f) ≤ 1129296
frame_count f typed =
    let n = symbols_of f.rate f.length in
    let len = typed.length_is in
    let least = (symbols_of-holds f.rate f.length).1 in
    let most : data_among (subcarriers_of f) ≤ carriers_of f.rate = omega (arith, data_few (subcarriers_of f), are_few f) in
    let few = jobs_few f.rate f.length n (data_among (subcarriers_of f)) (omega (arith, len)) (symbols_most f.rate f.length (omega (arith, len))) least most in
    omega (arith, few, length-frame f)

frames_count : (fs : List CaptureFrame) → AreTyped fs → length (records_of_frames fs) ≤ length fs * 1129296
frames_count [] typed = omega arith
frames_count (f ∷ fs) typed =
    let both : length (records_of_frames (f ∷ fs)) ≡ length (records_of_frame f) + length (records_of_frames fs) =
    length-append (records_of_frame f) (records_of_frames fs) in
    let times : suc (length fs) * 1129296 ≡ 1129296 + length fs * 1129296 = omega arith in
    omega (arith, both, times, frame_count f typed.0, frames_count fs typed.1)

-- a record with another number, and records that are numbered from a number on
abbrev numbered : ℕ → Record → Record
numbered n r = record {
  modulation = r.modulation;
  job = record { number = n; place = r.job.place; grid = r.job.grid; system = r.job.system };
  certificate = r.certificate;
}

abbrev renumbered : ℕ → List Record → List Record
renumbered n [] = []
renumbered n (r ∷ rs) = numbered n r ∷ renumbered (n + 1) rs

are_numbered : (n : ℕ) (rs : List Record) → AreGood rs → AreNumbered n (renumbered n rs)
are_numbered n [] good = tt
are_numbered n (r ∷ rs) good = (
  record {
    number_is = refl;
    place = good.0.place;
    grid = good.0.grid;
    some = good.0.some;
    few = good.0.few;
    legs_are = good.0.legs_are;
    samples_are = good.0.samples_are;
    points = good.0.points;
    points_are = good.0.points_are;
    distance = good.0.distance;
    marks = good.0.marks;
  },
  are_numbered (n + 1) rs good.1,
)

length-renumbered : (n : ℕ) (rs : List Record) → length (renumbered n rs) ≡ length rs
length-renumbered n [] = refl
length-renumbered n (r ∷ rs) = ap suc (length-renumbered (n + 1) rs)

-- the records of a capture are those with the number 0, numbered from 0 on
renumbered_for : (c : Carrier) (n : ℕ) (m : Modulation) (job : JobView) (xs ys : List Record) → xs ≡ renumbered (n + one_for c) ys
    → record_for c n m job ++ xs ≡ renumbered n (record_for c 0 m job ++ ys)
renumbered_for (Data k) n m job xs ys e = ap (λ (z : List Record). record_of n m job ∷ z) e
renumbered_for (Pilot k) n m job xs ys e = let none : n + 0 ≡ n = omega arith in e ∙ ap (λ i. renumbered i ys) none

behind_renumbered : (r : Rate) (n : ℕ) (items : List Item) → records_behind r n items ≡ renumbered n (bare r items)
behind_renumbered r n [] = refl
behind_renumbered r n (Frame head ∷ items) = behind_renumbered head.rate n items
behind_renumbered r n (Job job ∷ items) =
    renumbered_for (carrier_of r job.place.carrier) n (modulation_of r) job _ (bare r items)
    (behind_renumbered r (n + one_for (carrier_of r job.place.carrier)) items)
behind_renumbered r n (Done ∷ items) = behind_renumbered r n items

of_items : (fs : List CaptureFrame) → records_of (items_of fs) ≡ renumbered 0 (records_of_frames fs)
unfolding items_from
of_items [] = refl
of_items (f ∷ fs) =
    behind_renumbered f.rate 0 (items_from 0 0 (f ∷ fs)) ∙ ap (λ (rs : List Record). renumbered 0 rs) (of_frames f.rate 0 0 (f ∷ fs))

frames_recorded : (fs : List CaptureFrame) → AreCaptureFrames fs → AreTyped fs → AreRecords (records_of (items_of fs))
frames_recorded fs fit typed =
    let many = length-renumbered 0 (records_of_frames fs) in
    let count = frames_count fs typed in
    let most : length fs * 1129296 ≤ 65535 * 1129296 = mul-le-mul_right 1129296 fit.few in
    let are : AreRecords (renumbered 0 (records_of_frames fs)) = record {
      few = omega (arith, many, count, most);
      numbered = are_numbered 0 (records_of_frames fs) (frames_good fs fit.fit typed);
    } in
    subst AreRecords (sym (of_items fs)) are

pub are_records : (octets : List ℕ) (items : List Item) → AreBytes octets → IsFile captures octets items → AreRecords (certified octets)
are_records octets items bytes file =
    let back = file_back octets items bytes file in
    let of : IsFileOf back.0 back.1 octets items = back.2 in
    let same : (capture_of octets).items ≡ items_of back.1 = ap (λ (m : Meaning Item). m.items) (met captures octets items File file) ∙ of.shown in
    subst (λ (is : List Item). AreRecords (records_of is)) (sym same) (frames_recorded back.1 of.fit of.typed)

-- The jobs of any octets.
abbrev pub HasJob : Record → Type 0
HasJob r = IsJob r.job

job_for : (c : Carrier) (head : FrameHead) (n : ℕ) (m : Modulation) (job : JobView) → carrier_of head.rate job.place.carrier ≡ c → IsJobOf head job
    → AllByRecursion HasJob (record_for c n m job)
unfolding grid_at
job_for (Data k) head n m job is of =
    let grid : job.grid ≡ grid_of head.rate = of.grid ∙ ap (grid_for head.rate job.place.symbol) is in
    let long : length job.grid ≡ length job.system = ap (λ (g : List Axes). length g) grid ∙ (grid_length head.rate ∙ sym of.rows) in
    (record { grid = subst IsGrid (sym grid) (grid_good head.rate); streams = long }, tt)
job_for (Pilot k) head n m job is of = tt

jobs_behind : (head : FrameHead) (n : ℕ) (jobs : List JobView) (rest : List Item) → AllByRecursion (IsJobOf head) jobs
    → ((k : ℕ) → AllByRecursion HasJob (records_behind head.rate k rest)) → AllByRecursion HasJob (records_behind head.rate n (map Job jobs ++ rest))
jobs_behind head n [] rest of later = later n
jobs_behind head n (job ∷ jobs) rest of later =
    let c = carrier_of head.rate job.place.carrier in
    all_append HasJob (record_for c n (modulation_of head.rate) job) (records_behind head.rate (n + one_for c) (map Job jobs ++ rest))
    (job_for c head n (modulation_of head.rate) job refl of.0) (jobs_behind head (n + one_for c) jobs rest of.1 later)

abbrev HaveJobs : FrameJobs → Type 0
HaveJobs f = AllByRecursion (IsJobOf f.head) f.jobs

jobs_in_frames : (r : Rate) (n : ℕ) (fs : List FrameJobs) → AllByRecursion HaveJobs fs → AllByRecursion HasJob (records_behind r n (items_in fs))
jobs_in_frames r n [] have = tt
jobs_in_frames r n (f ∷ fs) have = jobs_behind f.head n f.jobs (items_in fs) have.0 (λ k. jobs_in_frames f.head.rate k fs have.1)

jobs_had : (t : CaptureState) (frame number : ℕ) (fs : List FrameJobs) → AreFramesRead t frame number fs → AllByRecursion HaveJobs fs
jobs_had t frame number [] are = tt
jobs_had t frame number (f ∷ fs) (inl whole) = (whole.0.jobs.each, jobs_had t (frame + 1) (number + length f.jobs) fs whole.1)
jobs_had t frame number (f ∷ fs) (inr cut) = (cut.2.jobs.each, subst (AllByRecursion HaveJobs) (sym cut.3) tt)

first_jobs : (fs : List FrameJobs) → AllByRecursion HaveJobs fs → AllByRecursion HasJob (records_of (items_in fs))
first_jobs [] have = tt
first_jobs (f ∷ fs) have = jobs_in_frames f.head.rate 0 (f ∷ fs) have

pub have_jobs : (octets : List ℕ) → AllByRecursion HasJob (certified octets)
have_jobs octets =
    let frames = frames_of octets in
    let fs : List FrameJobs = frames_in (capture_of octets).items in
    subst (λ (is : List Item). AllByRecursion HasJob (records_of is)) (sym frames.all) (first_jobs fs (jobs_had frames.last 0 0 fs frames.are))

-- all certificates hold
pub all_checked : (octets : List ℕ) → AllByRecursion Holds (certified octets)
all_checked octets = both (certified octets) (have_jobs octets) (all_hold (capture_of octets).items)
  where
    both : (rs : List Record) → AllByRecursion HasJob rs → AllByRecursion HoldsOfJob rs → AllByRecursion Holds rs
    both [] jobs holds = tt
    both (r ∷ rs) jobs holds = (holds.0 jobs.0, both rs jobs.1 holds.1)

abbrev pub IsNearest : Record → Type 0
IsNearest r = IsNear r.job r.certificate.vector

pub all_near : (octets : List ℕ) → AllByRecursion IsNearest (certified octets)
all_near octets = each (certified octets) (have_jobs octets) (all_checked octets)
  where
    each : (rs : List Record) → AllByRecursion HasJob rs → AllByRecursion Holds rs → AllByRecursion IsNearest rs
    each [] jobs holds = tt
    each (r ∷ rs) jobs holds = ((checked_near r.job r.certificate jobs.0 holds.0).0, each rs jobs.1 holds.1)

-- what is written is the file of the records, and its text says yes to each
pub is_file : (octets output : List ℕ) → AreBytes octets → IsCapture octets → CertifiesTo octets output → IsFile certificates output (certified octets)
is_file octets output bytes capture to =
    subst (λ (xs : List ℕ). IsFile certificates xs (certified octets)) (sym to)
    (file_written (certified octets) (are_records octets (capture_of octets).items bytes capture))

pub is_accepted : (octets output : List ℕ) → AreBytes octets → IsCapture octets → CertifiesTo octets output
    → check_text output ≡ all_yes_text (length (certified octets))
is_accepted octets output bytes capture to = accepts output (certified octets) (is_file octets output bytes capture to) (all_checked octets)
