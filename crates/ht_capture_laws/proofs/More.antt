-- More octets take back no item and no whole frame, and the frames of written frames.
use Rattle.std.proofs.Common.{◌≡◌, inl, inr, ℕ, zero, suc, ◌+◌, ◌*◌, ◌≤◌, List, [], ◌∷◌, ◌++◌, length, take, drop, map, Bool}
use Rattle.std.proofs.Common.{true, false, if◌then◌else◌, All, refl, sym, ap, subst, ◌∙◌, append_assoc, arith}
use Rattle.std.proofs.lemmas.Option.{none-some}
use Rattle.std.proofs.lemmas.List.{append-nil, map-append}
use Rattle.std.proofs.lemmas.List.Elements.{All-from_recursion}
use Rattle.std.proofs.Math.Nat.{mul-le-mul_right}
use Rattle.std.specs.List.{filter}
use Rattle.ht_fields.specs.Cases.{Case, File, Clean, Longer, Faulty, Meets, Reaches, octets_of_fields}
use Rattle.ht_fields.specs.Meanings.{Meaning, meaning}
use Rattle.ht_fields.proofs.Answered.{found, met}
use Rattle.ht_fields.proofs.Steps.{good_fields}
use Rattle.ht_metric.specs.Jobs.{JobView}
use Rattle.ht_metric.specs.declared.sample.Sample.{Sample}
use Rattle.ht_rate.specs.Rates.{streams_of, symbols_of}
use Rattle.ht_capture.specs.Captures.{capture_of}
use Rattle.ht_capture.specs.declared.frames.CaptureFrame.{CaptureFrame}
use Rattle.ht_capture.specs.declared.items.FrameHead.{FrameHead}
use Rattle.ht_capture.specs.declared.items.Item.{Item}
use Rattle.ht_capture.specs.declared.items.Item.TheVariants.{Frame, Job}
use Rattle.ht_capture.specs.declared.places.Present.{Present}
use Rattle.ht_capture.specs.Contents.{AreTyped, IsVersion, frame_jobs, head_of, items_from, items_of, job_of, presents_of, symbol_jobs}
use Rattle.ht_capture.specs.Fields.{CaptureState, captures}
use Rattle.ht_capture.specs.Files.{AreCaptureFrames as CanBeWritten, capture_file_of}
use Rattle.ht_capture.proofs.Filed.{file_written}
use Rattle.ht_capture_laws.specs.Items.{FrameJobs, IsWholeFrame, carriers_in, cut_frames, frames_in}
use Rattle.ht_capture_laws.specs.Items.{has_all_jobs, items_in, items_of_frame, symbols_in, whole_frames}
use Rattle.ht_capture_laws.specs.Written.{items_each, items_for}
use Rattle.ht_capture_laws.proofs.Given.{AreCaptureFrames, IsFrame, made_of}
use Rattle.ht_capture_laws.proofs.Parts.{frames_back, frames_of, jobs_count, all_there, some_missing, parted_of}

-- each list of octets begins with good fields that give its items
abbrev Reached : List ℕ → List Item → Type 0
Reached octets items = (offset : ℕ) × (state : CaptureState) × (rest : List ℕ) × Reaches captures octets items offset state rest

reach : (octets : List ℕ) (items : List Item) (case : Case) → Meets captures octets items case → Reached octets items
reach octets items File m = (m.0, m.1, [], m.2)
reach octets items Clean m = (m.0, m.1, m.2, m.3)
reach octets items (Longer offset) m = (offset, m.0, m.1 ∷ m.2, m.3)
reach octets items (Faulty kind offset) m = (offset, m.0, m.1 ++ m.2, m.3)

pub items_more : (octets more : List ℕ) → (later : List Item) × ((capture_of (octets ++ more)).items ≡ (capture_of octets).items ++ later)
items_more octets more =
    let f = found captures octets in
    let r = reach octets (capture_of octets).items f.0 f.1 in
    let path = r.3 in
    let split : octets ++ more ≡ octets_of_fields path.fields ++ (r.2 ++ more) =
    ap (λ (z : List ℕ). z ++ more) path.split ∙ append_assoc (octets_of_fields path.fields) r.2 more in
    let good = good_fields captures captures.start r.1 0 path.fields (capture_of octets).items (r.2 ++ more) path.good in (
      (meaning captures r.1 (0 + length (octets_of_fields path.fields)) (r.2 ++ more)).items,
      ap (λ (o : List ℕ). (capture_of o).items) split
          ∙ ap (λ (m : Meaning Item). m.items) good,
    )

-- the jobs of a frame that has them all are those of the frame that begins the same items
same_jobs : (xs ys : List JobView) (behind : List Item) (gs : List FrameJobs) → length ys ≤ length xs
    → map Job xs ++ behind ≡ map Job ys ++ items_in gs → (xs ≡ ys) × (behind ≡ items_in gs)
same_jobs [] [] behind gs few e = (refl, e)
same_jobs [] (y ∷ ys) behind gs few e = absurd (omega (arith, few))
same_jobs (x ∷ xs) [] behind [] few e = absurd cc
same_jobs (x ∷ xs) [] behind (g ∷ gs) few e = absurd cc
same_jobs (x ∷ xs) (y ∷ ys) behind gs few e =
    let first : x ≡ y = cc in
    let later : map Job xs ++ behind ≡ map Job ys ++ items_in gs = cc in
    let rest = same_jobs xs ys behind gs (omega (arith, few)) later in
    (ap (λ (z : JobView). z ∷ xs) first ∙ ap (λ (z : List JobView). y ∷ z) rest.0, rest.1)

-- a frame has no more jobs than all
at_most_all : (u : CaptureState) (frame number : ℕ) (g : FrameJobs) (gs : List FrameJobs)
    → AreCaptureFrames u frame number (g ∷ gs) → length g.jobs ≤ symbols_in g.head * length (carriers_in g.head)
at_most_all u frame number g gs (inl whole) = let size = jobs_count frame number (symbols_in g.head) g whole.0 in omega (arith, size)
at_most_all u frame number g gs (inr cut) =
    let size = jobs_count frame number cut.0 g cut.2 in
    let le : cut.0 ≤ symbols_in g.head = let lt = cut.1 in omega arith in
    let most : cut.0 * length (carriers_in g.head) ≤ symbols_in g.head * length (carriers_in g.head) = mul-le-mul_right (length (carriers_in g.head)) le in
    omega (arith, size, most)

-- where a frame is whole, it is the frame that begins the same items
same_frame : (u : CaptureState) (frame number : ℕ) (f g : FrameJobs) (gs : List FrameJobs) (behind : List Item)
    → IsFrame frame number (symbols_in f.head) f → AreCaptureFrames u frame number (g ∷ gs)
    → Frame f.head ∷ (map Job f.jobs ++ behind) ≡ Frame g.head ∷ (map Job g.jobs ++ items_in gs) → (f ≡ g) × (behind ≡ items_in gs)
same_frame u frame number f g gs behind whole others e =
    let head : f.head ≡ g.head = cc in
    let later : map Job f.jobs ++ behind ≡ map Job g.jobs ++ items_in gs = cc in
    let all : length f.jobs ≡ symbols_in g.head * length (carriers_in g.head) =
    jobs_count frame number (symbols_in f.head) f whole ∙ ap (λ (h : FrameHead). symbols_in h * length (carriers_in h)) head in
    let few = at_most_all u frame number g gs others in
    let same = same_jobs f.jobs g.jobs behind gs (omega (arith, all, few)) later in
    (ap (λ (h : FrameHead). made_of h f.jobs) head ∙ ap (λ (j : List JobView). made_of g.head j) same.0, same.1)

no_false : true ≡ false → ⊥
no_false e = cc

frames_behind : (u : CaptureState) (frame number : ℕ) (f : FrameJobs) (gs : List FrameJobs) → has_all_jobs f ≡ true
    → AreCaptureFrames u frame number (f ∷ gs) → AreCaptureFrames u (frame + 1) (number + length f.jobs) gs
frames_behind u frame number f gs all (inl whole) = whole.1
frames_behind u frame number f gs all (inr cut) = absurd (no_false (sym all ∙ some_missing frame number cut.0 f cut.1 cut.2))

kept : (f : FrameJobs) (fs : List FrameJobs) → has_all_jobs f ≡ true → filter has_all_jobs (f ∷ fs) ≡ f ∷ filter has_all_jobs fs
kept f fs all = ap (λ (b : Bool). if b then f ∷ filter has_all_jobs fs else filter has_all_jobs fs) all

dropped : (f : FrameJobs) (fs : List FrameJobs) → has_all_jobs f ≡ false → filter has_all_jobs (f ∷ fs) ≡ filter has_all_jobs fs
dropped f fs missing = ap (λ (b : Bool). if b then f ∷ filter has_all_jobs fs else filter has_all_jobs fs) missing

no_frame : (f : FrameJobs) (rest later : List Item) → [] ≡ (Frame f.head ∷ rest) ++ later → ⊥
no_frame f rest later e = cc

whole_more : (t u : CaptureState) (frame number : ℕ) (fs gs : List FrameJobs) (later : List Item)
    → AreCaptureFrames t frame number fs → AreCaptureFrames u frame number gs → items_in gs ≡ items_in fs ++ later
    → (rest : List FrameJobs) × (filter has_all_jobs gs ≡ filter has_all_jobs fs ++ rest)
whole_more t u frame number [] gs later a b e = (filter has_all_jobs gs, refl)
whole_more t u frame number (f ∷ fs) [] later a b e = absurd (no_frame f (map Job f.jobs ++ items_in fs) later e)
whole_more t u frame number (f ∷ fs) (g ∷ gs) later (inr cut) b e = (
  filter has_all_jobs (g ∷ gs),
  ap (λ (z : List FrameJobs). z ++ filter has_all_jobs (g ∷ gs))
      (sym (dropped f fs (some_missing frame number cut.0 f cut.1 cut.2) ∙ ap (filter has_all_jobs) cut.3)),
)
whole_more t u frame number (f ∷ fs) (g ∷ gs) later (inl whole) b e =
    let all = all_there frame number f whole.0 in
    let same = same_frame u frame number f g gs (items_in fs ++ later) whole.0 b
    (ap (λ (z : List Item). Frame f.head ∷ z) (sym (append_assoc (map Job f.jobs) (items_in fs) later)) ∙ sym e) in
    let behind = frames_behind u frame number f gs all (subst (λ (z : FrameJobs). AreCaptureFrames u frame number (z ∷ gs)) (sym same.0) b) in
    let rest = whole_more t u (frame + 1) (number + length f.jobs) fs gs later whole.1 behind (sym same.1) in (
      rest.0,
      ap (λ (z : FrameJobs). filter has_all_jobs (z ∷ gs)) (sym same.0) ∙ (kept f gs all ∙ (ap (λ (z : List FrameJobs). f ∷ z) rest.1
          ∙ ap (λ (z : List FrameJobs). z ++ rest.0) (sym (kept f fs all)))),
    )

pub frames_more : (octets more : List ℕ)
    → (later : List FrameJobs) × (whole_frames (capture_of (octets ++ more)).items ≡ whole_frames (capture_of octets).items ++ later)
frames_more octets more =
    let a = frames_of octets in
    let b = frames_of (octets ++ more) in
    let items = items_more octets more in
    whole_more a.last b.last 0 0 (frames_in (capture_of octets).items) (frames_in (capture_of (octets ++ more)).items) items.0 a.are b.are
    (sym b.all ∙ (items.1 ∙ ap (λ (z : List Item). z ++ items.0) a.all))

-- the jobs of written frames
symbol_views : (head : FrameHead) (symbol number : ℕ) (present : List Present) (samples : List Sample)
    → (jobs : List JobView) × (symbol_jobs head symbol number present samples ≡ map Job jobs)
symbol_views head symbol number [] samples = ([], refl)
symbol_views head symbol number (p ∷ ps) samples =
    let job : JobView = job_of head symbol number p samples in
    let rest = symbol_views head symbol (number + 1) ps (drop (streams_of head.rate) samples) in
    (job ∷ rest.0, ap (λ (z : List Item). Job job ∷ z) rest.1)

frame_views : (n : ℕ) (head : FrameHead) (symbol number : ℕ) (present : List Present) (samples : List Sample)
    → (jobs : List JobView) × (frame_jobs n head symbol number present samples ≡ map Job jobs)
frame_views zero head symbol number present samples = ([], refl)
frame_views (suc n) head symbol number present samples =
    let wide : ℕ = length present * streams_of head.rate in
    let here = symbol_views head symbol number present (take wide samples) in
    let rest = frame_views n head (symbol + 1) (number + length present) present (drop wide samples) in (
      here.0 ++ rest.0,
      ap (λ (z : List Item). z ++ frame_jobs n head (symbol + 1) (number + length present) present (drop wide samples)) here.1
          ∙ (ap (λ (z : List Item). map Job here.0 ++ z) rest.1 ∙ sym (map-append Job here.0 rest.0)),
    )

listed : (frame number : ℕ) (fs : List CaptureFrame)
    → (gs : List FrameJobs) × (items_from frame number fs ≡ items_in gs) × (map items_of_frame gs ≡ items_each frame number fs)
unfolding items_from
listed frame number [] = ([], refl, refl)
listed frame number (f ∷ fs) =
    let head : FrameHead = head_of frame f in
    let jobs = frame_views (symbols_of f.rate f.length) head 0 number (presents_of f) f.samples in
    let next : ℕ = number + symbols_of f.rate f.length * length (presents_of f) in
    let rest = listed (frame + 1) next fs in
    let is : items_for frame number f ≡ items_of_frame (made_of head jobs.0) = ap (λ (z : List Item). Frame head ∷ z) jobs.1 in (
      made_of head jobs.0 ∷ rest.0,
      ap (λ (z : List Item). z ++ items_from (frame + 1) next fs) is ∙ ap (λ (z : List Item). items_of_frame (made_of head jobs.0) ++ z) rest.1,
      ap (λ (z : List Item). z ∷ map items_of_frame rest.0) (sym is) ∙ ap (λ (z : List (List Item)). items_for frame number f ∷ z) rest.2,
    )

pub frames_each : (frames : List CaptureFrame) → map items_of_frame (frames_in (items_of frames)) ≡ items_each 0 0 frames
frames_each frames =
    let l = listed 0 0 frames in
    ap (map items_of_frame) (ap frames_in l.1 ∙ frames_back l.0) ∙ l.2

pub all_whole : (version : ℕ) (frames : List CaptureFrame) → CanBeWritten frames
    → AreTyped frames → IsVersion version frames → All IsWholeFrame (frames_in (items_of frames))
all_whole version frames fit typed allowed =
    let octets : List ℕ = capture_file_of version frames in
    let m = met captures octets (items_of frames) File (file_written version frames fit typed allowed) in
    let items : (capture_of octets).items ≡ items_of frames = ap (λ (m : Meaning Item). m.items) m in
    let p = parted_of octets in
    let none : cut_frames (capture_of octets).items ≡ [] = elim p.ended [
      | inl none ↦ none
      | inr within ↦ absurd (none-some _ (sym (ap (λ (m : Meaning Item). m.fault) m) ∙ (frames_of octets).early within))
    ] in
    let whole : whole_frames (capture_of octets).items ≡ frames_in (capture_of octets).items =
    sym (p.order ∙ (ap (λ (z : List FrameJobs). whole_frames (capture_of octets).items ++ z) none ∙ append-nil (whole_frames (capture_of octets).items))) in
    subst (λ (z : List Item). All IsWholeFrame (frames_in z)) items
    (subst (λ (z : List FrameJobs). All IsWholeFrame z) whole (All-from_recursion _ _ p.whole))
