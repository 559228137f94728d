-- What stands in front of an item.
use Rattle.std.proofs.Common.{◌≡◌, ◌⊎◌, inl, inr, ℕ, suc, ◌+◌, ◌-◌, ◌≤◌, List, [], ◌∷◌, ◌++◌, length, map}
use Rattle.std.proofs.Common.{flat_map, refl, sym, ap, subst, ◌∙◌, append_assoc, length-append, arith}
use Rattle.std.proofs.lemmas.List.{append-nil}
use Rattle.std.proofs.lemmas.List.Elements.{All-from_recursion}
use Rattle.std.proofs.lemmas.Grind.{flat_map-append}
use Rattle.std.specs.List.{range_with_len, AllByRecursion}
use Rattle.ht_metric.specs.declared.place.Place.{Place}
use Rattle.ht_metric.specs.Jobs.{JobView}
use Rattle.ht_capture.specs.Captures.{capture_of}
use Rattle.ht_capture.specs.declared.items.FrameHead.{FrameHead}
use Rattle.ht_capture.specs.declared.items.Item.{Item}
use Rattle.ht_capture.specs.declared.items.Item.TheVariants.{Frame, Job}
use Rattle.ht_capture.specs.Fields.{CaptureState}
use Rattle.ht_capture_laws.specs.Items.{FrameJobs, IsJobOf, IsNextHead, IsNextJob, IsWholeFrame, frames_in}
use Rattle.ht_capture_laws.specs.Items.{items_in, items_of_frame, jobs_in, places_in, symbol_places, symbols_in}
use Rattle.ht_capture_laws.proofs.Lists.{range_append}
use Rattle.ht_capture_laws.proofs.Given.{AreCaptureFrames, IsFrame, made_of}
use Rattle.ht_capture_laws.proofs.Parts.{frames_back, frames_of, symbols_had}

-- a frame among frames
record AtFrame (fs : List FrameJobs) : Type 0 where
  gs : List FrameJobs
  g : FrameJobs
  hs : List FrameJobs
  is : fs ≡ gs ++ g ∷ hs

-- the frame that a head begins
record AtHead (fs : List FrameJobs) (front : List Item) (head : FrameHead) : Type 0 where
  frame : AtFrame fs
  front_is : front ≡ items_in frame.gs
  head_is : frame.g.head ≡ head

-- the frame of a job, with the jobs in front of it
record AtJob (fs : List FrameJobs) (front : List Item) (job : JobView) : Type 0 where
  frame : AtFrame fs
  js : List JobView
  ks : List JobView
  jobs_are : frame.g.jobs ≡ js ++ job ∷ ks
  front_is : front ≡ items_in frame.gs ++ (Frame frame.g.head ∷ map Job js)

nothing : (front back : List Item) (item : Item) → [] ≡ front ++ item ∷ back → ⊥
nothing [] back item e = cc
nothing (i ∷ front) back item e = cc

-- an item more in front
one_more : (i item : Item) (front xs : List Item) → item ≡ i → front ≡ xs → i ∷ front ≡ item ∷ xs
one_more i item front xs first is = ap (λ (z : Item). z ∷ front) (sym first) ∙ ap (λ (z : List Item). item ∷ z) is

-- more items behind a part
front_as : (front part later rest : List Item) → front ≡ part ++ later → later ≡ rest → front ≡ part ++ rest
front_as front part later rest a b = a ∙ ap (λ (z : List Item). part ++ z) b

-- a head stands behind jobs
behind_jobs : (jobs : List JobView) (rest front back : List Item) (head : FrameHead) → map Job jobs ++ rest ≡ front ++ Frame head ∷ back
    → (later : List Item) × (front ≡ map Job jobs ++ later) × (rest ≡ later ++ Frame head ∷ back)
behind_jobs [] rest front back head e = (front, refl, e)
behind_jobs (job ∷ jobs) rest [] back head e = absurd cc
behind_jobs (job ∷ jobs) rest (i ∷ front) back head e =
    let first : Job job ≡ i = cc in
    let others : map Job jobs ++ rest ≡ front ++ Frame head ∷ back = cc in
    let r = behind_jobs jobs rest front back head others in
    (r.0, one_more i (Job job) front (map Job jobs ++ r.0) first r.1, r.2)

-- items behind a frame's
behind_frame : (i : Item) (f : FrameJobs) (front later : List Item) (gs : List FrameJobs) (rest : List Item)
    → Frame f.head ≡ i → front ≡ map Job f.jobs ++ later → later ≡ items_in gs ++ rest → i ∷ front ≡ items_in (f ∷ gs) ++ rest
behind_frame i f front later gs rest first a b =
    one_more i (Frame f.head) front ((map Job f.jobs ++ items_in gs) ++ rest) first
    (front_as front (map Job f.jobs) later (items_in gs ++ rest) a b ∙ sym (append_assoc (map Job f.jobs) (items_in gs) rest))

-- a frame more in front
abbrev frame_behind : (f : FrameJobs) (fs : List FrameJobs) → AtFrame fs → AtFrame (f ∷ fs)
frame_behind f fs a = record { gs = f ∷ a.gs; g = a.g; hs = a.hs; is = ap (λ (z : List FrameJobs). f ∷ z) a.is }

head_behind : (f : FrameJobs) (fs : List FrameJobs) (i : Item) (front later : List Item) (head : FrameHead)
    → Frame f.head ≡ i → front ≡ map Job f.jobs ++ later → AtHead fs later head → AtHead (f ∷ fs) (i ∷ front) head
head_behind f fs i front later head first passed a = record {
  frame = frame_behind f fs a.frame;
  front_is = one_more i (Frame f.head) front (map Job f.jobs ++ items_in a.frame.gs) first
      (front_as front (map Job f.jobs) later (items_in a.frame.gs) passed a.front_is);
  head_is = a.head_is;
}

job_behind : (f : FrameJobs) (fs : List FrameJobs) (i : Item) (front later : List Item) (job : JobView)
    → Frame f.head ≡ i → front ≡ map Job f.jobs ++ later → AtJob fs later job → AtJob (f ∷ fs) (i ∷ front) job
job_behind f fs i front later job first passed a = record {
  frame = frame_behind f fs a.frame;
  js = a.js;
  ks = a.ks;
  jobs_are = a.jobs_are;
  front_is = behind_frame i f front later a.frame.gs (Frame a.frame.g.head ∷ map Job a.js) first passed a.front_is;
}

at_head : (fs : List FrameJobs) (front back : List Item) (head : FrameHead) → items_in fs ≡ front ++ Frame head ∷ back → AtHead fs front head
at_head [] front back head e = absurd (nothing front back (Frame head) e)
at_head (f ∷ fs) [] back head e = record { frame = record { gs = []; g = f; hs = fs; is = refl }; front_is = refl; head_is = cc }
at_head (f ∷ fs) (i ∷ front) back head e =
    let first : Frame f.head ≡ i = cc in
    let others : map Job f.jobs ++ items_in fs ≡ front ++ Frame head ∷ back = cc in
    let r = behind_jobs f.jobs (items_in fs) front back head others in
    head_behind f fs i front r.0 head first r.1 (at_head fs r.0 back head r.2)

-- a job stands among jobs, or behind them
among_jobs : (jobs : List JobView) (rest front back : List Item) (job : JobView) → map Job jobs ++ rest ≡ front ++ Job job ∷ back
    → ((js : List JobView) × (ks : List JobView) × (jobs ≡ js ++ job ∷ ks) × (front ≡ map Job js))
    ⊎ ((later : List Item) × (front ≡ map Job jobs ++ later) × (rest ≡ later ++ Job job ∷ back))
among_jobs [] rest front back job e = inr (front, refl, e)
among_jobs (j ∷ jobs) rest [] back job e =
    let first : j ≡ job = cc in inl ([], jobs, ap (λ (z : JobView). z ∷ jobs) first, refl)
among_jobs (j ∷ jobs) rest (i ∷ front) back job e =
    let first : Job j ≡ i = cc in
    let others : map Job jobs ++ rest ≡ front ++ Job job ∷ back = cc in
    elim (among_jobs jobs rest front back job others) [
      | inl a ↦ inl (j ∷ a.0, a.1, ap (λ (z : List JobView). j ∷ z) a.2, one_more i (Job j) front (map Job a.0) first a.3)
      | inr a ↦ inr (a.0, one_more i (Job j) front (map Job jobs ++ a.0) first a.1, a.2)
    ]

at_job : (fs : List FrameJobs) (front back : List Item) (job : JobView) → items_in fs ≡ front ++ Job job ∷ back → AtJob fs front job
at_job [] front back job e = absurd (nothing front back (Job job) e)
at_job (f ∷ fs) [] back job e = absurd cc
at_job (f ∷ fs) (i ∷ front) back job e =
    let first : Frame f.head ≡ i = cc in
    let others : map Job f.jobs ++ items_in fs ≡ front ++ Job job ∷ back = cc in
    elim (among_jobs f.jobs (items_in fs) front back job others) [
      | inl a ↦ record {
        frame = record { gs = []; g = f; hs = fs; is = refl };
        js = a.0;
        ks = a.1;
        jobs_are = a.2;
        front_is = one_more i (Frame f.head) front (map Job a.0) first a.3;
      }
      | inr a ↦ job_behind f fs i front a.0 job first a.1 (at_job fs a.0 back job a.2)
    ]

-- a frame among frames, and those in front of it
record Before (frame number : ℕ) (gs : List FrameJobs) (g : FrameJobs) : Type 0 where
  whole : AllByRecursion IsWholeFrame gs
  count : ℕ
  few : count ≤ symbols_in g.head
  is : IsFrame (frame + length gs) (number + length (jobs_in gs)) count g

no_more : (gs hs : List FrameJobs) (g : FrameJobs) → gs ++ g ∷ hs ≡ [] → ⊥
no_more [] hs g e = cc
no_more (x ∷ gs) hs g e = cc

before : (t : CaptureState) (frame number : ℕ) (gs hs : List FrameJobs) (g : FrameJobs) → AreCaptureFrames t frame number (gs ++ g ∷ hs)
    → Before frame number gs g
before t frame number [] hs g (inl here) =
    let a : frame ≡ frame + 0 = omega arith in
    let b : number ≡ number + 0 = omega arith in
    record {
      whole = tt;
      count = symbols_in g.head;
      few = omega arith;
      is =
          subst (λ n. IsFrame n (number + 0) (symbols_in g.head) g) a (subst (λ n. IsFrame frame n (symbols_in g.head) g) b here.0);
    }
before t frame number [] hs g (inr cut) =
    let a : frame ≡ frame + 0 = omega arith in
    let b : number ≡ number + 0 = omega arith in
    record {
      whole = tt;
      count = cut.0;
      few = let lt = cut.1 in
          omega arith;
      is = subst (λ n. IsFrame n (number + 0) cut.0 g) a (subst (λ n. IsFrame frame n cut.0 g) b cut.2);
    }
before t frame number (x ∷ gs) hs g (inl here) =
    let r = before t (frame + 1) (number + length x.jobs) gs hs g here.1 in
    let a : frame + 1 + length gs ≡ frame + suc (length gs) = omega arith in
    let b : number + length x.jobs + length (jobs_in gs) ≡ number + length (x.jobs ++ jobs_in gs) = omega (arith, length-append x.jobs (jobs_in gs)) in
    record {
      whole = (symbols_had frame number (symbols_in x.head) x here.0, r.whole);
      count = r.count;
      few = r.few;
      is = subst (λ n. IsFrame n (number + length (x.jobs ++ jobs_in gs)) r.count g) a (subst (λ n. IsFrame (frame + 1 + length gs) n r.count g) b r.is);
    }
before t frame number (x ∷ gs) hs g (inr cut) = absurd (no_more gs hs g cut.3)

-- the number of a job among numbered jobs
at_number : (js ks : List JobView) (job : JobView) (a : ℕ)
    → map (λ (j : JobView). j.number) (js ++ job ∷ ks) ≡ range_with_len a (length (js ++ job ∷ ks)) → job.number ≡ a + length js
at_number [] ks job a e = let first : job.number ≡ a = cc in omega (arith, first)
at_number (j ∷ js) ks job a e =
    let others : map (λ (j : JobView). j.number) (js ++ job ∷ ks) ≡ range_with_len (a + 1) (length (js ++ job ∷ ks)) = cc in
    omega (arith, at_number js ks job (a + 1) others)

at_all : (P : JobView → Type 0) (js ks : List JobView) (job : JobView) → AllByRecursion P (js ++ job ∷ ks) → P job
at_all P [] ks job all = all.0
at_all P (j ∷ js) ks job all = at_all P js ks job all.1

-- the places of some symbols, and those of the symbols behind them
places_more : (head : FrameHead) (count symbols : ℕ) → count ≤ symbols → (later : List Place) × (places_in head symbols ≡ places_in head count ++ later)
places_more head count symbols le =
    let sum : symbols ≡ count + (symbols - count) = omega arith in (
      flat_map (symbol_places head) (range_with_len (0 + count) (symbols - count)),
      ap (places_in head) sum ∙ (ap (flat_map (symbol_places head)) (range_append 0 count (symbols - count))
          ∙ flat_map-append (symbol_places head) (range_with_len 0 count) (range_with_len (0 + count) (symbols - count))),
    )

place_at : (js ks : List JobView) (job : JobView) (later : List Place)
    → map (λ (j : JobView). j.place) (js ++ job ∷ ks) ++ later ≡ map (λ (j : JobView). j.place) js ++ job.place ∷ (map (λ (j : JobView). j.place) ks ++ later)
place_at [] ks job later = refl
place_at (j ∷ js) ks job later = ap (λ (z : List Place). j.place ∷ z) (place_at js ks job later)

-- the frames in front
in_front : (gs : List FrameJobs) (head : FrameHead) (js : List JobView) → frames_in (items_in gs ++ (Frame head ∷ map Job js)) ≡ gs ++ made_of head js ∷ []
in_front gs head js =
    let last : items_in (made_of head js ∷ []) ≡ Frame head ∷ map Job js = append-nil (Frame head ∷ map Job js) in
    ap frames_in (ap (λ (z : List Item). items_in gs ++ z) (sym last) ∙ sym (flat_map-append items_of_frame gs (made_of head js ∷ [])))
    ∙ frames_back (gs ++ made_of head js ∷ [])

pub next_head : (octets : List ℕ) (front back : List Item) (head : FrameHead)
    → (capture_of octets).items ≡ front ++ Frame head ∷ back → IsNextHead (frames_in front) head
next_head octets front back head e =
    let f = frames_of octets in
    let fs = frames_in (capture_of octets).items in
    let at = at_head fs front back head (sym f.all ∙ e) in
    let a = at.frame in
    let b = before f.last 0 0 a.gs a.hs a.g (subst (AreCaptureFrames f.last 0 0) a.is f.are) in
    let seen : a.gs ≡ frames_in front = sym (ap frames_in at.front_is ∙ frames_back a.gs) in
    let next : IsNextHead a.gs a.g.head =
    record { number = let named = b.is.named in omega (arith, named); whole = All-from_recursion _ a.gs b.whole; good = b.is.head } in
    subst (λ (h : FrameHead). IsNextHead (frames_in front) h) at.head_is (subst (λ (z : List FrameJobs). IsNextHead z a.g.head) seen next)

place_next : (js ks : List JobView) (job : JobView) (all some more : List Place) → all ≡ some ++ more → map (λ (j : JobView). j.place) (js ++ job ∷ ks) ≡ some
    → all ≡ map (λ (j : JobView). j.place) js ++ job.place ∷ (map (λ (j : JobView). j.place) ks ++ more)
place_next js ks job all some more a b = a ∙ (ap (λ (z : List Place). z ++ more) (sym b) ∙ place_at js ks job more)

abbrev gs_and : List FrameJobs → FrameHead → List JobView → List FrameJobs
gs_and gs head js = gs ++ made_of head js ∷ []

-- the jobs of frames and of the front of one more
jobs_so_far : (gs : List FrameJobs) (head : FrameHead) (js : List JobView) → length (jobs_in (gs_and gs head js)) ≡ length (jobs_in gs) + length js
jobs_so_far gs head js =
    ap length (flat_map-append (λ (g : FrameJobs). g.jobs) gs (made_of head js ∷ []))
    ∙ (length-append (jobs_in gs) (js ++ []) ∙ ap (λ (z : List JobView). length (jobs_in gs) + length z) (append-nil js))

-- a job of a frame
is_next_job : (gs : List FrameJobs) (g : FrameJobs) (js ks : List JobView) (job : JobView)
    → Before 0 0 gs g → g.jobs ≡ js ++ job ∷ ks → IsNextJob (gs_and gs g.head js) job
is_next_job gs g js ks job b is =
    let numbers = subst (λ (z : List JobView). map (λ (j : JobView). j.number) z ≡ range_with_len (0 + length (jobs_in gs)) (length z)) is b.is.jobs.numbers in
    let places = subst (λ (z : List JobView). map (λ (j : JobView). j.place) z ≡ places_in g.head b.count) is b.is.jobs.places in
    let more = places_more g.head b.count (symbols_in g.head) b.few in
    let at = at_number js ks job (0 + length (jobs_in gs)) numbers in
    let size = jobs_so_far gs g.head js in
    record {
      whole = gs;
      frame = made_of g.head js;
      last = refl;
      are_whole = All-from_recursion _ gs b.whole;
      number = omega (arith, at, size);
      behind = map (λ (j : JobView). j.place) ks ++ more.0;
      place = place_next js ks job (places_in g.head (symbols_in g.head)) (places_in g.head b.count) more.0 more.1 places;
      of_frame = at_all (IsJobOf g.head) js ks job (subst (AllByRecursion (IsJobOf g.head)) is b.is.jobs.each);
    }

pub next_job : (octets : List ℕ) (front back : List Item) (job : JobView)
    → (capture_of octets).items ≡ front ++ Job job ∷ back → IsNextJob (frames_in front) job
next_job octets front back job e =
    let f = frames_of octets in
    let at = at_job (frames_in (capture_of octets).items) front back job (sym f.all ∙ e) in
    let a = at.frame in
    let b = before f.last 0 0 a.gs a.hs a.g (subst (AreCaptureFrames f.last 0 0) a.is f.are) in
    subst (λ (z : List FrameJobs). IsNextJob z job) (sym (ap frames_in at.front_is ∙ in_front a.gs a.g.head at.js))
    (is_next_job a.gs a.g at.js at.ks job b at.jobs_are)
