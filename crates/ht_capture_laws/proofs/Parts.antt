-- What the frames of a capture's items are: whole ones, and then at most one that is cut off.
use Rattle.std.proofs.Common.{◌≡◌, ◌⊎◌, inl, inr, ℕ, ◌+◌, ◌*◌, ◌<◌, ◌≤◌, List, [], ◌∷◌, ◌++◌, length, map, not, Bool}
use Rattle.std.proofs.Common.{true, false, if◌then◌else◌, Some, All, refl, sym, ap, subst, ◌∙◌, length-append, arith}
use Rattle.std.proofs.lemmas.Bool.Decides.{nat_tests}
use Rattle.std.proofs.lemmas.List.{length-map, map-append}
use Rattle.std.proofs.lemmas.List.Elements.{All-from_recursion}
use Rattle.std.proofs.Math.Nat.{mul-le-mul_right}
use Rattle.std.specs.List.{filter, range_with_len, AllByRecursion}
use Rattle.ht_io.specs.declared.faults.Kind.{Kind}
use Rattle.ht_io.specs.declared.faults.Kind.TheVariants.{Truncated}
use Rattle.ht_fields.specs.Grammar.{Bad}
use Rattle.ht_fields.specs.Cases.{Case, File, Clean, Longer, Faulty, IsEnd, IsField, Meets, Reaches}
use Rattle.ht_fields.specs.Meanings.{fault_of}
use Rattle.ht_fields.proofs.Answered.{found}
use Rattle.ht_rate.specs.Rates.{carriers_of}
use Rattle.ht_metric.specs.Jobs.{JobView}
use Rattle.ht_capture.specs.Captures.{capture_of}
use Rattle.ht_capture.specs.declared.items.FrameHead.{FrameHead}
use Rattle.ht_capture.specs.declared.items.Item.{Item}
use Rattle.ht_capture.specs.declared.items.Item.TheVariants.{Job}
use Rattle.ht_capture.specs.Fields.{CaptureState, Magic, Version, Count, Bandwidth, Mcs, Length}
use Rattle.ht_capture.specs.Fields.{Flag, Triangle, Symbol, Over, captures, capture_due, judge_symbol}
use Rattle.ht_capture.specs.Files.{is_erased}
use Rattle.ht_capture_laws.specs.Items.{FrameJobs, HasSymbols, IsFrontOfFrame, IsHead, IsPlaceIn, IsWholeFrame, carriers_in, frames_in}
use Rattle.ht_capture_laws.specs.Items.{has_all_jobs, items_in, jobs_first, jobs_in, place_in, places_in, symbol_places, symbols_in}
use Rattle.ht_capture_laws.proofs.Lists.{all_flat, all_kept, all_map, all_of_map, all_range, all_weaker, length-flat, range_append}
use Rattle.ht_capture_laws.proofs.Given.{AreCaptureFrames, Frames, InSymbols, IsFrame}
use Rattle.ht_capture_laws.proofs.Stages.{fields_give}

-- the frames of the items of frames
no_more_jobs : (fs : List FrameJobs) → jobs_first (items_in fs) ≡ []
no_more_jobs [] = refl
no_more_jobs (f ∷ fs) = refl

jobs_back : (jobs : List JobView) (fs : List FrameJobs) → jobs_first (map Job jobs ++ items_in fs) ≡ jobs
jobs_back [] fs = no_more_jobs fs
jobs_back (job ∷ jobs) fs = ap (λ (z : List JobView). job ∷ z) (jobs_back jobs fs)

behind_jobs : (jobs : List JobView) (items : List Item) → frames_in (map Job jobs ++ items) ≡ frames_in items
behind_jobs [] items = refl
behind_jobs (job ∷ jobs) items = behind_jobs jobs items

pub frames_back : (fs : List FrameJobs) → frames_in (items_in fs) ≡ fs
frames_back [] = refl
frames_back (f ∷ fs) =
    ap (λ (z : List JobView). (let g : FrameJobs = record { head = f.head; jobs = z } in g) ∷ frames_in (map Job f.jobs ++ items_in fs)) (jobs_back f.jobs fs)
    ∙ ap (λ (z : List FrameJobs). f ∷ z) (behind_jobs f.jobs (items_in fs) ∙ frames_back fs)

-- the number of jobs of the first symbols
pub jobs_count : (frame number count : ℕ) (f : FrameJobs) → IsFrame frame number count f → length f.jobs ≡ count * length (carriers_in f.head)
jobs_count frame number count f is =
    sym (length-map f.jobs (λ (j : JobView). j.place))
    ∙ (ap length is.jobs.places
    ∙ length-flat (symbol_places f.head) (length (carriers_in f.head)) 0 count (λ i. length-map (carriers_in f.head) (place_in f.head i)))

pub all_there : (frame number : ℕ) (f : FrameJobs) → IsFrame frame number (symbols_in f.head) f → has_all_jobs f ≡ true
all_there frame number f is = let size = jobs_count frame number (symbols_in f.head) f is in grind (arith, nat_tests)

less : (count symbols w : ℕ) → count < symbols → 1 ≤ w → count * w < symbols * w
less count symbols w lt some =
    let next : (count + 1) * w ≤ symbols * w = mul-le-mul_right w (omega (arith, lt)) in
    let split : (count + 1) * w ≡ count * w + w = omega arith in
    omega (arith, next, split, some)

pub some_missing : (frame number count : ℕ) (f : FrameJobs) → count < symbols_in f.head → IsFrame frame number count f → has_all_jobs f ≡ false
some_missing frame number count f lt is =
    let size = jobs_count frame number count f is in
    let few = less count (symbols_in f.head) (length (carriers_in f.head)) lt is.head.present in
    let other : length f.jobs < symbols_in f.head * length (carriers_in f.head) = omega (arith, size, few) in
    grind (arith, nat_tests)

pub symbols_had : (frame number count : ℕ) (f : FrameJobs) → IsFrame frame number count f → HasSymbols f count
symbols_had frame number count f is = record { places = is.jobs.places; jobs = All-from_recursion _ f.jobs is.jobs.each }

-- the whole frames and the one that is cut off
pub record Parted (t : CaptureState) (fs : List FrameJobs) : Type 0 where
  pub order : fs ≡ filter has_all_jobs fs ++ filter (λ f. not (has_all_jobs f)) fs
  pub whole : AllByRecursion IsWholeFrame (filter has_all_jobs fs)
  pub cut : AllByRecursion IsFrontOfFrame (filter (λ f. not (has_all_jobs f)) fs)
  pub one : length (filter (λ f. not (has_all_jobs f)) fs) ≤ 1
  pub ended : (filter (λ f. not (has_all_jobs f)) fs ≡ []) ⊎ InSymbols t

-- the parts of a frame and those behind it, by its test
abbrev PartedBy : CaptureState → FrameJobs → List FrameJobs → Bool → Type 0
PartedBy t f fs b =
    (f ∷ fs ≡ (if b then f ∷ filter has_all_jobs fs else filter has_all_jobs fs)
    ++ (if not b then f ∷ filter (λ g. not (has_all_jobs g)) fs else filter (λ g. not (has_all_jobs g)) fs))
    × AllByRecursion IsWholeFrame (if b then f ∷ filter has_all_jobs fs else filter has_all_jobs fs)
    × AllByRecursion IsFrontOfFrame (if not b then f ∷ filter (λ g. not (has_all_jobs g)) fs else filter (λ g. not (has_all_jobs g)) fs)
    × (length (if not b then f ∷ filter (λ g. not (has_all_jobs g)) fs else filter (λ g. not (has_all_jobs g)) fs) ≤ 1)
    × (((if not b then f ∷ filter (λ g. not (has_all_jobs g)) fs else filter (λ g. not (has_all_jobs g)) fs) ≡ []) ⊎ InSymbols t)

parted_by : (t : CaptureState) (f : FrameJobs) (fs : List FrameJobs) (b : Bool) → has_all_jobs f ≡ b → PartedBy t f fs b → Parted t (f ∷ fs)
parted_by t f fs b is p =
    let q : PartedBy t f fs (has_all_jobs f) = subst (PartedBy t f fs) (sym is) p in
    record { order = q.0; whole = q.1; cut = q.2; one = q.3; ended = q.4 }

pub parted : (t : CaptureState) (frame number : ℕ) (fs : List FrameJobs) → AreCaptureFrames t frame number fs → Parted t fs
parted t frame number [] are = record { order = refl; whole = tt; cut = tt; one = omega arith; ended = inl refl }
parted t frame number (f ∷ fs) (inl whole) =
    let rest = parted t (frame + 1) (number + length f.jobs) fs whole.1 in
    parted_by t f fs true (all_there frame number f whole.0)
    (ap (λ (z : List FrameJobs). f ∷ z) rest.order, (symbols_had frame number (symbols_in f.head) f whole.0, rest.whole), rest.cut, rest.one, rest.ended)
parted t frame number (f ∷ fs) (inr cut) =
    let here : HasSymbols f cut.0 = symbols_had frame number cut.0 f cut.2 in
    let one : PartedBy t f [] false = (refl, tt, ((cut.0, cut.1, here), tt), omega arith, inr cut.4) in
    parted_by t f fs false (some_missing frame number cut.0 f cut.1 cut.2)
    (subst (λ (z : List FrameJobs). PartedBy t f z false) (sym cut.3) one)

-- heads are numbered one after another
pub heads_numbered : (t : CaptureState) (frame number : ℕ) (fs : List FrameJobs) → AreCaptureFrames t frame number fs
    → map (λ (f : FrameJobs). f.head.frame) fs ≡ range_with_len frame (length fs)
heads_numbered t frame number [] are = refl
heads_numbered t frame number (f ∷ fs) (inl whole) =
    ap (λ (n : ℕ). n ∷ map (λ (g : FrameJobs). g.head.frame) fs) whole.0.named
    ∙ ap (λ (z : List ℕ). frame ∷ z) (heads_numbered t (frame + 1) (number + length f.jobs) fs whole.1)
heads_numbered t frame number (f ∷ fs) (inr cut) =
    ap (λ (n : ℕ). n ∷ map (λ (g : FrameJobs). g.head.frame) fs) cut.2.named
    ∙ ap (λ (z : List FrameJobs). frame ∷ map (λ (g : FrameJobs). g.head.frame) z) cut.3
    ∙ ap (λ (z : List FrameJobs). range_with_len frame (length (f ∷ z))) (sym cut.3)

-- and so are jobs
jobs_then : (number : ℕ) (jobs later : List JobView) → map (λ (j : JobView). j.number) jobs ≡ range_with_len number (length jobs)
    → map (λ (j : JobView). j.number) later ≡ range_with_len (number + length jobs) (length later)
    → map (λ (j : JobView). j.number) (jobs ++ later) ≡ range_with_len number (length (jobs ++ later))
jobs_then number jobs later a b =
    map-append (λ (j : JobView). j.number) jobs later
    ∙ (ap (λ (z : List ℕ). z ++ map (λ (j : JobView). j.number) later) a
    ∙ (ap (λ (z : List ℕ). range_with_len number (length jobs) ++ z) b
    ∙ (sym (range_append number (length jobs) (length later)) ∙ ap (range_with_len number) (sym (length-append jobs later)))))

pub jobs_numbered : (t : CaptureState) (frame number : ℕ) (fs : List FrameJobs) → AreCaptureFrames t frame number fs
    → map (λ (j : JobView). j.number) (jobs_in fs) ≡ range_with_len number (length (jobs_in fs))
jobs_numbered t frame number [] are = refl
jobs_numbered t frame number (f ∷ fs) (inl whole) =
    jobs_then number f.jobs (jobs_in fs) whole.0.jobs.numbers (jobs_numbered t (frame + 1) (number + length f.jobs) fs whole.1)
jobs_numbered t frame number (f ∷ fs) (inr cut) =
    jobs_then number f.jobs (jobs_in fs) cut.2.jobs.numbers
    (subst (λ (z : List FrameJobs). map (λ (j : JobView). j.number) (jobs_in z) ≡ range_with_len (number + length f.jobs) (length (jobs_in z)))
    (sym cut.3) refl)

pub heads_good : (t : CaptureState) (frame number : ℕ) (fs : List FrameJobs) → AreCaptureFrames t frame number fs
    → AllByRecursion (λ (f : FrameJobs). IsHead f.head) fs
heads_good t frame number [] are = tt
heads_good t frame number (f ∷ fs) (inl whole) = (whole.0.head, heads_good t (frame + 1) (number + length f.jobs) fs whole.1)
heads_good t frame number (f ∷ fs) (inr cut) = (cut.2.head, subst (AllByRecursion (λ (g : FrameJobs). IsHead g.head)) (sym cut.3) tt)

-- the places of the first symbols are places of the frame
unmarked : (b : Bool) → not b ≡ true → b ≡ false
unmarked true e = absurd cc
unmarked false e = refl

pub places_good : (head : FrameHead) (count : ℕ) → count ≤ symbols_in head → AllByRecursion (IsPlaceIn head) (places_in head count)
places_good head count le =
    all_flat (IsPlaceIn head) (symbol_places head) (range_with_len 0 count)
    (all_range (λ symbol. AllByRecursion (IsPlaceIn head) (symbol_places head symbol)) 0 count
    (λ symbol lt. all_map (IsPlaceIn head) (place_in head symbol) (carriers_in head)
    (all_weaker (λ c. (c < carriers_of head.rate) × (not (is_erased head.erased c) ≡ true)) (λ c. IsPlaceIn head (place_in head symbol c)) (carriers_in head)
    (λ c p. record { frame = refl; symbol = omega (arith, lt, le); carrier = p.0; present = unmarked (is_erased head.erased c) p.1 })
    (all_kept (λ c. c < carriers_of head.rate) (λ c. not (is_erased head.erased c)) (range_with_len 0 (carriers_of head.rate))
    (all_range (λ c. c < carriers_of head.rate) 0 (carriers_of head.rate) (λ c few. omega (arith, few)))))))

jobs_placed : (frame number count : ℕ) (f : FrameJobs) → count ≤ symbols_in f.head
    → IsFrame frame number count f → All (λ (j : JobView). IsPlaceIn f.head j.place) f.jobs
jobs_placed frame number count f le is =
    All-from_recursion _ f.jobs
    (all_of_map (IsPlaceIn f.head) (λ (j : JobView). j.place) f.jobs
    (subst (AllByRecursion (IsPlaceIn f.head)) (sym is.jobs.places) (places_good f.head count le)))

pub all_placed : (t : CaptureState) (frame number : ℕ) (fs : List FrameJobs) → AreCaptureFrames t frame number fs
    → AllByRecursion (λ (f : FrameJobs). All (λ (j : JobView). IsPlaceIn f.head j.place) f.jobs) fs
all_placed t frame number [] are = tt
all_placed t frame number (f ∷ fs) (inl whole) =
    (jobs_placed frame number (symbols_in f.head) f (omega arith) whole.0, all_placed t (frame + 1) (number + length f.jobs) fs whole.1)
all_placed t frame number (f ∷ fs) (inr cut) = (
  jobs_placed frame number cut.0 f (let lt = cut.1 in omega arith) cut.2,
  subst (AllByRecursion (λ (g : FrameJobs). All (λ (j : JobView). IsPlaceIn g.head j.place) g.jobs)) (sym cut.3) tt,
)

-- where the end of a capture is due, or a field is bad, no samples are due
not_at_end : (s : CaptureState) → IsEnd (capture_due s) → InSymbols s → ⊥
not_at_end (Symbol due present) e within = e
not_at_end (Magic x xs) e within = within
not_at_end Version e within = within
not_at_end (Count version) e within = within
not_at_end (Bandwidth turn) e within = within
not_at_end (Mcs turn bandwidth) e within = within
not_at_end (Length turn rate) e within = within
not_at_end (Flag turn head carrier present) e within = within
not_at_end (Triangle turn head carrier present) e within = within
not_at_end Over e within = within

not_at_fault : (s : CaptureState) (x : List ℕ) (kind : Kind) → IsField (capture_due s) x (Bad kind) → InSymbols s → ⊥
unfolding judge_symbol
not_at_fault (Symbol due present) x kind bad within = let never = bad.1 in cc
not_at_fault (Magic x xs) y kind bad within = within
not_at_fault Version y kind bad within = within
not_at_fault (Count version) y kind bad within = within
not_at_fault (Bandwidth turn) y kind bad within = within
not_at_fault (Mcs turn bandwidth) y kind bad within = within
not_at_fault (Length turn rate) y kind bad within = within
not_at_fault (Flag turn head carrier present) y kind bad within = within
not_at_fault (Triangle turn head carrier present) y kind bad within = within
not_at_fault Over y kind bad within = within

-- the frames of octets
pub record FramesOf (octets : List ℕ) : Type 0 where
  pub last : CaptureState
  pub all : (capture_of octets).items ≡ items_in (frames_in (capture_of octets).items)
  pub are : AreCaptureFrames last 0 0 (frames_in (capture_of octets).items)
  pub early : InSymbols last → (capture_of octets).fault ≡ Some (record { kind = Truncated; offset = length octets })

made : (octets : List ℕ) (t : CaptureState) → Frames t 0 0 (capture_of octets).items
    → (InSymbols t → (capture_of octets).fault ≡ Some (record { kind = Truncated; offset = length octets })) → FramesOf octets
made octets t frames early =
    let same : frames_in (capture_of octets).items ≡ frames.0 = ap frames_in frames.1 ∙ frames_back frames.0 in
    record {
      last = t;
      all = frames.1 ∙ ap items_in (sym same);
      are = subst (AreCaptureFrames t 0 0) (sym same) frames.2;
      early = early;
    }

reached : (octets : List ℕ) (items : List Item) (offset : ℕ) (t : CaptureState) (rest : List ℕ) → Reaches captures octets items offset t rest
    → Frames t 0 0 items
reached octets items offset t rest r = fields_give r.fields captures.start t items tt r.good

by_case : (octets : List ℕ) (case : Case) → Meets captures octets (capture_of octets).items case
    → (capture_of octets).fault ≡ fault_of (length octets) case → FramesOf octets
by_case octets File m fault = made octets m.1 (reached octets _ m.0 m.1 [] m.2) (λ within. absurd (not_at_end m.1 m.3 within))
by_case octets Clean m fault = made octets m.1 (reached octets _ m.0 m.1 m.2 m.3) (λ within. fault)
by_case octets (Longer offset) m fault = made octets m.0 (reached octets _ offset m.0 (m.1 ∷ m.2) m.3) (λ within. absurd (not_at_end m.0 m.4 within))
by_case octets (Faulty kind offset) m fault =
    made octets m.0 (reached octets _ offset m.0 (m.1 ++ m.2) m.3) (λ within. absurd (not_at_fault m.0 m.1 kind m.4 within))

pub frames_of : (octets : List ℕ) → FramesOf octets
frames_of octets = let f = found captures octets in by_case octets f.0 f.1 f.2

pub parted_of : (octets : List ℕ) → Parted (frames_of octets).last (frames_in (capture_of octets).items)
parted_of octets = let f = frames_of octets in parted f.last 0 0 (frames_in (capture_of octets).items) f.are
