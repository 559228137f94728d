-- The jobs of a frame of a capture: how many there are, and where they stand.
use Rattle.std.proofs.Common.{◌≡◌, ℕ, zero, suc, ◌+◌, ◌*◌, ◌<◌, ◌≤◌, List, [], ◌∷◌, ◌++◌, length, map, refl, sym, ap, subst, arith}
use Rattle.std.specs.List.{AllByRecursion, flat_map}
use Rattle.std.proofs.lemmas.List.{length-append, map-append}
use Rattle.ht_metric.specs.declared.place.Place.{Place}
use Rattle.ht_metric.specs.Jobs.{JobView}
use Rattle.ht_clause18.specs.Carriers.{carriers}
use Rattle.ht_capture_laws.proofs.Lists.{all_append}
use Rattle.ht_results.proofs.Places.{Rising, lower, rising_append}
use Rattle.ht_feed.specs.Items.{Begins, Headed, Item, One, headed, headed_of}
use Rattle.ht_legacy_files.specs.CaptureItems.{LegacyItem, Begins as BeginsFrame, Symbol}
use Rattle.ht_legacy_blocks.specs.declared.head.LegacyFrameHead.{LegacyFrameHead}
use Rattle.ht_legacy_blocks.specs.Frames.{Course, LegacyFrameJobs, behind_symbol, frames_in, given_from, jobs_first, symbol_at}
use Rattle.ht_legacy_blocks.specs.Jobs.{SymbolView, job_of, jobs_between, jobs_of}
use Rattle.ht_legacy_blocks.proofs.Splitting.{jobs_length}
use Rattle.ht_legacy_rx.proofs.Framed.{AreFramed}

-- a job on a place of a frame with this number of symbols
abbrev pub IsPlaceIn : ℕ → JobView → Type 0
IsPlaceIn symbols job = (job.place.symbol < symbols) × (job.place.carrier < carriers)

-- the places of jobs
abbrev pub places_of : List JobView → List Place
places_of jobs = map (λ (j : JobView). j.place) jobs

-- those of a symbol
symbol_in : (s : SymbolView) (symbols c n : ℕ) → s.symbol < symbols → c + n ≤ carriers → AllByRecursion (IsPlaceIn symbols) (jobs_between s c n)
unfolding job_of jobs_between
symbol_in s symbols c zero lt le = tt
symbol_in s symbols c (suc n) lt le = ((lt, omega (arith, le)), symbol_in s symbols (c + 1) n lt (omega (arith, le)))

symbol_rising : (s : SymbolView) (c n end : ℕ) → s.symbol * carriers + (c + n) ≤ end
    → Rising carriers (s.symbol * carriers + c) end (places_of (jobs_between s c n))
unfolding job_of jobs_between
symbol_rising s c zero end le = omega (arith, le)
symbol_rising s c (suc n) end le =
    let next : s.symbol * carriers + c + 1 ≤ s.symbol * carriers + (c + 1) = omega arith in (
      omega arith,
      lower carriers (s.symbol * carriers + c + 1) (s.symbol * carriers + (c + 1)) end (places_of (jobs_between s (c + 1) n)) next
          (symbol_rising s (c + 1) n end (omega (arith, le))),
    )

-- The jobs of the first symbols of a frame, from one on, of which this number is due, and the frames behind them: where not
-- all symbols are there, none comes.
pub record Front (first due symbols : ℕ) (jobs : List JobView) (frames : List LegacyFrameJobs) : Type 0 where
  pub count : ℕ
  pub few : count ≤ due
  pub long : length jobs ≡ count * carriers
  pub placed : AllByRecursion (IsPlaceIn symbols) jobs
  pub rising : Rising carriers (first * carriers) ((first + count) * carriers) (places_of jobs)
  pub last : count < due → frames ≡ []

front_none : (first symbols : ℕ) (frames : List LegacyFrameJobs) (due : ℕ) → (0 < due → frames ≡ []) → Front first due symbols [] frames
front_none first symbols frames due last = record {
  count = 0;
  few = omega arith;
  long = refl;
  placed = tt;
  rising = omega arith;
  last = last;
}

front_symbol : (s : SymbolView) (due symbols : ℕ) (jobs : List JobView) (frames : List LegacyFrameJobs) → s.symbol + suc due ≡ symbols
    → Front (s.symbol + 1) due symbols jobs frames → Front s.symbol (suc due) symbols (jobs_of s ++ jobs) frames
front_symbol s due symbols jobs frames is f =
    let fewer = f.few in
    let long = f.long in
    let last = f.last in
    let end : s.symbol + 1 + f.count ≡ s.symbol + (f.count + 1) = omega arith in
    let places : places_of (jobs_of s ++ jobs) ≡ places_of (jobs_of s) ++ places_of jobs = map-append (λ (j : JobView). j.place) (jobs_of s) jobs in
    let start : s.symbol * carriers ≤ s.symbol * carriers + 0 = omega arith in
    let here : s.symbol * carriers + (0 + carriers) ≤ (s.symbol + 1) * carriers = omega arith in
    let all = rising_append carriers (s.symbol * carriers) ((s.symbol + 1) * carriers) ((s.symbol + 1 + f.count) * carriers) (places_of (jobs_of s))
    (places_of jobs)
    (lower carriers (s.symbol * carriers) (s.symbol * carriers + 0) ((s.symbol + 1) * carriers) (places_of (jobs_of s)) start
    (symbol_rising s 0 carriers ((s.symbol + 1) * carriers) here)) f.rising in
    record {
      count = f.count + 1;
      few = omega (arith, fewer);
      long = omega (arith, length-append (jobs_of s) jobs, jobs_length s 0 carriers, long);
      placed = all_append (IsPlaceIn symbols) (jobs_of s) jobs (symbol_in s symbols 0 carriers (omega (arith, is)) (omega arith)) f.placed;
      rising = subst (λ (ps : List Place). Rising carriers (s.symbol * carriers) ((s.symbol + (f.count + 1)) * carriers) ps) (sym places)
          (subst (λ (k : ℕ). Rising carriers (s.symbol * carriers) (k * carriers) (places_of (jobs_of s) ++ places_of jobs)) end all);
      last = λ lt. last (omega (arith, lt));
    }

-- jobs in front of items

pub first_append : (jobs : List JobView) (items : List (Item LegacyFrameHead)) → jobs_first (map One jobs ++ items) ≡ jobs ++ jobs_first items
first_append [] items = refl
first_append (job ∷ jobs) items = ap (λ (js : List JobView). job ∷ js) (first_append jobs items)

pub frames_append : (jobs : List JobView) (items : List (Item LegacyFrameHead)) → frames_in (map One jobs ++ items) ≡ frames_in items
frames_append [] items = refl
frames_append (job ∷ jobs) items = frames_append jobs items

-- the jobs of frames, each with the head of its frame
abbrev pub headed_jobs_of : LegacyFrameJobs → List (Headed LegacyFrameHead)
headed_jobs_of f = map (headed_of f.head) f.jobs

abbrev pub headed_in : List LegacyFrameJobs → List (Headed LegacyFrameHead)
headed_in frames = flat_map headed_jobs_of frames

-- the jobs of items are those of the frame under way, and those of the frames that begin among them
pub headed_frames : (items : List (Item LegacyFrameHead)) (head : LegacyFrameHead)
    → headed head items ≡ map (headed_of head) (jobs_first items) ++ headed_in (frames_in items)
headed_frames [] head = refl
headed_frames (Begins next ∷ items) head = headed_frames items next
headed_frames (One job ∷ items) head = ap (λ (hs : List (Headed LegacyFrameHead)). headed_of head job ∷ hs) (headed_frames items head)

-- the frame that is under way in front of items of a capture
pub front : (items : List LegacyItem) (due : ℕ) (c : Course) (symbols : ℕ) → c.symbol + due ≡ symbols → AreFramed items due
    → Front c.symbol due symbols (jobs_first (given_from c items)) (frames_in (given_from c items))
front [] due c symbols is are = front_none c.symbol symbols [] due (λ _. refl)
front (BeginsFrame h ∷ items) zero c symbols is are =
    front_none c.symbol symbols (frames_in (given_from c (BeginsFrame h ∷ items))) zero (λ lt. absurd (omega (arith, lt)))
front (BeginsFrame h ∷ items) (suc due) c symbols is are = absurd are
front (Symbol samples ∷ items) zero c symbols is are = absurd are
front (Symbol samples ∷ items) (suc due) c symbols is are =
    let s = symbol_at c samples in
    let rest = given_from (behind_symbol c) items in
    subst (λ (jobs : List JobView). Front c.symbol (suc due) symbols jobs (frames_in (map One (jobs_of s) ++ rest))) (sym (first_append (jobs_of s) rest))
    (subst (λ (frames : List LegacyFrameJobs). Front c.symbol (suc due) symbols (jobs_of s ++ jobs_first rest) frames) (sym (frames_append (jobs_of s) rest))
    (front_symbol s due symbols (jobs_first rest) (frames_in rest) is (front items due (behind_symbol c) symbols (omega (arith, is)) are)))

-- where no symbol is due, no job comes in front of the next head
pub none_first : (items : List LegacyItem) (c : Course) → AreFramed items 0 → jobs_first (given_from c items) ≡ []
none_first [] c are = refl
none_first (BeginsFrame h ∷ items) c are = refl
none_first (Symbol samples ∷ items) c are = absurd are
