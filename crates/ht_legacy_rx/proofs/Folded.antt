-- What the jobs of all frames of a capture give, one after another.
use Rattle.std.proofs.Common.{◌≡◌, ℕ, zero, suc, ◌+◌, ◌*◌, ◌<◌, ◌≤◌, ◌==◌, List, [], ◌∷◌, ◌++◌, length, map, max, min, Bool, true, false}
use Rattle.std.proofs.Common.{if◌then◌else◌, inl, inr, ◌⊎◌, refl, sym, ap, subst, ◌∙◌, arith}
use Rattle.std.specs.List.{AllByRecursion, filter}
use Rattle.std.proofs.lemmas.Bool.{eq-eqb}
use Rattle.std.proofs.lemmas.Bool.Decides.{nat_tests}
use Rattle.std.proofs.lemmas.Grind.{div_ceil_times}
use Rattle.std.proofs.lemmas.List.{append-nil}
use Rattle.std.proofs.Math.Nat.{max-eq_right, min-eq_right}
use Rattle.ht_metric.specs.Jobs.{JobView}
use Rattle.ht_capture.specs.Files.{present_among}
use Rattle.ht_capture_laws.proofs.Lists.{all_weaker}
use Rattle.ht_clause18.specs.Carriers.{carriers}
use Rattle.ht_clause18.specs.Rates.{data_bits_of, needed_bits, symbols_of}
use Rattle.ht_clause18.proofs.RateFacts.{data_bits_of-range}
use Rattle.ht_feed.specs.Items.{headed, headed_of}
use Rattle.ht_results.specs.declared.frame_result.FrameResult.{FrameResult}
use Rattle.ht_results.specs.Plans.{Follows, IsPlaced, begun_by, given_from, under_way, with_kind_by}
use Rattle.ht_results.proofs.Counted.{all_end, all_give, given_from-append, part_gives}
use Rattle.ht_legacy_files.specs.CaptureItems.{LegacyItem, Begins as BeginsFrame, Symbol}
use Rattle.ht_legacy_blocks.specs.declared.head.LegacyFrameHead.{LegacyFrameHead}
use Rattle.ht_legacy_blocks.specs.Frames.{Course, LegacyFrameJobs, at_first, behind_head, behind_symbol, frames_in, given_from as items_from, has_all_jobs}
use Rattle.ht_legacy_blocks.specs.Frames.{head_of, jobs_first, symbol_at, symbols_in}
use Rattle.ht_legacy_blocks.specs.Jobs.{jobs_of}
use Rattle.ht_legacy_rx.specs.Folding.{legacy_fold, legacy_results_from, with_octets}
use Rattle.ht_legacy_rx.specs.Results.{LegacySoFar, legacy_frame_result, legacy_plan}
use Rattle.ht_legacy_rx.specs.Texts.{legacy_items, legacy_meaning, legacy_results_of}
use Rattle.ht_legacy_rx.proofs.Framed.{AreFramed, HasOctets, are_framed}
use Rattle.ht_legacy_rx.proofs.Frames.{Front, IsPlaceIn, frames_append, front, headed_frames, headed_in, headed_jobs_of, none_first}
use Rattle.ht_legacy_rx.proofs.Indices.{indices}

-- a frame of a capture has octets as they are
octets_kept : (n : ℕ) → HasOctets n → max 1 (min 4095 n) ≡ n
octets_kept n has = let low = has.0 in let high = has.1 in ap (λ k. max 1 k) (min-eq_right high) ∙ max-eq_right low

same_head : (head : LegacyFrameHead) → HasOctets head.length → with_octets head ≡ head
same_head head has = ap (λ (n : ℕ). record head { length = n }) (octets_kept head.length has)

first_job : (head : LegacyFrameHead) (job : JobView) (f : LegacySoFar) → HasOctets head.length → f.left ≡ 0
    → legacy_fold.step (headed_of head job) f ≡ with_kind_by legacy_plan job (begun_by legacy_plan head)
first_job head job f has none =
    let over : f.left == 0 ≡ true = grind (arith, nat_tests) in
    ap (λ (b : Bool). with_kind_by legacy_plan job (if b then begun_by legacy_plan (with_octets head) else f)) over
    ∙ ap (λ (h : LegacyFrameHead). with_kind_by legacy_plan job (begun_by legacy_plan h)) (same_head head has)

next_job : (head : LegacyFrameHead) (job : JobView) (f : LegacySoFar) → 1 ≤ f.left → legacy_fold.step (headed_of head job) f ≡ with_kind_by legacy_plan job f
next_job head job f some =
    let other : f.left == 0 ≡ false = grind (arith, nat_tests) in
    ap (λ (b : Bool). with_kind_by legacy_plan job (if b then begun_by legacy_plan (with_octets head) else f)) other

follows : (head : LegacyFrameHead) → HasOctets head.length → Follows legacy_plan legacy_fold headed_of head
follows head has = record {
  begins = λ job f over. first_job head job f has over;
  goes_on = λ job f more. next_job head job f more;
}

-- the number of its jobs
all_present : present_among 52 0 0 ≡ 52
all_present = refl

some_symbols : (n d s : ℕ) → n ≤ s * d → 1 ≤ n → 1 ≤ s
some_symbols n d zero le some = omega (arith, le, some)
some_symbols n d (suc s) le some = omega arith

begun_left : (head : LegacyFrameHead) → (begun_by legacy_plan head).left ≡ symbols_in head * 52
unfolding symbols_of
begun_left head =
    let wide = (data_bits_of-range head.rate).0 in
    let enough = (div_ceil_times (needed_bits head.length) (data_bits_of head.rate) (omega (arith, wide))).0 in
    let some = some_symbols (needed_bits head.length) (data_bits_of head.rate) (symbols_in head) (omega (arith, enough)) (omega arith) in
    let jobs : 1 ≤ symbols_in head * 52 = omega (arith, some) in
    ap (λ (n : ℕ). max 1 (symbols_in head * n)) all_present ∙ max-eq_right jobs

placed : (head : LegacyFrameHead) (jobs : List JobView) → AllByRecursion (IsPlaceIn (symbols_in head)) jobs → AllByRecursion (IsPlaced legacy_plan head) jobs
placed head jobs are =
    all_weaker (IsPlaceIn (symbols_in head)) (IsPlaced legacy_plan head) jobs (λ j at. record { symbol = at.0; carrier = at.1; wide = λ m is. refl }) are

abbrev results : List LegacyFrameJobs → List FrameResult
results frames = map legacy_frame_result (filter has_all_jobs frames)

abbrev Gives : List LegacyFrameJobs → Type 0
Gives frames = (g : LegacySoFar) → g.left ≡ 0 → given_from legacy_fold g (headed_in frames) ≡ results frames

-- a frame that is whole
whole_frame : (f : LegacyFrameJobs) (frames : List LegacyFrameJobs) → HasOctets f.head.length
    → (w : Front 0 (symbols_in f.head) (symbols_in f.head) f.jobs frames) → w.count ≡ symbols_in f.head → Gives frames → Gives (f ∷ frames)
whole_frame f frames has w all rest g over =
    let go = follows f.head has in
    let left = begun_left f.head in
    let long = w.long in
    let size : length f.jobs ≡ symbols_in f.head * 52 = long ∙ ap (λ (n : ℕ). n * 52) all in
    let count : length f.jobs ≡ (begun_by legacy_plan f.head).left = size ∙ sym left in
    let next : LegacySoFar = under_way legacy_fold g (headed_jobs_of f) in
    let kept : has_all_jobs f ≡ true = eq-eqb (length f.jobs) (symbols_in f.head * 52) size in
    let one : given_from legacy_fold g (headed_jobs_of f) ≡ legacy_frame_result f ∷ [] =
    all_give legacy_fold legacy_plan headed_of f.head go f.jobs (0 * carriers) ((0 + w.count) * carriers) g (indices f.head) count
    (placed f.head f.jobs w.placed)
    w.rising over in
    let ends : next.left ≡ 0 = all_end legacy_fold legacy_plan headed_of f.head go f.jobs g over count in
    given_from-append legacy_fold g (headed_jobs_of f) (headed_in frames)
    ∙ (ap (λ (z : List FrameResult). z ++ given_from legacy_fold next (headed_in frames)) one
    ∙ (ap (λ (z : List FrameResult). legacy_frame_result f ∷ z) (rest next ends)
    ∙ sym (ap (λ (b : Bool). map legacy_frame_result (if b then f ∷ filter has_all_jobs frames else filter has_all_jobs frames)) kept)))

-- and one that is cut off
cut_frame : (f : LegacyFrameJobs) (frames : List LegacyFrameJobs) → HasOctets f.head.length
    → (w : Front 0 (symbols_in f.head) (symbols_in f.head) f.jobs frames) → w.count < symbols_in f.head → Gives (f ∷ frames)
cut_frame f frames has w cut g over =
    let go = follows f.head has in
    let left = begun_left f.head in
    let long = w.long in
    let none : frames ≡ [] = w.last cut in
    let few : length f.jobs < (begun_by legacy_plan f.head).left = omega (arith, left, long, cut) in
    let missing : has_all_jobs f ≡ false = let other : length f.jobs < symbols_in f.head * 52 = omega (arith, long, cut) in grind (arith, nat_tests) in
    subst (λ (fs : List LegacyFrameJobs). given_from legacy_fold g (headed_in (f ∷ fs)) ≡ results (f ∷ fs)) (sym none)
    (ap (given_from legacy_fold g) (append-nil (headed_jobs_of f))
    ∙ (part_gives legacy_fold legacy_plan headed_of f.head go f.jobs g over few
    ∙ sym (ap (λ (b : Bool). map legacy_frame_result (if b then f ∷ [] else [])) missing)))

either : (a b : ℕ) → a ≤ b → (a ≡ b) ⊎ (a < b)
either zero zero le = inl refl
either zero (suc b) le = inr (omega arith)
either (suc a) zero le = absurd (omega (arith, le))
either (suc a) (suc b) le = elim (either a b (omega (arith, le))) [ inl same ↦ inl (ap (λ n. suc n) same) | inr less ↦ inr (omega (arith, less)) ]

one_frame : (f : LegacyFrameJobs) (frames : List LegacyFrameJobs) → HasOctets f.head.length
    → Front 0 (symbols_in f.head) (symbols_in f.head) f.jobs frames → Gives frames → Gives (f ∷ frames)
one_frame f frames has w rest =
    elim (either w.count (symbols_in f.head) w.few) [ inl all ↦ whole_frame f frames has w all rest | inr cut ↦ cut_frame f frames has w cut ]

all_frames : (items : List LegacyItem) (due : ℕ) (c : Course) → AreFramed items due → Gives (frames_in (items_from c items))
all_frames [] due c are = λ g over. refl
all_frames (BeginsFrame h ∷ items) zero c are =
    let next = behind_head c h in
    let f : LegacyFrameJobs = record { head = head_of c.frames h; jobs = jobs_first (items_from next items) } in
    one_frame f (frames_in (items_from next items)) are.0 (front items (symbols_in f.head) next (symbols_in f.head) (omega arith) are.1)
    (all_frames items (symbols_in f.head) next are.1)
all_frames (BeginsFrame h ∷ items) (suc due) c are = absurd are
all_frames (Symbol samples ∷ items) zero c are = absurd are
all_frames (Symbol samples ∷ items) (suc due) c are =
    subst Gives (sym (frames_append (jobs_of (symbol_at c samples)) (items_from (behind_symbol c) items))) (all_frames items due (behind_symbol c) are)

-- the jobs of a capture one after another give the results of the frames that are whole
pub folds : (octets : List ℕ) (head : LegacyFrameHead) (g : LegacySoFar) → g.left ≡ 0
    → legacy_results_from g (headed head (legacy_items (legacy_meaning octets).items)) ≡ legacy_results_of octets
unfolding legacy_results_of
folds octets head g over =
    let items = (legacy_meaning octets).items in
    let are = are_framed octets in
    ap (given_from legacy_fold g) (headed_frames (legacy_items items) head)
    ∙ (ap (λ (js : List JobView). given_from legacy_fold g (map (headed_of head) js ++ headed_in (frames_in (legacy_items items))))
    (none_first items at_first are)
    ∙ all_frames items 0 at_first are g over)
