-- Files of frames that were received exactly: their results, and their text.
use Rattle.std.proofs.Common.{◌≡◌, ℕ, zero, suc, ◌+◌, ◌*◌, ◌<◌, ◌^◌, List, [], ◌∷◌, ◌++◌, length, take, drop, map, not, All, Bool, true, None}
use Rattle.std.proofs.Common.{if◌then◌else◌, refl, sym, ap, ◌∙◌, append_assoc, arith}
use Rattle.std.specs.List.{AllByRecursion, filter}
use Rattle.std.proofs.lemmas.Bool.{eq-eqb}
use Rattle.std.proofs.lemmas.List.{append-nil, length-append, length-map, map-append}
use Rattle.std.proofs.lemmas.List.Elements.{All-cons, All-head, All-nil, All-tail}
use Rattle.std.proofs.lemmas.List.Sums.{sum_by-cons}
use Rattle.ht_scramble.specs.Sequence.{IsSeed}
use Rattle.ht_fields.specs.Cases.{File}
use Rattle.ht_fields.specs.Meanings.{Meaning}
use Rattle.ht_fields.proofs.Answered.{met}
use Rattle.ht_metric.specs.declared.found.Found.{Found}
use Rattle.ht_metric.specs.declared.sample.Sample.{Sample}
use Rattle.ht_metric.specs.Distance.{received}
use Rattle.ht_metric.specs.Jobs.{JobView, near}
use Rattle.ht_capture_laws.proofs.Lists.{all_kept, all_weaker}
use Rattle.ht_text.specs.Lines.{end_text}
use Rattle.ht_feed.specs.Items.{Item, One, frames_of}
use Rattle.ht_runs.specs.Formats.{last_text}
use Rattle.ht_inverse.specs.declared.decoded.Decoded.{Decoded}
use Rattle.ht_inverse.specs.declared.outcome.Outcome.TheVariants.{Octets}
use Rattle.ht_clause18.specs.declared.rates.LegacyRate.{LegacyRate}
use Rattle.ht_clause18.specs.Carriers.{carriers}
use Rattle.ht_clause18.specs.Frames.{LegacyFrameView}
use Rattle.ht_clause18.specs.Points.{points_of, sent_points}
use Rattle.ht_clause18.specs.Rates.{symbols_of}
use Rattle.ht_clause18.proofs.Sent.{length-sent_points}
use Rattle.ht_legacy_files.specs.Files.{AreFrames, IsFrame}
use Rattle.ht_legacy_files.specs.CaptureFiles.{AreCaptures, IsCapture, LegacyCapture, captures_file_of, items_of, symbols_from}
use Rattle.ht_legacy_files.specs.CaptureFormats.{captures}
use Rattle.ht_legacy_files.specs.CaptureItems.{LegacyItem}
use Rattle.ht_legacy_files.proofs.CaptureRoutes.{captures_written}
use Rattle.ht_results.specs.declared.frame_result.FrameResult.{FrameResult}
use Rattle.ht_results.specs.Plans.{distances, kept_by_place, on_data_by}
use Rattle.ht_results.specs.Texts.{result_lines}
use Rattle.ht_legacy_blocks.specs.declared.head.LegacyFrameHead.{LegacyFrameHead}
use Rattle.ht_legacy_blocks.specs.Frames.{Course, LegacyFrameJobs, at_first, behind_head, behind_symbol, frames_in, given_from, has_all_jobs, head_of}
use Rattle.ht_legacy_blocks.specs.Frames.{jobs_first, symbol_at}
use Rattle.ht_legacy_blocks.specs.Jobs.{jobs_of}
use Rattle.ht_legacy_blocks.proofs.Splitting.{jobs_length}
use Rattle.ht_legacy_inverse.specs.Decoding.{legacy_decoded_frame}
use Rattle.ht_legacy_rx.specs.Results.{legacy_frame_result, legacy_plan, result_of}
use Rattle.ht_legacy_rx.specs.Texts.{end_of_legacy, legacy_items, legacy_meaning, legacy_results_of, legacy_text, lines_in, results_in}
use Rattle.ht_legacy_rx.proofs.Frames.{first_append, frames_append}
use Rattle.ht_legacy_return.specs.Exact.{AreExact, HoldOctets, IsExact}
use Rattle.ht_round.specs.Returned.{own_lines, own_results}
use Rattle.ht_legacy_return.specs.Returned.{octets_of, returned_results, returned_text}
use Rattle.ht_legacy_return.proofs.Captured.{length-exact}
use Rattle.ht_legacy_return.proofs.Decoded.{decoded_back}
use Rattle.ht_legacy_return.proofs.Heard.{IsFound, frame_found, frame_heard, frame_some, symbol_views}
use Rattle.ht_legacy_return.proofs.Labels.{are_labels, head_for}
use Rattle.ht_legacy_return.proofs.Small.{exact_fit}

-- sums of distances that are all 0
abbrev IsExactlyNear : JobView → Type 0
IsExactlyNear job = (near job).distance ≡ 0

no_sum : (jobs : List JobView) → AllByRecursion IsExactlyNear jobs → distances jobs ≡ 0
no_sum [] zeros = refl
no_sum (job ∷ jobs) zeros = let here = zeros.0 in let rest = no_sum jobs zeros.1 in sum_by-cons (λ j. (near j).distance) job jobs ∙ omega (arith, here, rest)

none_kept : (p : JobView → Bool) (jobs : List JobView) → AllByRecursion IsExactlyNear jobs → distances (filter p jobs) ≡ 0
none_kept p jobs zeros =
    no_sum (filter p jobs)
    (all_weaker (λ (job : JobView). IsExactlyNear job × (p job ≡ true)) IsExactlyNear (filter p jobs) (λ job both. both.0)
    (all_kept IsExactlyNear p jobs zeros))

-- a frame whose jobs are detected as they were sent
found_back : (number : ℕ) (f : LegacyFrameView) (c : Course) (samples : List Sample) → IsSeed f.seed → All (λ octet. octet < 2 ^ 8) f.octets
    → c.symbol ≡ 0 → AllByRecursion (IsFound f) (symbol_views (symbols_of f.rate (length f.octets)) c samples)
    → legacy_frame_result (record { head = head_for number f; jobs = symbol_views (symbols_of f.rate (length f.octets)) c samples })
    ≡ record { frame = number; data_sum = 0; pilot_sum = 0; code = 0; outcome = Octets f.octets }
unfolding result_of
found_back number f c samples seed bytes start found =
    let head : LegacyFrameHead = head_for number f in
    let jobs : List JobView = symbol_views (symbols_of f.rate (length f.octets)) c samples in
    let labels : List ℕ = kept_by_place legacy_plan head jobs in
    let zeros : AllByRecursion IsExactlyNear jobs =
    all_weaker (IsFound f) IsExactlyNear jobs (λ job is. ap (λ (z : Found). z.distance) is) found in
    let decoded : legacy_decoded_frame f.rate (length f.octets) labels ≡ record { outcome = Octets f.octets; code = 0 } =
    decoded_back f labels seed bytes (are_labels number f c samples start found) in
    let made : ℕ → ℕ → Decoded → FrameResult =
    λ sum pilot d. record { frame = number; data_sum = sum; pilot_sum = pilot; code = d.code; outcome = d.outcome } in
    let there : Decoded = legacy_decoded_frame f.rate (length f.octets) labels in
    ap (λ (n : ℕ). made n (distances (filter (λ job. not (on_data_by legacy_plan head job)) jobs)) there) (none_kept (on_data_by legacy_plan head) jobs zeros)
    ∙ (ap (λ (n : ℕ). made 0 n there) (none_kept (λ job. not (on_data_by legacy_plan head job)) jobs zeros) ∙ ap (made 0 0) decoded)

-- the frame of a capture where this course is
abbrev made_frame : Course → LegacyCapture → LegacyFrameJobs
made_frame c x = record {
  head = head_of c.frames x.head;
  jobs = symbol_views (symbols_of x.head.rate x.head.length) (behind_head c x.head) x.samples;
}

frame_back : (number : ℕ) (c : Course) (f : LegacyFrameView) (x : LegacyCapture) → c.frames ≡ number → IsSeed f.seed → All (λ octet. octet < 2 ^ 8) f.octets
    → IsExact f x
    → legacy_frame_result (made_frame c x) ≡ record { frame = number; data_sum = 0; pilot_sum = 0; code = 0; outcome = Octets f.octets }
frame_back number c f x at seed bytes exact =
    let start : Course = behind_head c x.head in
    let n : ℕ = symbols_of f.rate (length f.octets) in
    let made : ℕ → LegacyRate → ℕ → FrameResult = λ k r octets.
    legacy_frame_result (record { head = record { frame = k; rate = r; length = octets }; jobs = symbol_views (symbols_of r octets) start x.samples }) in
    ap (λ (k : ℕ). made k x.head.rate x.head.length) at
    ∙ (ap (λ (r : LegacyRate). made number r x.head.length) exact.rate
    ∙ (ap (λ (k : ℕ). made number f.rate k) exact.octets
    ∙ found_back number f start x.samples seed bytes refl
    (frame_found n f start x.samples exact.rate (frame_some f x exact) (frame_heard f x exact))))

-- the frames of a capture
abbrev behind_symbols : ℕ → Course → Course
behind_symbols zero c = c
behind_symbols (suc n) c = behind_symbols n (behind_symbol c)

abbrev behind_frame : Course → LegacyCapture → Course
behind_frame c x = behind_symbols (symbols_of x.head.rate x.head.length) (behind_head c x.head)

abbrev made_frames : Course → List LegacyCapture → List LegacyFrameJobs
made_frames c [] = []
made_frames c (x ∷ xs) = made_frame c x ∷ made_frames (behind_frame c x) xs

same_frames : (n : ℕ) (c : Course) → (behind_symbols n c).frames ≡ c.frames
same_frames zero c = refl
same_frames (suc n) c = same_frames n (behind_symbol c)

given_symbols : (n : ℕ) (c : Course) (samples : List Sample) (rest : List LegacyItem)
    → given_from c (symbols_from n samples ++ rest) ≡ map One (symbol_views n c samples) ++ given_from (behind_symbols n c) rest
given_symbols zero c samples rest = refl
given_symbols (suc n) c samples rest =
    let one : List JobView → List (Item LegacyFrameHead) = λ jobs. map One jobs in
    let here : List JobView = jobs_of (symbol_at c (take carriers samples)) in
    let later : List JobView = symbol_views n (behind_symbol c) (drop carriers samples) in
    let behind : List (Item LegacyFrameHead) = given_from (behind_symbols n (behind_symbol c)) rest in
    ap (λ (z : List (Item LegacyFrameHead)). one here ++ z) (given_symbols n (behind_symbol c) (drop carriers samples) rest)
    ∙ (sym (append_assoc (one here) (one later) behind) ∙ ap (λ (z : List (Item LegacyFrameHead)). z ++ behind) (sym (map-append One here later)))

-- the jobs of a frame end where the next one begins
jobs_end : (c : Course) (xs : List LegacyCapture) → jobs_first (given_from c (items_of xs)) ≡ []
jobs_end c [] = refl
jobs_end c (x ∷ xs) = refl

jobs_alone : (jobs : List JobView) (items : List (Item LegacyFrameHead)) → jobs_first items ≡ [] → jobs_first (map One jobs ++ items) ≡ jobs
jobs_alone jobs items none = first_append jobs items ∙ (ap (λ (js : List JobView). jobs ++ js) none ∙ append-nil jobs)

frames_are : (c : Course) (xs : List LegacyCapture) → frames_in (given_from c (items_of xs)) ≡ made_frames c xs
frames_are c [] = refl
frames_are c (x ∷ xs) =
    let n : ℕ = symbols_of x.head.rate x.head.length in
    let start : Course = behind_head c x.head in
    let jobs : List JobView = symbol_views n start x.samples in
    let rest : List (Item LegacyFrameHead) = given_from (behind_frame c x) (items_of xs) in
    let made : List JobView → LegacyFrameJobs = λ js. record { head = head_of c.frames x.head; jobs = js } in
    ap (λ (z : List (Item LegacyFrameHead)). made (jobs_first z) ∷ frames_in z) (given_symbols n start x.samples (items_of xs))
    ∙ (ap (λ (js : List JobView). made js ∷ frames_in (map One jobs ++ rest)) (jobs_alone jobs rest (jobs_end (behind_frame c x) xs))
    ∙ ap (λ (z : List LegacyFrameJobs). made jobs ∷ z) (frames_append jobs rest ∙ frames_are (behind_frame c x) xs))

-- all of them are whole
views_length : (n : ℕ) (c : Course) (samples : List Sample) → length (symbol_views n c samples) ≡ n * carriers
views_length zero c samples = omega arith
views_length (suc n) c samples =
    let s = symbol_at c (take carriers samples) in
    let here = jobs_length s 0 carriers in
    let later = views_length n (behind_symbol c) (drop carriers samples) in
    length-append (jobs_of s) (symbol_views n (behind_symbol c) (drop carriers samples)) ∙ omega (arith, here, later)

has_all : (c : Course) (x : LegacyCapture) → has_all_jobs (made_frame c x) ≡ true
has_all c x =
    let n : ℕ = symbols_of x.head.rate x.head.length in
    eq-eqb (length (symbol_views n (behind_head c x.head) x.samples)) (n * carriers) (views_length n (behind_head c x.head) x.samples)

kept_all : (c : Course) (xs : List LegacyCapture) → filter has_all_jobs (made_frames c xs) ≡ made_frames c xs
kept_all c [] = refl
kept_all c (x ∷ xs) =
    let rest : List LegacyFrameJobs = made_frames (behind_frame c x) xs in
    ap (λ (b : Bool). if b then made_frame c x ∷ filter has_all_jobs rest else filter has_all_jobs rest) (has_all c x)
    ∙ ap (λ (z : List LegacyFrameJobs). made_frame c x ∷ z) (kept_all (behind_frame c x) xs)

-- and come back
abbrev AreOctets : LegacyFrameView → Type 0
AreOctets f = All (λ octet. octet < 2 ^ 8) f.octets

made_back : (number : ℕ) (c : Course) (frames : List LegacyFrameView) (xs : List LegacyCapture) → c.frames ≡ number → All IsFrame frames
    → All AreOctets frames → AreExact frames xs → map legacy_frame_result (made_frames c xs) ≡ own_results octets_of number frames
made_back number c [] [] at good octets exact = refl
made_back number c [] (x ∷ xs) at good octets exact = absurd exact
made_back number c (f ∷ frames) [] at good octets exact = absurd exact
made_back number c (f ∷ frames) (x ∷ xs) at good octets exact =
    let next : Course = behind_frame c x in
    let number_is : next.frames ≡ number + 1 = same_frames (symbols_of x.head.rate x.head.length) (behind_head c x.head) ∙ ap (λ (k : ℕ). k + 1) at in
    ap (λ (z : FrameResult). z ∷ map legacy_frame_result (made_frames next xs))
    (frame_back number c f x at (All-head IsFrame f frames good).seed (All-head AreOctets f frames octets) exact.0)
    ∙ ap (λ (z : List FrameResult). own_results octets_of number (f ∷ []) ++ z)
    (made_back (number + 1) next frames xs number_is (All-tail IsFrame f frames good) (All-tail AreOctets f frames octets) exact.1)

-- such frames can be written
counted : (frames : List LegacyFrameView) (xs : List LegacyCapture) → AreExact frames xs → length xs ≡ length frames
counted [] [] exact = refl
counted [] (x ∷ xs) exact = absurd exact
counted (f ∷ frames) [] exact = absurd exact
counted (f ∷ frames) (x ∷ xs) exact = ap suc (counted frames xs exact.1)

frame_fits : (f : LegacyFrameView) (x : LegacyCapture) → IsFrame f → IsExact f x → IsCapture x
unfolding points_of
frame_fits f x good exact =
    let octets = exact.octets in
    let low = good.octets.0 in
    let high = good.octets.1 in
    record {
      some = omega (arith, octets, low);
      few = omega (arith, octets, high);
      diagonals = exact.count;
      small = exact.small;
      samples = sym (length-map x.samples received)
          ∙ (ap length exact.samples
          ∙ (length-exact x.head.diagonals 0 (sent_points f)
          ∙ (length-sent_points f
          ∙ (ap (λ (r : LegacyRate). symbols_of r (length f.octets) * carriers) (sym exact.rate)
          ∙ ap (λ (k : ℕ). symbols_of x.head.rate k * carriers) (sym exact.octets)))));
      typed = exact_fit f x.head.diagonals x.samples exact.small exact.samples;
    }

all_fit : (frames : List LegacyFrameView) (xs : List LegacyCapture) → All IsFrame frames → AreExact frames xs → All IsCapture xs
all_fit [] [] good exact = All-nil IsCapture
all_fit [] (x ∷ xs) good exact = absurd exact
all_fit (f ∷ frames) [] good exact = absurd exact
all_fit (f ∷ frames) (x ∷ xs) good exact =
    All-cons IsCapture x xs (frame_fits f x (All-head IsFrame f frames good) exact.0) (all_fit frames xs (All-tail IsFrame f frames good) exact.1)

pub exact_written : (frames : List LegacyFrameView) (captured : List LegacyCapture) → AreFrames frames → AreExact frames captured → AreCaptures captured
exact_written frames captured good exact =
    let few = good.few in
    let count = counted frames captured exact in
    record { some = omega arith; few = omega (arith, few, count); fit = all_fit frames captured good.fit exact }

-- what their file means
meant : (captured : List LegacyCapture) → AreCaptures captured → legacy_meaning (captures_file_of captured) ≡ record { items = items_of captured; fault = None }
meant captured fit = met captures (captures_file_of captured) (items_of captured) File (captures_written captured fit)

in_items : (frames : List LegacyFrameView) (captured : List LegacyCapture) → AreFrames frames → HoldOctets frames → AreExact frames captured
    → results_in (items_of captured) ≡ returned_results frames
in_items frames captured good octets exact =
    ap (λ (z : List LegacyFrameJobs). map legacy_frame_result (filter has_all_jobs z)) (frames_are at_first captured)
    ∙ (ap (map legacy_frame_result) (kept_all at_first captured) ∙ made_back 0 at_first frames captured refl good.fit octets exact)

pub results_back : (frames : List LegacyFrameView) (captured : List LegacyCapture) → AreFrames frames → HoldOctets frames → AreExact frames captured
    → legacy_results_of (captures_file_of captured) ≡ returned_results frames
unfolding legacy_results_of
results_back frames captured good octets exact =
    ap (λ (m : Meaning LegacyItem). results_in m.items) (meant captured (exact_written frames captured good exact)) ∙ in_items frames captured good octets exact

-- their text
jobs_count : (jobs : List JobView) (items : List (Item LegacyFrameHead)) → frames_of (map One jobs ++ items) ≡ frames_of items
jobs_count [] items = refl
jobs_count (job ∷ jobs) items = jobs_count jobs items

frames_count : (c : Course) (xs : List LegacyCapture) → frames_of (given_from c (items_of xs)) ≡ length xs
frames_count c [] = refl
frames_count c (x ∷ xs) =
    let n : ℕ = symbols_of x.head.rate x.head.length in
    let start : Course = behind_head c x.head in
    let rest : List (Item LegacyFrameHead) = given_from (behind_frame c x) (items_of xs) in
    let same : frames_of (given_from start (symbols_from n x.samples ++ items_of xs)) ≡ length xs =
    ap (λ (z : List (Item LegacyFrameHead)). frames_of z) (given_symbols n start x.samples (items_of xs))
    ∙ (jobs_count (symbol_views n start x.samples) rest ∙ frames_count (behind_frame c x) xs) in
    omega (arith, same)

pub text_back : (frames : List LegacyFrameView) (captured : List LegacyCapture) → AreFrames frames → HoldOctets frames → AreExact frames captured
    → legacy_text (captures_file_of captured) ≡ returned_text frames
unfolding legacy_text
text_back frames captured good octets exact =
    let lines : lines_in (items_of captured) ≡ own_lines octets_of 0 frames =
    ap result_lines (in_items frames captured good octets exact) in
    let count : frames_of (legacy_items (items_of captured)) ≡ length frames = frames_count at_first captured ∙ counted frames captured exact in
    ap (λ (m : Meaning LegacyItem). lines_in m.items ++ last_text m.fault (end_of_legacy m.items)) (meant captured (exact_written frames captured good exact))
    ∙ (ap (λ (z : List ℕ). z ++ end_of_legacy (items_of captured)) lines ∙ ap (λ (n : ℕ). own_lines octets_of 0 frames ++ end_text n) count)
