-- The lines of the frames of a clause 18 capture have room.
use Rattle.std.proofs.Common.{◌≡◌, inr, inl, ℕ, zero, suc, ◌+◌, ◌*◌, ◌^◌, ◌<◌, ◌≤◌, w32, FitsSigned, List, [], ◌∷◌, ◌++◌, length, map, flat_map, nat_eq}
use Rattle.std.proofs.Common.{Bool, true, false, not, All, Option, Some, None, if◌then◌else◌, pos, replicate, slice_index_or, refl, sym, ap, subst, ◌∙◌, arith}
use Rattle.std.proofs.Common.{rules, length-append}
use Rattle.std.specs.List.{AllByRecursion, filter, range_with_len}
use Rattle.std.specs.Ordering.{int_eq}
use Rattle.std.proofs.Math.Nat.{mul-le-mul}
use Rattle.std.proofs.lemmas.Bool.Decides.{nat_tests}
use Rattle.std.proofs.lemmas.Grind.{div_ceil_times}
use Rattle.std.proofs.lemmas.Int.{ints}
use Rattle.std.proofs.lemmas.List.Elements.{All-cons, All-nil}
use Rattle.ht_rate.specs.declared.kinds.Carrier.{Carrier}
use Rattle.ht_rate.specs.declared.kinds.Carrier.TheVariants.{Data, Pilot}
use Rattle.ht_pam.specs.declared.axes.Axes.{Axes}
use Rattle.ht_pam.specs.declared.point.Point.{Point}
use Rattle.ht_pam.specs.Grids.{AreLadders, IsGrid}
use Rattle.ht_metric.specs.declared.sample.Sample.{Sample}
use Rattle.ht_metric.specs.Distance.{distance_of}
use Rattle.ht_metric.specs.Jobs.{IsNear, JobView, near}
use Rattle.ht_metric.specs.Rows.{Leg, no_sample, rows_of}
use Rattle.ht_metric.specs.Vectors.{is_in}
use Rattle.ht_metric.proofs.Allowed.{small_points}
use Rattle.ht_metric.proofs.Finding.{is_near}
use Rattle.ht_capture.specs.Contents.{AreSamples}
use Rattle.ht_capture.specs.Frames.{one_point}
use Rattle.ht_capture_laws.proofs.Lists.{all_map, all_range}
use Rattle.ht_inverse.specs.declared.outcome.Outcome.TheVariants.{Octets}
use Rattle.ht_clause18.specs.declared.rates.LegacyRate.{LegacyRate}
use Rattle.ht_clause18.specs.Carriers.{carrier_of}
use Rattle.ht_clause18.specs.Pilots.{pilot_of}
use Rattle.ht_clause18.specs.Rates.{data_bits_of, modulation_of, needed_bits, pattern_of, symbols_of}
use Rattle.ht_clause18.proofs.RateFacts.{data_bits_of-range}
use Rattle.ht_conv.specs.Puncturing.{sent_count}
use Rattle.std.proofs.lemmas.List.FromFn.{length-map-range_with_len}
use Rattle.ht_viterbi.proofs.Turns.{distance-low}
use Rattle.ht_feed.specs.Items.{Item, Begins, One, frames_of}
use Rattle.ht_legacy_inverse.specs.Decoding.{input_of, legacy_decoded_frame}
use Rattle.ht_legacy_inverse.specs.Received.{received_at, received_of}
use Rattle.ht_legacy_files.specs.CaptureItems.{LegacyItem, Begins as BeginsFrame, Symbol}
use Rattle.ht_legacy_blocks.specs.declared.head.LegacyFrameHead.{LegacyFrameHead}
use Rattle.ht_legacy_blocks.specs.Frames.{Course, LegacyFrameJobs, at_first, behind_head, behind_symbol, frames_in, given_from, has_all_jobs, head_of}
use Rattle.ht_legacy_blocks.specs.Frames.{jobs_first, symbol_at, symbols_in, whole_frames}
use Rattle.ht_legacy_blocks.specs.Jobs.{SymbolView, axes_for, grid_at, job_of, jobs_between, jobs_of}
use Rattle.ht_legacy_rx.specs.Results.{legacy_frame_result, legacy_plan, result_of}
use Rattle.ht_legacy_rx.specs.Texts.{results_in}
use Rattle.ht_results.specs.Plans.{on_data_by, whole_by}
use Rattle.ht_results.specs.Texts.{octets_in, result_line, result_lines}
use Rattle.ht_results.proofs.Vectors.{ladders}
use Rattle.ht_demo.proofs.Small.{rows_small}
use Rattle.ht_library.proofs.FrameLines.{has_octets, picked_small}
use Rattle.ht_library.proofs.LegacyLengths.{length-legacy_decoded}
use Rattle.ht_library.proofs.LegacyRooms.{AreGood, IsDiagonal, begun, room_in}
use Rattle.ht_library.proofs.LineLengths.{frame-long}
use Rattle.ht_library.proofs.SmallJobs.{IsSmall}

-- the grid of a subcarrier
either_mask : (b : Bool) → (0 < (if b then 2 else 1)) × ((if b then 2 else 1) < 2 ^ 2)
either_mask true = (omega arith, omega arith)
either_mask false = (omega arith, omega arith)

axes_good : (r : LegacyRate) (symbol : ℕ) (c : Carrier) → AreLadders (axes_for r symbol c)
axes_good r symbol (Data m) = ladders (modulation_of r)
axes_good r symbol (Pilot k) =
    let mask = either_mask (int_eq (pilot_of symbol k) (pos 1)) in
    record { i = record { size = inr (inl refl); some = mask.0; within = mask.1 }; q = record { size = inl refl; some = omega arith; within = omega arith } }

grid_good : (r : LegacyRate) (symbol carrier : ℕ) → IsGrid (grid_at r symbol carrier)
unfolding grid_at
grid_good r symbol carrier = record {
  some = omega arith;
  few = omega arith;
  ladders = All-cons AreLadders (axes_for r symbol (carrier_of carrier)) [] (axes_good r symbol (carrier_of carrier)) (All-nil AreLadders);
}

-- the diagonal and the sample of a subcarrier
diagonal_at : (ds : List ℕ) (k : ℕ) → AllByRecursion IsDiagonal ds → IsDiagonal (slice_index_or ds k 0)
diagonal_at [] k small = omega arith
diagonal_at (d ∷ ds) zero small = small.0
diagonal_at (d ∷ ds) (suc k) small = diagonal_at ds k small.1

sample_of : (samples : List Sample) (k : ℕ) → AreSamples samples → AreSamples (slice_index_or samples k no_sample ∷ [])
sample_of [] k typed = (omega (arith, ints), omega (arith, ints), tt)
sample_of (s ∷ samples) zero typed = (typed.0, typed.1, tt)
sample_of (s ∷ samples) (suc k) typed = sample_of samples k typed.2

-- the distance of a job's first nearest vector
job_small : (s : SymbolView) (carrier : ℕ) → AllByRecursion IsDiagonal s.diagonals → AreSamples s.samples → IsSmall (job_of s carrier)
unfolding job_of
job_small s carrier small typed =
    let job : JobView = job_of s carrier in
    let grid : IsGrid job.grid = grid_good s.head.rate s.symbol carrier in
    let x : List Point = (near job).vector in
    let found : IsNear job x = is_near job grid in
    let within : is_in job.grid x ≡ true = search (rules, found.within) in
    let leg : Leg = record { diagonal = slice_index_or s.diagonals carrier 0; right = [] } in
    let sample : Sample = slice_index_or s.samples carrier no_sample in
    let less = rows_small (leg ∷ []) (sample ∷ []) x (omega arith) (diagonal_at s.diagonals carrier small, refl, tt, tt)
    (sample_of s.samples carrier typed) (small_points job.grid x grid.ladders within) in
    let most : distance_of (rows_of (leg ∷ []) (sample ∷ [])) x ≤ 2 ^ 66 = omega (arith, less) in
    most

jobs_small : (s : SymbolView) → AllByRecursion IsDiagonal s.diagonals → AreSamples s.samples → AllByRecursion IsSmall (jobs_of s)
unfolding jobs_between
jobs_small s small typed =
    all_map IsSmall (job_of s) (range_with_len 0 52)
    (all_range (λ carrier. IsSmall (job_of s carrier)) 0 52 (λ carrier within. job_small s carrier small typed))

-- heads and jobs: the frames have numbers of 16 bits and at most 4095 octets, and the jobs are near
abbrev AreSmall : List (Item LegacyFrameHead) → Type 0
AreSmall [] = Unit {0}
AreSmall (Begins head ∷ items) = (head.frame ≤ 65535) × (head.length ≤ 4095) × AreSmall items
AreSmall (One job ∷ items) = IsSmall job × AreSmall items

small_jobs : (jobs : List JobView) (items : List (Item LegacyFrameHead)) → AllByRecursion IsSmall jobs → AreSmall items
    → AreSmall (map One jobs ++ items)
small_jobs [] items small rest = rest
small_jobs (job ∷ jobs) items small rest = (small.0, small_jobs jobs items small.1 rest)

given_small : (c : Course) (items : List LegacyItem) → c.frames + begun items ≤ 65535 → AllByRecursion IsDiagonal c.diagonals → AreGood items
    → AreSmall (given_from c items)
given_small c [] few small good = tt
given_small c (BeginsFrame h ∷ items) few small good =
    (omega (arith, few), good.0, given_small (behind_head c h) items (omega (arith, few)) good.1 good.2)
given_small c (Symbol samples ∷ items) few small good =
    small_jobs (jobs_of (symbol_at c samples)) (given_from (behind_symbol c) items) (jobs_small (symbol_at c samples) small good.0)
    (given_small (behind_symbol c) items few small good.1)

-- a frame whose jobs are near
record IsSmallFrame (f : LegacyFrameJobs) : Type 0 where
  number : f.head.frame ≤ 65535
  octets : f.head.length ≤ 4095
  jobs : AllByRecursion IsSmall f.jobs
  whole : has_all_jobs f ≡ true

first_small : (items : List (Item LegacyFrameHead)) → AreSmall items → AllByRecursion IsSmall (jobs_first items)
first_small [] small = tt
first_small (Begins head ∷ items) small = tt
first_small (One job ∷ items) small = (small.0, first_small items small.1)

-- how many symbols and jobs a frame has
symbols_few : (r : LegacyRate) (len : ℕ) → len ≤ 4095 → symbols_of r len ≤ 1400
unfolding symbols_of
symbols_few r len few =
    let n : ℕ = symbols_of r len in
    let range = data_bits_of-range r in
    let least : 24 ≤ data_bits_of r = range.0 in
    let same : n ≤ n = omega arith in
    let times : n * 24 ≤ n * data_bits_of r = mul-le-mul same least in
    let over = (div_ceil_times (needed_bits len) (data_bits_of r) (omega (arith, least))).1 in
    omega (arith, times, over, few, range.1)

jobs_few : (f : LegacyFrameJobs) → IsSmallFrame f → length f.jobs ≤ 119574144
jobs_few f small =
    let n : ℕ = symbols_in f.head in
    let all = small.whole in
    let is : length f.jobs ≡ n * 52 = grind (arith, nat_tests, all) in
    omega (arith, is, symbols_few f.head.rate f.head.length small.octets)

-- at how many places codewords differ
code_few : (r : LegacyRate) (len : ℕ) (labels : List ℕ) → len ≤ 4095 → (legacy_decoded_frame r len labels).code < 100000000
unfolding legacy_decoded_frame received_of
code_few r len labels few =
    let low = distance-low (pattern_of r) (received_of r len labels) (input_of r len labels) (needed_bits len)
    (length-map-range_with_len (received_at r labels) 0 (sent_count (pattern_of r) (needed_bits len))) in
    omega (arith, low, few)

-- the line of a frame
line_long : (f : LegacyFrameJobs) → IsSmallFrame f → length (result_line (legacy_frame_result f)) ≤ 107 + 2 * f.head.length
unfolding result_line result_of
line_long f small =
    let few = jobs_few f small in
    let all = whole_by legacy_plan f.head f.jobs in
    let d = legacy_decoded_frame f.head.rate f.head.length all.labels in
    let on_data = on_data_by legacy_plan f.head in
    frame-long f.head.frame all.data_sum all.pilot_sum d.code f.head.length (octets_in d.outcome) small.number
    (picked_small on_data f.jobs small.jobs few) (picked_small (λ job. not (on_data job)) f.jobs small.jobs few)
    (code_few f.head.rate f.head.length all.labels small.octets)
    (has_octets d.outcome f.head.length (λ octets is. length-legacy_decoded f.head.rate f.head.length all.labels octets is))

-- the room of the frames among heads and jobs
room_of_items : List (Item LegacyFrameHead) → ℕ
room_of_items [] = 0
room_of_items (Begins head ∷ items) = (107 + 2 * head.length) + room_of_items items
room_of_items (One job ∷ items) = room_of_items items

jobs_no_room : (jobs : List JobView) (items : List (Item LegacyFrameHead)) → room_of_items (map One jobs ++ items) ≡ room_of_items items
unfolding room_of_items
jobs_no_room [] items = refl
jobs_no_room (job ∷ jobs) items = jobs_no_room jobs items

room_given : (c : Course) (items : List LegacyItem) → room_of_items (given_from c items) ≡ room_in items
unfolding room_of_items
room_given c [] = refl
room_given c (BeginsFrame h ∷ items) = omega (arith, room_given (behind_head c h) items)
room_given c (Symbol samples ∷ items) =
    jobs_no_room (jobs_of (symbol_at c samples)) (given_from (behind_symbol c) items) ∙ room_given (behind_symbol c) items

-- and their number
jobs_no_frame : (jobs : List JobView) (items : List (Item LegacyFrameHead)) → frames_of (map One jobs ++ items) ≡ frames_of items
jobs_no_frame [] items = refl
jobs_no_frame (job ∷ jobs) items = jobs_no_frame jobs items

pub frames_given : (c : Course) (items : List LegacyItem) → frames_of (given_from c items) ≡ begun items
frames_given c [] = refl
frames_given c (BeginsFrame h ∷ items) = omega (arith, frames_given (behind_head c h) items)
frames_given c (Symbol samples ∷ items) =
    jobs_no_frame (jobs_of (symbol_at c samples)) (given_from (behind_symbol c) items) ∙ frames_given (behind_symbol c) items

-- the lines of the frames that are whole
kept_long : (f : LegacyFrameJobs) (fs : List LegacyFrameJobs) (b : Bool) → has_all_jobs f ≡ b → (b ≡ true → IsSmallFrame f)
    → length (result_lines (map legacy_frame_result (if b then f ∷ fs else fs)))
    ≤ (107 + 2 * f.head.length) + length (result_lines (map legacy_frame_result fs))
kept_long f fs true is small =
    omega (arith, length-append (result_line (legacy_frame_result f)) (result_lines (map legacy_frame_result fs)), line_long f (small refl))
kept_long f fs false is small = omega arith

whole_long : (items : List (Item LegacyFrameHead)) → AreSmall items → length (result_lines (map legacy_frame_result (whole_frames items))) ≤ room_of_items items
unfolding room_of_items
whole_long [] small = omega arith
whole_long (Begins head ∷ items) small =
    let f : LegacyFrameJobs = record { head = head; jobs = jobs_first items } in
    let here = kept_long f (filter has_all_jobs (frames_in items)) (has_all_jobs f) refl
    (λ all. record { number = small.0; octets = small.1; jobs = first_small items small.2; whole = all }) in
    omega (arith, here, whole_long items small.2)
whole_long (One job ∷ items) small = whole_long items small.1

zeros_small : (n : ℕ) → AllByRecursion IsDiagonal (replicate n 0)
zeros_small zero = tt
zeros_small (suc n) = (omega arith, zeros_small n)

pub lines_long : (items : List LegacyItem) → begun items ≤ 65535 → AreGood items → length (result_lines (results_in items)) ≤ room_in items
lines_long items few good =
    let long = whole_long (given_from at_first items) (given_small at_first items (omega (arith, few)) (zeros_small 52) good) in
    omega (arith, long, room_given at_first items)
