-- The lines of frames have room.
use Rattle.std.proofs.Common.{◌≡◌, ℕ, zero, suc, ◌+◌, ◌*◌, ◌^◌, ◌<◌, ◌≤◌, List, [], ◌∷◌, ◌++◌, length, map, take, drop, flat_map}
use Rattle.std.proofs.Common.{Bool, true, false, not, All, Option, Some, None, if◌then◌else◌, inl, inr, refl, sym, ap, subst, ◌∙◌, arith, length-append}
use Rattle.std.specs.List.{AllByRecursion, filter, range_with_len}
use Rattle.std.proofs.Math.Nat.{mul-le-mul, mul-le-mul_right, le_trans}
use Rattle.std.proofs.lemmas.Bool.Decides.{nat_tests}
use Rattle.std.proofs.lemmas.List.FromFn.{length-range_with_len}
use Rattle.std.proofs.lemmas.List.Elements.{All-filter, All-from_recursion}
use Rattle.std.proofs.lemmas.List.Sums.{count_by-le-length, length-filter, sum_by-le}
use Rattle.ht_rate.specs.Rates.{carriers_of, streams_of, symbols_of}
use Rattle.ht_rate.proofs.RateFacts.{carriers_of-range}
use Rattle.ht_metric.specs.declared.sample.Sample.{Sample}
use Rattle.ht_metric.specs.Jobs.{JobView, near}
use Rattle.ht_capture.specs.declared.frames.CaptureFrame.{CaptureFrame}
use Rattle.ht_capture.specs.declared.items.FrameHead.{FrameHead}
use Rattle.ht_capture.specs.declared.items.Item.{Item}
use Rattle.ht_capture.specs.declared.items.Item.TheVariants.{Frame, Job, Done}
use Rattle.ht_capture.specs.declared.places.Present.{Present}
use Rattle.ht_capture.specs.Contents.{AreSamples, AreTyped, frame_jobs, head_of, items_from, presents_of, symbol_jobs}
use Rattle.ht_capture.specs.Files.{is_erased}
use Rattle.ht_capture.proofs.Filed.{samples_before, samples_behind}
use Rattle.ht_files.proofs.PointRoutes.{symbols_most}
use Rattle.ht_capture_laws.specs.Items.{FrameJobs, carriers_in, frames_in, has_all_jobs, jobs_first, symbols_in, whole_frames}
use Rattle.ht_inverse.specs.Decoding.{decoded_frame}
use Rattle.ht_inverse.specs.declared.outcome.Outcome.{Outcome}
use Rattle.ht_inverse.specs.declared.outcome.Outcome.TheVariants.{Octets, SeedZero}
use Rattle.ht_soft.specs.Frames.{soft_decoded_frame}
use Rattle.ht_results.specs.declared.frame_result.FrameResult.{FrameResult}
use Rattle.ht_results.specs.Labels.{frame_labels}
use Rattle.ht_results.specs.Results.{decoded_of, distances, frame_result, on_data}
use Rattle.ht_results.specs.Texts.{frames_of, octets_in, result_line}
use Rattle.ht_soft_rx.specs.Results.{result_of as soft_result_of, soft_result}
use Rattle.ht_soft_rx.specs.Texts.{soft_line}
use Rattle.ht_soft_rx.specs.Weights.{frame_weights}
use Rattle.ht_library.proofs.Costs.{code-few, cost-few, frame-light}
use Rattle.ht_library.proofs.Lengths.{length-decoded, length-soft_decoded}
use Rattle.ht_library.proofs.LineLengths.{HasOctets, frame-long, soft-long}
use Rattle.ht_library.proofs.Rooms.{room_of, rooms}
use Rattle.ht_library.proofs.SmallJobs.{IsSmall, Stands, near_small, stand_in}

-- items whose jobs are near, and whose frames have numbers and lengths of 16 bits
abbrev AreSmall : List Item → Type 0
AreSmall [] = Unit {0}
AreSmall (Frame head ∷ items) = (head.frame ≤ 65535) × (head.length ≤ 65535) × AreSmall items
AreSmall (Job job ∷ items) = IsSmall job × AreSmall items
AreSmall (Done ∷ items) = AreSmall items

small_append : (xs ys : List Item) → AreSmall xs → AreSmall ys → AreSmall (xs ++ ys)
small_append [] ys a b = b
small_append (Frame head ∷ xs) ys a b = (a.0, a.1, small_append xs ys a.2 b)
small_append (Job job ∷ xs) ys a b = (a.0, small_append xs ys a.1 b)
small_append (Done ∷ xs) ys a b = small_append xs ys a b

symbol_small : (head : FrameHead) (symbol number : ℕ) (present : List Present) (samples : List Sample) → AllByRecursion Stands present
    → AreSamples samples → AreSmall (symbol_jobs head symbol number present samples)
symbol_small head symbol number [] samples stand numbers = tt
symbol_small head symbol number (p ∷ present) samples stand numbers = (
  near_small head symbol number p samples stand.0 numbers,
  symbol_small head symbol (number + 1) present _ stand.1 (samples_behind (streams_of head.rate) samples numbers),
)

frame_small : (n : ℕ) (head : FrameHead) (symbol number : ℕ) (present : List Present) (samples : List Sample) → AllByRecursion Stands present
    → AreSamples samples → AreSmall (frame_jobs n head symbol number present samples)
frame_small zero head symbol number present samples stand numbers = tt
frame_small (suc n) head symbol number present samples stand numbers =
    let w : ℕ = length present * streams_of head.rate in
    small_append (symbol_jobs head symbol number present _) (frame_jobs n head (symbol + 1) (number + length present) present _)
    (symbol_small head symbol number present _ stand (samples_before w samples numbers))
    (frame_small n head (symbol + 1) (number + length present) present _ stand (samples_behind w samples numbers))

pub items_small : (frame number : ℕ) (frames : List CaptureFrame) → frame + length frames ≤ 65535 → AreTyped frames
    → AreSmall (items_from frame number frames)
unfolding items_from
items_small frame number [] few typed = tt
items_small frame number (f ∷ frames) few typed =
    let n : ℕ = symbols_of f.rate f.length in
    let len = typed.0.length_is in (
      omega (arith, few),
      omega (arith, len),
      small_append (frame_jobs n (head_of frame f) 0 number (presents_of f) f.samples) _
          (frame_small n (head_of frame f) 0 number (presents_of f) f.samples (stand_in f typed.0.triangles) typed.0.samples)
          (items_small (frame + 1) (number + n * length (presents_of f)) frames (omega (arith, few)) typed.1),
    )

-- a frame whose jobs are near
record IsSmallFrame (f : FrameJobs) : Type 0 where
  number : f.head.frame ≤ 65535
  octets : f.head.length ≤ 65535
  jobs : AllByRecursion IsSmall f.jobs
  whole : has_all_jobs f ≡ true

jobs_small : (items : List Item) → AreSmall items → AllByRecursion IsSmall (jobs_first items)
jobs_small [] small = tt
jobs_small (Frame head ∷ items) small = tt
jobs_small (Job job ∷ items) small = (small.0, jobs_small items small.1)
jobs_small (Done ∷ items) small = jobs_small items small

-- how many jobs a frame has
filter_few : {X : Type 0} (p : X → Bool) (xs : List X) → length (filter p xs) ≤ length xs
filter_few p xs = let a = length-filter p xs in let b = count_by-le-length p xs in omega (arith, a, b)

jobs_few : (f : FrameJobs) → IsSmallFrame f → length f.jobs ≤ 119574144
jobs_few f small =
    let n : ℕ = symbols_in f.head in
    let m : ℕ = length (carriers_in f.head) in
    let all = small.whole in
    let is : length f.jobs ≡ n * m = grind (arith, nat_tests, all) in
    let kept = filter_few (λ carrier. not (is_erased f.head.erased carrier)) (range_with_len 0 (carriers_of f.head.rate)) in
    let count = length-range_with_len 0 (carriers_of f.head.rate) in
    let range = (carriers_of-range f.head.rate).1 in
    let wide : m ≤ 114 = omega (arith, kept, count, range) in
    let most : n * m ≤ 20166 * 114 = mul-le-mul (symbols_most f.head.rate f.head.length small.octets) wide in
    omega (arith, is, most)

-- the sum over the jobs that a test picks
pub picked_small : (p : JobView → Bool) (jobs : List JobView) → AllByRecursion IsSmall jobs → length jobs ≤ 119574144 → distances (filter p jobs) ≤ 2 ^ 96
picked_small p jobs small few =
    let all : All IsSmall (filter p jobs) = All-filter p IsSmall jobs (All-from_recursion IsSmall jobs small) in
    let sum = sum_by-le (λ (job : JobView). (near job).distance) (2 ^ 66) (filter p jobs) all in
    let most = filter_few p jobs in
    let wide : length (filter p jobs) * 2 ^ 66 ≤ 119574144 * 2 ^ 66 = mul-le-mul_right (2 ^ 66) (le_trans most few) in
    omega (arith, sum, wide)

-- the octets that a frame came to are as many as its head says
pub has_octets : (o : Outcome) (count : ℕ) → ((octets : List ℕ) → o ≡ Octets octets → length octets ≡ count) → HasOctets (octets_in o) count
has_octets (Octets found) count has octets is = let same : found ≡ octets = cc in ap length (sym same) ∙ has found refl
has_octets SeedZero count has octets is = let never : ⊥ = cc in absurd never

-- the line of a frame in `rx`, and in `soft`
rx-line : (f : FrameJobs) → IsSmallFrame f → length (result_line (frame_result f)) ≤ 107 + 2 * f.head.length
unfolding result_line frame_result
rx-line f small =
    let few = jobs_few f small in
    frame-long f.head.frame _ _ (decoded_of f).code f.head.length (octets_in (decoded_of f).outcome) small.number
    (picked_small (on_data f.head.rate) f.jobs small.jobs few) (picked_small (λ job. not (on_data f.head.rate job)) f.jobs small.jobs few)
    (code-few f.head.rate f.head.length f.head.erased (frame_labels f) small.octets)
    (has_octets (decoded_of f).outcome f.head.length
    (λ octets is. length-decoded f.head.rate f.head.length f.head.erased (frame_labels f) octets is))

soft-line : (f : FrameJobs) → IsSmallFrame f → length (soft_line (soft_result f)) ≤ 107 + 2 * f.head.length
unfolding soft_line soft_result_of
soft-line f small =
    let d = soft_decoded_frame f.head.rate f.head.length f.head.erased (frame_weights f) in
    soft-long f.head.frame d.cost f.head.length (octets_in d.outcome) small.number
    (cost-few f.head.rate f.head.length f.head.erased (frame_weights f) small.octets (frame-light f))
    (has_octets d.outcome f.head.length
    (λ octets is. length-soft_decoded f.head.rate f.head.length f.head.erased (frame_weights f) octets is))

-- the room of the frames among items
room_in : List Item → ℕ
room_in [] = 0
room_in (Frame head ∷ items) = (107 + 2 * head.length) + room_in items
room_in (Job job ∷ items) = room_in items
room_in (Done ∷ items) = room_in items

room-append : (xs ys : List Item) → room_in (xs ++ ys) ≡ room_in xs + room_in ys
unfolding room_in
room-append [] ys = omega arith
room-append (Frame head ∷ xs) ys = omega (arith, room-append xs ys)
room-append (Job job ∷ xs) ys = room-append xs ys
room-append (Done ∷ xs) ys = room-append xs ys

symbol-none : (head : FrameHead) (symbol number : ℕ) (present : List Present) (samples : List Sample)
    → room_in (symbol_jobs head symbol number present samples) ≡ 0
unfolding room_in
symbol-none head symbol number [] samples = refl
symbol-none head symbol number (p ∷ present) samples = symbol-none head symbol (number + 1) present _

frame-none : (n : ℕ) (head : FrameHead) (symbol number : ℕ) (present : List Present) (samples : List Sample)
    → room_in (frame_jobs n head symbol number present samples) ≡ 0
unfolding room_in
frame-none zero head symbol number present samples = refl
frame-none (suc n) head symbol number present samples =
    let w : ℕ = length present * streams_of head.rate in
    omega (
      arith,
      room-append (symbol_jobs head symbol number present (take w samples)) (frame_jobs n head (symbol + 1) (number + length present) present (drop w samples)),
      symbol-none head symbol number present (take w samples),
      frame-none n head (symbol + 1) (number + length present) present (drop w samples),
    )

room-is : (frame number : ℕ) (frames : List CaptureFrame) → room_in (items_from frame number frames) ≡ rooms frames
unfolding items_from room_in
room-is frame number [] = refl
room-is frame number (f ∷ frames) =
    let n : ℕ = symbols_of f.rate f.length in
    let next : ℕ = number + n * length (presents_of f) in
    omega (
      arith,
      room-append (Frame (head_of frame f) ∷ frame_jobs n (head_of frame f) 0 number (presents_of f) f.samples) (items_from (frame + 1) next frames),
      frame-none n (head_of frame f) 0 number (presents_of f) f.samples,
      room-is (frame + 1) next frames,
    )

-- the lines of the frames that are whole among items
module _ {R : Type 0} (line : R → List ℕ) (result : FrameJobs → R)
    (short : (f : FrameJobs) → IsSmallFrame f → length (line (result f)) ≤ 107 + 2 * f.head.length) where
  kept-long : (f : FrameJobs) (fs : List FrameJobs) (b : Bool) → has_all_jobs f ≡ b → (b ≡ true → IsSmallFrame f)
      → length (flat_map line (map result (if b then f ∷ fs else fs))) ≤ (107 + 2 * f.head.length) + length (flat_map line (map result fs))
  kept-long f fs true is small = omega (arith, length-append (line (result f)) (flat_map line (map result fs)), short f (small refl))
  kept-long f fs false is small = omega arith

  whole-long : (items : List Item) → AreSmall items → length (flat_map line (map result (whole_frames items))) ≤ room_in items
  unfolding room_in
  whole-long [] small = omega arith
  whole-long (Frame head ∷ items) small =
      let f : FrameJobs = record { head = head; jobs = jobs_first items } in
      let here = kept-long f (filter has_all_jobs (frames_in items)) (has_all_jobs f) refl
      (λ all. record { number = small.0; octets = small.1; jobs = jobs_small items small.2; whole = all }) in
      omega (arith, here, whole-long items small.2)
  whole-long (Job job ∷ items) small = whole-long items small.1
  whole-long (Done ∷ items) small = whole-long items small

pub rx-lines : (frames : List CaptureFrame) → length frames ≤ 65535 → AreTyped frames
    → length (flat_map result_line (map frame_result (whole_frames (items_from 0 0 frames)))) ≤ rooms frames
rx-lines frames few typed =
    omega (arith, whole-long result_line frame_result rx-line (items_from 0 0 frames) (items_small 0 0 frames (omega (arith, few)) typed), room-is 0 0 frames)

pub soft-lines : (frames : List CaptureFrame) → length frames ≤ 65535 → AreTyped frames
    → length (flat_map soft_line (map soft_result (whole_frames (items_from 0 0 frames)))) ≤ rooms frames
soft-lines frames few typed =
    omega (arith, whole-long soft_line soft_result soft-line (items_from 0 0 frames) (items_small 0 0 frames (omega (arith, few)) typed), room-is 0 0 frames)

-- how many frames are among the items
frames-append : (xs ys : List Item) → frames_of (xs ++ ys) ≡ frames_of xs + frames_of ys
frames-append [] ys = omega arith
frames-append (Frame head ∷ xs) ys = omega (arith, frames-append xs ys)
frames-append (Job job ∷ xs) ys = frames-append xs ys
frames-append (Done ∷ xs) ys = frames-append xs ys

symbol-no_frame : (head : FrameHead) (symbol number : ℕ) (present : List Present) (samples : List Sample)
    → frames_of (symbol_jobs head symbol number present samples) ≡ 0
symbol-no_frame head symbol number [] samples = refl
symbol-no_frame head symbol number (p ∷ present) samples = symbol-no_frame head symbol (number + 1) present _

frame-no_frame : (n : ℕ) (head : FrameHead) (symbol number : ℕ) (present : List Present) (samples : List Sample)
    → frames_of (frame_jobs n head symbol number present samples) ≡ 0
frame-no_frame zero head symbol number present samples = refl
frame-no_frame (suc n) head symbol number present samples =
    let w : ℕ = length present * streams_of head.rate in
    omega (
      arith,
      frames-append (symbol_jobs head symbol number present (take w samples))
          (frame_jobs n head (symbol + 1) (number + length present) present (drop w samples)),
      symbol-no_frame head symbol number present (take w samples),
      frame-no_frame n head (symbol + 1) (number + length present) present (drop w samples),
    )

pub frames-counted : (frame number : ℕ) (frames : List CaptureFrame) → frames_of (items_from frame number frames) ≡ length frames
unfolding items_from
frames-counted frame number [] = refl
frames-counted frame number (f ∷ frames) =
    let n : ℕ = symbols_of f.rate f.length in
    let next : ℕ = number + n * length (presents_of f) in
    omega (
      arith,
      frames-append (Frame (head_of frame f) ∷ frame_jobs n (head_of frame f) 0 number (presents_of f) f.samples) (items_from (frame + 1) next frames),
      frame-no_frame n (head_of frame f) 0 number (presents_of f) f.samples,
      frames-counted (frame + 1) next frames,
    )
