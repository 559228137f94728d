-- The result of one frame that was received exactly.
use Rattle.std.proofs.Common.{◌≡◌, ℕ, ◌+◌, ◌*◌, List, [], ◌∷◌, length, map, not, Bool, true}
use Rattle.std.proofs.Common.{refl, sym, ap, subst, ◌∙◌, arith}
use Rattle.std.specs.List.{AllByRecursion, filter, fold}
use Rattle.std.proofs.lemmas.List.{length-map}
use Rattle.std.proofs.lemmas.List.Elements.{recursion_from_All}
use Rattle.std.proofs.lemmas.Nat.{pow_pos}
use Rattle.ht_rate.specs.declared.rates.Rate.{Rate}
use Rattle.ht_rate.specs.Rates.{carriers_of, streams_of, symbols_of}
use Rattle.ht_rate.proofs.RateFacts.{carriers_of-range}
use Rattle.ht_scramble.specs.Sequence.{IsSeed}
use Rattle.ht_metric.specs.declared.sample.Sample.{Sample}
use Rattle.ht_metric.specs.Distance.{received}
use Rattle.ht_metric.specs.Jobs.{JobView, near}
use Rattle.ht_metric.specs.declared.found.Found.{Found}
use Rattle.ht_metric.specs.Rows.{Leg}
use Rattle.ht_capture.specs.declared.frames.CaptureFrame.{CaptureFrame}
use Rattle.ht_capture.specs.declared.places.Present.{Present}
use Rattle.ht_capture.specs.Contents.{AreTriangles, IsTyped, head_of, presents, presents_of}
use Rattle.ht_capture.specs.Files.{FitsFrame, present_among}
use Rattle.ht_capture.proofs.Filed.{all_present}
use Rattle.ht_capture.proofs.Framed.{typed_all}
use Rattle.ht_capture_laws.specs.Items.{FrameJobs, IsWholeFrame}
use Rattle.ht_capture_laws.proofs.Lists.{all_kept, all_weaker}
use Rattle.ht_inverse.specs.declared.decoded.Decoded.{Decoded}
use Rattle.ht_inverse.specs.declared.outcome.Outcome.TheVariants.{Octets}
use Rattle.ht_tx.specs.Frames.{FrameView}
use Rattle.ht_tx.specs.Symbols.{IsSymbols, SymbolsView}
use Rattle.ht_tx.specs.Transmitted.{IsTransmitted}
use Rattle.ht_round.specs.Returns.{AreOctets}
use Rattle.ht_round.proofs.Back.{sent_comes_back}
use Rattle.ht_sim.specs.Channel.{symbols_mixed}
use Rattle.ht_results.specs.declared.frame_result.FrameResult.{FrameResult}
use Rattle.ht_results.specs.Labels.{frame_labels}
use Rattle.ht_results.specs.Results.{decoded_of, frame_result, on_data, pilot_sum_of}
use Rattle.ht_round.specs.Exact.{HasFullDiagonal, IsExact}
use Rattle.ht_round.specs.Returned.{returned_result}
use Rattle.ht_round.proofs.Jobs.{IsFound, all_presents, frame_found, frame_views, numbered}
use Rattle.ht_round.proofs.Labels.{are_labels, frame_of_jobs}
use Rattle.ht_round.proofs.Mixed.{HaveRows, all_symbols, length-symbols, symbols_from}
use Rattle.ht_round.proofs.Small.{exact_fit}

-- sums of distances that are all 0
abbrev IsExactlyNear : JobView → Type 0
IsExactlyNear job = (near job).distance ≡ 0

no_sum : (jobs : List JobView) (n : ℕ) → AllByRecursion IsExactlyNear jobs → fold (λ a job. a + (near job).distance) n jobs ≡ n
no_sum [] n zeros = refl
no_sum (job ∷ jobs) n zeros =
    let none = zeros.0 in
    let same : n + (near job).distance ≡ n = omega (arith, none) in
    ap (λ (k : ℕ). fold (λ a job. a + (near job).distance) k jobs) same ∙ no_sum jobs n zeros.1

none_kept : (p : JobView → Bool) (jobs : List JobView) → AllByRecursion IsExactlyNear jobs → fold (λ a job. a + (near job).distance) 0 (filter p jobs) ≡ 0
none_kept p jobs zeros =
    no_sum (filter p jobs) 0
    (all_weaker (λ (job : JobView). IsExactlyNear job × (p job ≡ true)) IsExactlyNear (filter p jobs) (λ job both. both.0)
    (all_kept IsExactlyNear p jobs zeros))

-- a frame whose jobs are detected as they were sent
found_back : (number : ℕ) (f : FrameView) (jobs : List JobView) (s : SymbolsView) → IsSeed f.seed → AreOctets f.octets → IsTransmitted f s
    → IsWholeFrame (frame_of_jobs number f jobs) → AllByRecursion (IsFound f.rate s.points) jobs
    → frame_result (frame_of_jobs number f jobs) ≡ returned_result number f
unfolding frame_result
found_back number f jobs s seed octets sent whole found =
    let g : FrameJobs = frame_of_jobs number f jobs in
    let zeros : AllByRecursion IsExactlyNear jobs =
    all_weaker (IsFound f.rate s.points) IsExactlyNear jobs (λ job is. ap (λ (z : Found). z.distance) is) found in
    let decoded : decoded_of g ≡ record { outcome = Octets f.octets; code = 0 } =
    sent_comes_back f (frame_labels g) seed octets (are_labels number f jobs s sent whole found) in
    let made : ℕ → ℕ → Decoded → FrameResult =
    λ sum pilot d. record { frame = number; data_sum = sum; pilot_sum = pilot; code = d.code; outcome = d.outcome } in
    ap (λ (n : ℕ). made n (pilot_sum_of g) (decoded_of g)) (none_kept (on_data f.rate) jobs zeros)
    ∙ (ap (λ (n : ℕ). made 0 n (decoded_of g)) (none_kept (λ job. not (on_data f.rate job)) jobs zeros) ∙ ap (made 0 0) decoded)

-- the jobs of a written frame
abbrev pub made_frame : ℕ → ℕ → CaptureFrame → FrameJobs
made_frame frame number c = record {
  head = head_of frame c;
  jobs = frame_views (symbols_of c.rate c.length) (head_of frame c) 0 number (presents_of c) c.samples;
}

-- a frame that was received exactly, by its own numbers
abbrev frame_made : Rate → ℕ → ℕ → List (List Leg) → List Sample → CaptureFrame
frame_made r octets erased ts ys = record { rate = r; length = octets; erased = erased; triangles = ts; samples = ys }

pub record IsReceivedAs (f : FrameView) (s : SymbolsView) (c : CaptureFrame) : Type 0 where
  pub symbols : IsSymbols f.rate (length f.octets) s.points
  pub same : c ≡ record { rate = f.rate; length = length f.octets; erased = 0; triangles = c.triangles; samples = c.samples }
  pub count : length c.triangles ≡ carriers_of f.rate
  pub typed : AreTriangles (streams_of f.rate) c.triangles
  pub diagonals : AllByRecursion HasFullDiagonal c.triangles
  pub samples : map received c.samples ≡ symbols_from (symbols_of f.rate (length f.octets)) (streams_of f.rate) 0 c.triangles s.points

pub as_received : (f : FrameView) (s : SymbolsView) (c : CaptureFrame) → IsTransmitted f s → IsSymbols s.rate s.length s.points → IsExact s c
    → IsReceivedAs f s c
as_received f s c sent are exact =
    let n : ℕ = length f.octets in
    let rate : c.rate ≡ f.rate = exact.rate ∙ sent.rate in
    let octets : c.length ≡ n = exact.length_is ∙ sent.octets in
    record {
      symbols = subst (λ (r : Rate). IsSymbols r n s.points) sent.rate (subst (λ (k : ℕ). IsSymbols s.rate k s.points) sent.octets are);
      same = ap (λ (r : Rate). frame_made r c.length c.erased c.triangles c.samples) rate
          ∙ (ap (λ (k : ℕ). frame_made f.rate k c.erased c.triangles c.samples) octets
          ∙ ap (λ (k : ℕ). frame_made f.rate n k c.triangles c.samples) exact.whole);
      count = exact.count ∙ ap carriers_of rate;
      typed = subst (λ (r : Rate). AreTriangles (streams_of r) c.triangles) rate exact.triangles;
      diagonals = recursion_from_All HasFullDiagonal c.triangles exact.diagonals;
      samples = exact.samples
          ∙ (ap (λ (r : Rate). symbols_mixed (symbols_of r s.length) (streams_of r) c.triangles s.points) sent.rate
          ∙ (ap (λ (k : ℕ). symbols_mixed (symbols_of f.rate k) (streams_of f.rate) c.triangles s.points) sent.octets
          ∙ all_symbols (symbols_of f.rate n) (streams_of f.rate) c.triangles s.points));
    }

rows_typed : (streams : ℕ) (ts : List (List Leg)) → AreTriangles streams ts → HaveRows streams ts
rows_typed streams [] typed = tt
rows_typed streams (t ∷ ts) typed = (typed.0, rows_typed streams ts typed.2)

-- its jobs are found, and so its result is the frame's own octets
plain_back : (frame number : ℕ) (f : FrameView) (s : SymbolsView) (ts : List (List Leg)) (ys : List Sample) → IsSeed f.seed → AreOctets f.octets
    → IsTransmitted f s → IsSymbols f.rate (length f.octets) s.points → length ts ≡ carriers_of f.rate → HaveRows (streams_of f.rate) ts
    → AllByRecursion HasFullDiagonal ts → map received ys ≡ symbols_from (symbols_of f.rate (length f.octets)) (streams_of f.rate) 0 ts s.points
    → IsWholeFrame (made_frame frame number (frame_made f.rate (length f.octets) 0 ts ys))
    → frame_result (made_frame frame number (frame_made f.rate (length f.octets) 0 ts ys)) ≡ returned_result frame f
plain_back frame number f s ts ys seed octets sent are count rows diagonals is whole =
    let r : Rate = f.rate in
    let n : ℕ = length f.octets in
    let c : CaptureFrame = frame_made r n 0 ts ys in
    let all : presents_of c ≡ numbered 0 ts = ap (λ (k : ℕ). presents k 0 0 ts) (sym count) ∙ all_presents 0 ts in
    let found : AllByRecursion (IsFound r s.points) (frame_views (symbols_of r n) (head_of frame c) 0 number (presents_of c) ys) =
    subst (λ (ps : List Present). AllByRecursion (IsFound r s.points) (frame_views (symbols_of r n) (head_of frame c) 0 number ps ys)) (sym all)
    (frame_found (symbols_of r n) (head_of frame c) n s.points 0 number ts ys are (omega arith) count rows diagonals is) in
    found_back frame f (frame_views (symbols_of r n) (head_of frame c) 0 number (presents_of c) ys) s seed octets sent whole found

pub frame_back : (frame number : ℕ) (f : FrameView) (s : SymbolsView) (c : CaptureFrame) → IsSeed f.seed → AreOctets f.octets
    → IsTransmitted f s → IsReceivedAs f s c → IsWholeFrame (made_frame frame number c) → frame_result (made_frame frame number c) ≡ returned_result frame f
frame_back frame number f s c seed octets sent got whole =
    subst (λ (z : CaptureFrame). IsWholeFrame (made_frame frame number z) → frame_result (made_frame frame number z) ≡ returned_result frame f) (sym got.same)
    (plain_back frame number f s c.triangles c.samples seed octets sent got.symbols got.count (rows_typed (streams_of f.rate) c.triangles got.typed)
    got.diagonals got.samples) whole

-- and it can be written
pub frame_fits : (f : FrameView) (s : SymbolsView) (c : CaptureFrame) → IsReceivedAs f s c → FitsFrame c
frame_fits f s c got =
    let r : Rate = f.rate in
    let n : ℕ = length f.octets in
    let wide : ℕ = carriers_of r in
    let all : present_among wide 0 0 ≡ wide = all_present wide 0 in
    let size : length c.samples ≡ symbols_of r n * (length c.triangles * streams_of r) =
    sym (length-map c.samples received) ∙ (ap length got.samples
    ∙ length-symbols (symbols_of r n) (streams_of r) 0 c.triangles s.points (rows_typed (streams_of r) c.triangles got.typed)) in
    subst FitsFrame (sym got.same) (record {
      some = got.symbols.some;
      marks = pow_pos wide;
      present = omega (arith, all, (carriers_of-range r).0);
      triangles = got.count ∙ sym all;
      streams = typed_all (streams_of r) c.triangles got.typed;
      samples = size ∙ ap (λ (k : ℕ). symbols_of r n * (k * streams_of r)) (got.count ∙ sym all);
    })

pub frame_typed : (f : FrameView) (s : SymbolsView) (c : CaptureFrame) → IsReceivedAs f s c → IsTyped c
frame_typed f s c got =
    let bounded = got.symbols.bounded in
    subst IsTyped (sym got.same) (record {
      length_is = omega (arith, bounded);
      triangles = got.typed;
      samples = exact_fit f.rate (length f.octets) s.points c.triangles c.samples got.symbols got.count got.typed got.samples;
    })
