-- Without noise every frame comes back, at distance 0.
use Rattle.std.proofs.Common.{◌≡◌, ℕ, ◌+◌, List, [], ◌∷◌, length, Bool, true, cond, inl, refl, ap, ◌∙◌, arith}
use Rattle.std.specs.Str.{bytes_eq}
use Rattle.std.proofs.lemmas.List.Sums.{sum_by-cons}
use Rattle.std.proofs.lemmas.Slice.Eq.{bytes_eq-Decides}
use Rattle.ht_tx.specs.Frames.{FrameView}
use Rattle.ht_results.specs.declared.frame_result.FrameResult.{FrameResult}
use Rattle.ht_results.specs.Results.{results_of}
use Rattle.ht_capture.specs.Files.{capture_file_of}
use Rattle.ht_sim.specs.Channel.{captures_of}
use Rattle.ht_text.specs.Lines.{demo_text}
use Rattle.ht_round.specs.Returned.{returned_from, returned_result, returned_results}
use Rattle.ht_round.proofs.Drawn.{drawn_frames, drawn_octets}
use Rattle.ht_round.proofs.Simulated.{simulated_results}
use Rattle.ht_demo.specs.declared.plan.Plan.{Plan}
use Rattle.ht_demo.specs.Demos.{CanBeSent, IsDemoLine, all_jobs, all_symbols, capture_for, code_in, data_in, line_of, matched_in, pilot_in, planned}
use Rattle.ht_demo.specs.Demos.{returned_line}
use Rattle.ht_demo.proofs.Matching.{matched-cons}
use Rattle.ht_demo.proofs.Passing.{length-planned}

-- every frame is matched
same : (octets : List ℕ) → bytes_eq octets octets ≡ true
same octets = (bytes_eq-Decides octets octets).1 refl

all_matched : (n : ℕ) (frames : List FrameView) → matched_in frames (returned_from n frames) ≡ length frames
all_matched n [] = refl
all_matched n (f ∷ frames) =
    matched-cons f frames (returned_result n f) (returned_from (n + 1) frames)
    ∙ ap (λ (b : Bool). cond b 1 0 + matched_in frames (returned_from (n + 1) frames)) (same f.octets)
    ∙ ap (λ (k : ℕ). 1 + k) (all_matched (n + 1) frames)
    ∙ omega arith

-- and at no distance
no_data : (n : ℕ) (frames : List FrameView) → data_in (returned_from n frames) ≡ 0
no_data n [] = refl
no_data n (f ∷ frames) =
    sum_by-cons (λ (r : FrameResult). r.data_sum) (returned_result n f) (returned_from (n + 1) frames) ∙ ap (λ (k : ℕ). 0 + k) (no_data (n + 1) frames)

no_pilot : (n : ℕ) (frames : List FrameView) → pilot_in (returned_from n frames) ≡ 0
no_pilot n [] = refl
no_pilot n (f ∷ frames) =
    sum_by-cons (λ (r : FrameResult). r.pilot_sum) (returned_result n f) (returned_from (n + 1) frames) ∙ ap (λ (k : ℕ). 0 + k) (no_pilot (n + 1) frames)

no_code : (n : ℕ) (frames : List FrameView) → code_in (returned_from n frames) ≡ 0
no_code n [] = refl
no_code n (f ∷ frames) =
    sum_by-cons (λ (r : FrameResult). r.code) (returned_result n f) (returned_from (n + 1) frames) ∙ ap (λ (k : ℕ). 0 + k) (no_code (n + 1) frames)

-- the line of frames that all come back
line-returned : (plan : Plan) → line_of plan (returned_results (planned plan)) ≡ returned_line plan
unfolding line_of returned_line
line-returned plan =
    let text : ℕ → ℕ → ℕ → ℕ → List ℕ =
    λ matched distances pilots codes. demo_text plan.frames (all_symbols plan) (all_jobs plan) matched distances pilots codes in
    let results = returned_results (planned plan) in
    ap (λ n. text n (data_in results) (pilot_in results) (code_in results)) (all_matched 0 (planned plan) ∙ length-planned plan)
    ∙ ap (λ n. text plan.frames n (pilot_in results) (code_in results)) (no_data 0 (planned plan))
    ∙ ap (λ n. text plan.frames 0 n (code_in results)) (no_pilot 0 (planned plan))
    ∙ ap (λ n. text plan.frames 0 0 n) (no_code 0 (planned plan))

-- the results of frames that pass without noise
results_returned : (plan : Plan) (line : List ℕ) → CanBeSent plan → (is : IsDemoLine plan line) → plan.noise ≡ 0
    → results_of (capture_for plan is.sent) ≡ returned_results (planned plan)
results_returned plan line can is quiet =
    ap (λ (noise : ℕ). results_of (capture_file_of 1 (captures_of plan.seed noise is.sent))) quiet
    ∙ simulated_results 1 plan.seed (planned plan) is.sent (inl refl) (drawn_frames plan.seed plan.rate plan.length plan.frames can.some can.fits can.few)
    (drawn_octets plan.seed plan.rate plan.length plan.frames) is.transmitted

pub noiseless_returns : (plan : Plan) (line : List ℕ) → CanBeSent plan → IsDemoLine plan line → plan.noise ≡ 0 → line ≡ returned_line plan
noiseless_returns plan line can is quiet =
    is.is ∙ ap (λ (results : List FrameResult). line_of plan results) (results_returned plan line can is quiet) ∙ line-returned plan
