-- How many frames are captured, and what is known of their results once they were received.
use Rattle.std.proofs.Common.{◌≡◌, ℕ, ◌^◌, ◌<◌, ◌≤◌, List, [], ◌∷◌, ◌++◌, length, Some, sym, ap, subst, ◌∙◌, arith}
use Rattle.std.proofs.lemmas.List.{map-id}
use Rattle.std.proofs.lemmas.List.Concat.{flat_map_single}
use Rattle.ht_io.specs.Devices.{Device}
use Rattle.ht_io.specs.Pieces.{KnownGrown}
use Rattle.ht_tx.specs.Frames.{FrameView}
use Rattle.ht_tx.specs.Transmitted.{AreTransmitted}
use Rattle.ht_results.specs.declared.frame_result.FrameResult.{FrameResult}
use Rattle.ht_results.specs.Results.{results_of}
use Rattle.ht_sim.proofs.Drawing.{length-several}
use Rattle.ht_sim.specs.Samples.{frames_drawn, sample_frame_drawn}
use Rattle.ht_sim.specs.Words.{first}
use Rattle.ht_feed.specs.declared.ended.Ended.{Ended}
use Rattle.ht_rx.specs.Frames.{booked_of}
use Rattle.ht_rx.specs.Outcomes.{TellsTo}
use Rattle.ht_demo.specs.declared.plan.Plan.{Plan}
use Rattle.ht_demo.specs.Demos.{IsDemoLine, IsPassed, line_of, planned}

-- as many frames as are asked for
pub length-planned : (plan : Plan) → length (planned plan) ≡ plan.frames
unfolding frames_drawn
length-planned plan = length-several (sample_frame_drawn plan.rate plan.length) plan.frames (first plan.seed)

-- no more frames than a number of 16 bits counts
pub planned_few : (plan : Plan) (frames : List FrameView) → frames ≡ planned plan → plan.frames < 2 ^ 16 → length frames ≤ 65535
planned_few plan frames is few =
    let count = ap length is ∙ length-planned plan in
    omega (arith, count)

-- what a book without results holds once a capture was read to its end
grown_results : (octets : List ℕ) (start held : List FrameResult) → start ≡ []
    → KnownGrown (Some start) (Some held) (booked_of (λ frame. frame ∷ []) octets) → held ≡ results_of octets
grown_results octets start held none grown =
    grown ∙ ap (λ (rs : List FrameResult). rs ++ booked_of (λ frame. frame ∷ []) octets) none
    ∙ flat_map_single (λ (r : FrameResult). r) (results_of octets) ∙ map-id (results_of octets)

abbrev pub device : {P : Type 0} → List P → Device P
device known = record { known = Some known; faults = 0; borrow = 0 }

received_results : (octets left : List ℕ) (start held : List FrameResult) (ended : Ended) → start ≡ []
    → TellsTo (booked_of (λ frame. frame ∷ [])) (device octets) (device left) (device start) (device held) ended
    → held ≡ results_of octets
received_results octets left start held ended none tells =
    grown_results tells.taken start held none tells.put ∙ ap results_of (sym tells.octets.0)

-- what the book shows once a source of these octets was received, into a book without results
pub booked_results : (octets source left : List ℕ) (start held shown : List FrameResult) (ended : Ended) → source ≡ octets → start ≡ []
    → TellsTo (booked_of (λ frame. frame ∷ [])) (device source) (device left) (device start) (device held) ended
    → shown ≡ held → shown ≡ results_of octets
booked_results octets source left start held shown ended of none tells is =
    is ∙ received_results source left start held ended none tells ∙ ap results_of of

-- the line of the results that a receiver of the capture booked
pub demo_line : (plan : Plan) (frames : List FrameView) (octets : List ℕ) (results : List FrameResult) (line : List ℕ)
    → frames ≡ planned plan → IsPassed plan frames octets → results ≡ results_of octets → line ≡ line_of plan results → IsDemoLine plan line
demo_line plan frames octets results line planned (sent, transmitted, are) received is =
    record {
      sent = sent;
      transmitted = subst (λ (fs : List FrameView). AreTransmitted fs sent) planned transmitted;
      is = is ∙ ap (λ (rs : List FrameResult). line_of plan rs) (received ∙ ap results_of are);
    }
