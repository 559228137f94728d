-- The line of a demonstration, from what the book holds once the capture was received.
use Rattle.std.specs.Prelude.{◌≡◌, ℕ, List, [], ◌∷◌}
use Rattle.std.proofs.Common.{refl, sym, subst}
use Rattle.ht_tx.specs.Frames.{FrameView}
use Rattle.ht_feed.specs.declared.ended.Ended.{Ended}
use Rattle.ht_results.specs.declared.frame_result.FrameResult.{FrameResult}
use Rattle.ht_rx.specs.Frames.{booked_of}
use Rattle.ht_rx.specs.Outcomes.{TellsTo}
use Rattle.ht_demo.specs.declared.plan.Plan.{Plan}
use Rattle.ht_demo.specs.Demos.{AreResults, AreSent, CanBeSent, Demonstrates, SumsFit, line_of}
use Rattle.ht_demo.proofs.Passing.{booked_results, demo_line, device}
use Rattle.ht_demo.proofs.Returning.{noiseless_returns}

-- what the book shows once the octets that were sent were received, into a book without results
pub are_received : (plan : Plan) (frames made : List FrameView) (octets left : List ℕ) (start held shown : List FrameResult) (ended : Ended)
    → frames ≡ made → AreSent plan made octets → start ≡ []
    → TellsTo (booked_of (λ frame. frame ∷ [])) (device octets) (device left) (device start) (device held) ended
    → shown ≡ held → AreResults plan frames shown
are_received plan frames made octets left start held shown ended same sent none tells is = (
  octets,
  subst (λ (fs : List FrameView). AreSent plan fs octets)
      (sym same) sent,
  booked_results octets octets left start held shown ended refl none tells is,
)

-- the sums of such results fit
pub received_fit : (plan : Plan) (frames : List FrameView) (results : List FrameResult) → AreResults plan frames results → SumsFit results
received_fit plan frames results (octets, sent, are) = subst SumsFit (sym are) sent.sums

pub demonstrates : (plan : Plan) (frames : List FrameView) (results : List FrameResult) (line : List ℕ)
    → CanBeSent plan → AreResults plan frames results → line ≡ line_of plan results → Demonstrates plan line
demonstrates plan frames results line can (octets, sent, are) is =
    let of_plan = demo_line plan frames octets results line sent.of_plan sent.passed are is in
    record { of_plan = of_plan; noiseless = noiseless_returns plan line can of_plan }
