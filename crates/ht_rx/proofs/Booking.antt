-- The lines of frames are what is booked of them.
use Rattle.std.proofs.Common.{◌≡◌, ℕ, List, Result, MatchResult}
use Rattle.std.proofs.Common.{refl, subst}
use Rattle.ht_io.specs.Devices.{Device}
use Rattle.ht_feed.specs.declared.ended.Ended.{Ended}
use Rattle.ht_runs.specs.declared.faults.RunFault.{RunFault}
use Rattle.ht_results.specs.Texts.{frame_lines_of, result_line}
use Rattle.ht_rx.specs.Frames.{booked_of}
use Rattle.ht_rx.specs.Outcomes.{StopsBy, TellsTo}

pub lines_booked : booked_of result_line ≡ frame_lines_of
unfolding frame_lines_of
lines_booked = refl

pub lines_told : (result : Result Ended RunFault) (source source' sink sink' : Device ℕ)
    → MatchResult result (TellsTo (booked_of result_line) source source' sink sink') (StopsBy (booked_of result_line) source source' sink sink')
    → MatchResult result (TellsTo frame_lines_of source source' sink sink') (StopsBy frame_lines_of source source' sink sink')
lines_told result source source' sink sink' told =
    subst (λ (f : List ℕ → List ℕ). MatchResult result (TellsTo f source source' sink sink') (StopsBy f source source' sink sink')) lines_booked told
