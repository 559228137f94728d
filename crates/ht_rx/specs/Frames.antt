-- What is booked of the frames of a capture.
use Rattle.std.specs.Prelude.{ℕ, List}
use Rattle.std.specs.List.{flat_map}
use Rattle.ht_results.specs.declared.frame_result.FrameResult.{FrameResult}
use Rattle.ht_results.specs.Results.{results_of}

-- what is booked in all of a list of octets, where this is booked of each result
abbrev pub booked_of : {P : Type 0} → (FrameResult → List P) → List ℕ → List P
booked_of booked octets = flat_map booked (results_of octets)
