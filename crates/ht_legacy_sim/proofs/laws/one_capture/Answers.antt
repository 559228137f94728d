use Rattle.std.proofs.Common.{◌≡◌, ℕ, List, sym, ap, ◌∙◌}
use Rattle.ht_clause18.specs.Frames.{LegacyFrameView}
use Rattle.ht_legacy_files.proofs.Routes.{frames_same}
use Rattle.ht_legacy_files.specs.CaptureFiles.{captures_file_of}
use Rattle.ht_legacy_sim.specs.Drawing.{captures_of}
use Rattle.ht_legacy_sim.specs.Passing.{PassesTo}
use Rattle.ht_legacy_sim.proofs.laws.one_capture.Goals as goal

one : (seed noise : ℕ) (octets first second : List ℕ) → PassesTo seed noise octets first → PassesTo seed noise octets second → first ≡ second
one seed noise octets first second (frames, are, is, passed) (others, also, same, made) =
    let frames_are : frames ≡ others = frames_same frames others are also (sym is ∙ same) in
    passed ∙ (ap (λ (z : List LegacyFrameView). captures_file_of (captures_of seed noise z)) frames_are ∙ sym made)

pub returns : goal.returns
returns c = one
