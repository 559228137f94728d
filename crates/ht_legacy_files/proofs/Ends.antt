-- From every state of a file of frames good fields lead to its end.
use Rattle.ht_fields.specs.Cases.{CanEnd}
use Rattle.ht_counted.proofs.FrameEnds.{behind_ends, seed_end}
use Rattle.ht_legacy_files.specs.HeadedFormats.{headed}
use Rattle.ht_legacy_files.specs.Formats.{framed, frames, framing}
use Rattle.ht_legacy_files.proofs.HeadEnds.{headed_can_end}
use Rattle.ht_legacy_files.proofs.Routes.{frames_framed}

pub frames_can_end : CanEnd frames
frames_can_end =
    headed_can_end framed (seed_end (headed framed) framing frames_framed) (behind_ends (headed framed) framing frames_framed)
