use Rattle.ht_legacy_files.proofs.Routes.{frames_framed}
use Rattle.ht_legacy_files.proofs.frames.read_legacy_frames.Goals as goal

pub read_framed-requires : goal.read_framed-requires
read_framed-requires g c = record { framing = frames_framed }
