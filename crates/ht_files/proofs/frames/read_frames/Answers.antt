use Rattle.ht_files.proofs.FrameRoutes.{frames_framed}
use Rattle.ht_files.proofs.frames.read_frames.Goals as goal

pub read_framed-requires : goal.read_framed-requires
read_framed-requires g c = record { framing = frames_framed }
