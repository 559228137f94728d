use Rattle.ht_files.proofs.FrameRoutes.{frames_files}
use Rattle.ht_files.proofs.laws.frame_files.Goals as goal

pub returns : goal.returns
returns c = frames_files
