use Rattle.ht_files.proofs.FrameRoutes.{one_sent}
use Rattle.ht_files.proofs.laws.one_file_sent.Goals as goal

pub returns : goal.returns
returns c = one_sent
