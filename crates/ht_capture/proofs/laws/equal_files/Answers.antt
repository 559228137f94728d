use Rattle.ht_capture.proofs.Equal.{file_same}
use Rattle.ht_capture.proofs.laws.equal_files.Goals as goal

pub returns : goal.returns
returns c = λ version other frames others a b same. file_same version other frames others a.1 a.2 a.0 b.1 b.2 b.0 same
