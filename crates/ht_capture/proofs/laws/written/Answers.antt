use Rattle.ht_capture.proofs.Filed.{file_written}
use Rattle.ht_capture.proofs.laws.written.Goals as goal

pub returns : goal.returns
returns c = λ version frames w. file_written version frames w.1 w.2 w.0
