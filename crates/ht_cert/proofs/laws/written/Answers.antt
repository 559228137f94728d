use Rattle.ht_cert.proofs.Filed.{file_written}
use Rattle.ht_cert.proofs.laws.written.Goals as goal

pub returns : goal.returns
returns c = file_written
