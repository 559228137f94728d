use Rattle.ht_legacy_return.proofs.Passed.{file_holds}
use Rattle.ht_legacy_return.proofs.laws.files_hold_octets.Goals as goal

pub returns : goal.returns
returns c = file_holds
