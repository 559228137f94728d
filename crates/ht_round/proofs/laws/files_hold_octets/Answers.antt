use Rattle.ht_round.proofs.Octets.{file_octets}
use Rattle.ht_round.proofs.laws.files_hold_octets.Goals as goal

pub returns : goal.returns
returns c = file_octets
