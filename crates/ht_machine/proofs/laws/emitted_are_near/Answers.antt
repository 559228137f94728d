use Rattle.ht_machine.proofs.Nearest.{emitted_are_near}
use Rattle.ht_machine.proofs.laws.emitted_are_near.Goals as goal

pub returns : goal.returns
returns c = emitted_are_near
