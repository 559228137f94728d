use Rattle.ht_machine.proofs.Shows.{window_is}
use Rattle.ht_machine.proofs.window_laws.is_window.Goals as goal

pub returns : goal.returns
returns c = window_is
