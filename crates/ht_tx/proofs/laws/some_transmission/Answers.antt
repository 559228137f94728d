use Rattle.ht_tx.proofs.Exists.{all_some_sent, some_sent}
use Rattle.ht_tx.proofs.laws.some_transmission.Goals as goal

pub returns : goal.returns
returns c = record { each = some_sent; all = all_some_sent }
