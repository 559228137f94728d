use Rattle.ht_tx.proofs.Single.{all_transmitted, one_transmitted}
use Rattle.ht_tx.proofs.laws.one_transmission.Goals as goal

pub returns : goal.returns
returns c = record { one = one_transmitted; all = all_transmitted }
