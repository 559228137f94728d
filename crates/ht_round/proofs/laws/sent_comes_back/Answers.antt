use Rattle.ht_round.proofs.Back.{sent_comes_back}
use Rattle.ht_round.proofs.laws.sent_comes_back.Goals as goal

pub returns : goal.returns
returns c = sent_comes_back
