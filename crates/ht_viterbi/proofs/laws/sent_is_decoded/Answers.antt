use Rattle.ht_viterbi.proofs.Orders.{sent-decoded, distance-sent}
use Rattle.ht_viterbi.proofs.laws.sent_is_decoded.Goals as goal

pub returns-clause-answer : goal.returns-clause-answer
returns-clause-answer c = sent-decoded

pub returns-clause-distance : goal.returns-clause-distance
returns-clause-distance c = distance-sent
