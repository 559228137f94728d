use Rattle.ht_clause18.proofs.Sent.{sent_points-at, length-sent_points}
use Rattle.ht_clause18.proofs.laws.sent_point.Goals as goal

pub returns : goal.returns
returns c = record { place = sent_points-at; length = length-sent_points }
