use Rattle.std.proofs.lemmas.List.Elements.{recursion_from_All}
use Rattle.ht_certify.proofs.Accepting.{Holds, accepts}
use Rattle.ht_certify.proofs.check_laws.accepted.Goals as goal

pub returns : goal.returns
returns c = λ octets records file all. accepts octets records file (recursion_from_All Holds records all)
