use Rattle.std.proofs.lemmas.List.Elements.{All-from_recursion}
use Rattle.ht_capture.specs.Captures.{capture_of}
use Rattle.ht_certify.specs.Certifying.{certified}
use Rattle.ht_certify.proofs.Holding.{Holds, all_hold}
use Rattle.ht_certify.proofs.laws.checked.Goals as goal

pub returns : goal.returns
returns c = λ octets. All-from_recursion Holds (certified octets) (all_hold (capture_of octets).items)
