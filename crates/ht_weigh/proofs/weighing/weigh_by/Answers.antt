use Rattle.std.proofs.Common.{ap}
use Rattle.ht_metric.specs.declared.found.Found.{Found}
use Rattle.ht_weigh.proofs.weighing.weigh_by.Goals as goal

pub weigh_from-requires-clause-least : goal.weigh_from-requires-clause-least
weigh_from-requires-clause-least g c = ap (λ (f : Found). f.distance) c.find-least.ensures.found

pub returns-clause-distance : goal.returns-clause-distance
returns-clause-distance g c = ap (λ (f : Found). f.distance) c.find-least.ensures.found
