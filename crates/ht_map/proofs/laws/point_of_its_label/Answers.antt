use Rattle.ht_map.proofs.LabelFacts.{point_of-label_of}
use Rattle.ht_map.proofs.laws.point_of_its_label.Goals as goal

pub returns-clause-below : goal.returns-clause-below
returns-clause-below c = (point_of-label_of c.args.modulation c.args.point c.args.label c.requires).0
