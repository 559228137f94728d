use Rattle.std.proofs.Common.{rules}
use Rattle.ht_map.specs.Gray.{label_of}
use Rattle.ht_map.proofs.LabelFacts.{is_label, is_no_label}
use Rattle.ht_map.proofs.mapping.label.Goals as goal

pub returns-clause-on : goal.returns-clause-on
unfolding label_of
returns-clause-on c = is_label c.args.modulation c.args.point c.join.result (search rules)

pub returns-clause-off : goal.returns-clause-off
unfolding label_of
returns-clause-off c = is_no_label c.args.modulation c.args.point c.join.result (search rules)
