use Rattle.ht_parse.proofs.Unique.{laid-bits, laid-lists}
use Rattle.ht_parse.proofs.laws.laid_both_ways.Goals as goal

pub returns-clause-bits : goal.returns-clause-bits
returns-clause-bits c = laid-bits

pub returns-clause-lists : goal.returns-clause-lists
returns-clause-lists c = laid-lists
