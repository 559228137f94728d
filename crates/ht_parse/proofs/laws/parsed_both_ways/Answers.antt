use Rattle.ht_parse.proofs.Unique.{parsed-bits, parsed-lists}
use Rattle.ht_parse.proofs.laws.parsed_both_ways.Goals as goal

pub returns-clause-bits : goal.returns-clause-bits
returns-clause-bits c = parsed-bits

pub returns-clause-lists : goal.returns-clause-lists
returns-clause-lists c = parsed-lists
