use Rattle.ht_inverse.proofs.Descrambled.{first-octet, second-octet}
use Rattle.ht_inverse.proofs.inputs.sequence_from.Goals as goal

pub returns-clause-first : goal.returns-clause-first
returns-clause-first c = first-octet c.from-seven.result c.args.seven c.from-seven.ensures c.requires

pub returns-clause-second : goal.returns-clause-second
returns-clause-second c = second-octet c.from-seven.result c.args.seven c.from-seven.ensures c.requires
