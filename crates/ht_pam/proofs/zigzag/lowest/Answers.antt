use Rattle.ht_pam.proofs.EndTables.{ends}
use Rattle.ht_pam.proofs.zigzag.lowest.Goals as goal

pub returns-clause-within : goal.returns-clause-within
returns-clause-within c = (ends c.args.size c.args.mask c.requires.size c.requires.some c.requires.within).bottom_within

pub returns-clause-there : goal.returns-clause-there
returns-clause-there c = (ends c.args.size c.args.mask c.requires.size c.requires.some c.requires.within).bottom_in
