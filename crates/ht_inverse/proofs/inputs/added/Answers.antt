use Rattle.std.proofs.lemmas.Nat.{xor_lt}
use Rattle.ht_clean.proofs.Flags.{flag-xor}
use Rattle.ht_inverse.proofs.inputs.added.Goals as goal

pub returns-clause-bits : goal.returns-clause-bits
returns-clause-bits c = λ k. flag-xor c.args.octet c.args.sequence k

pub returns-clause-bound : goal.returns-clause-bound
returns-clause-bound c = xor_lt 8 c.args.octet c.args.sequence c.ranges.octet.fits c.ranges.sequence.fits
