use Rattle.ht_scramble.proofs.Shifts.{next_bit-is}
use Rattle.ht_scramble.proofs.scrambler.next_bit.Goals as goal

pub returns : goal.returns
returns c = λ seed t is. next_bit-is c.args.register seed t c.requires is
