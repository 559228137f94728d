use Rattle.ht_machine.proofs.Kept.{kept_accept}
use Rattle.ht_machine.proofs.machine.Machine.accept.Goals as goal

pub invariant_of-self-2 : goal.invariant_of-self-2
invariant_of-self-2 c = rw (c.in_ok-hand_over.ensures.out, c.in_ok-hand_over.ensures.put) (kept_accept _ c.args.number c.self.invariant)
