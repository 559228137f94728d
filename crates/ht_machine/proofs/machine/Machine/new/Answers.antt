use Rattle.ht_machine.proofs.Going.{empty_machine}
use Rattle.ht_machine.proofs.machine.Machine.new.Goals as goal

pub invariant_of-result : goal.invariant_of-result
invariant_of-result c =
    rw (c.in_ok-hands.ensures, c.in_ok-deques.ensures, c.new.ensures.items, c.new-2.ensures.items, c.new-3.ensures.items, c.new-4.ensures.items)
    (empty_machine c.args.workers c.args.window c.requires.some c.requires.few c.requires.wide c.requires.narrow)

pub returns-clause-machine : goal.returns-clause-machine
returns-clause-machine c =
    rw (c.in_ok-hands.ensures, c.in_ok-deques.ensures, c.new.ensures.items, c.new-2.ensures.items, c.new-3.ensures.items, c.new-4.ensures.items)
    (empty_machine c.args.workers c.args.window c.requires.some c.requires.few c.requires.wide c.requires.narrow)
