use Rattle.std.proofs.Common.{◌≡◌, [], replicate}
use Rattle.ht_machine.proofs.machine.deques.Given as goal

abbrev pub invariant-loop : goal.invariant-loop
invariant-loop l = l.deques.items ≡ replicate l.counter []
