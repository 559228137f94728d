use Rattle.std.proofs.Common.{◌≡◌, drop}
use Rattle.std.specs.List.{flat_map}
use Rattle.ht_machine.specs.Facts.{numbered}
use Rattle.ht_machine.proofs.machine.Machine.deque_with.Given as goal

-- no deque so far has a job of the number
abbrev pub invariant-loop-actor : goal.invariant-loop-actor
invariant-loop-actor l = numbered l.number (flat_map (λ jobs. jobs) (drop l.actor l.self-inside.deques.items))
    ≡ numbered l.number (flat_map (λ jobs. jobs) l.self-inside.deques.items)
