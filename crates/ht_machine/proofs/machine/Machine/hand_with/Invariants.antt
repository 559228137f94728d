use Rattle.std.proofs.Common.{◌≡◌, drop}
use Rattle.std.specs.List.{flat_map}
use Rattle.std.specs.Option.{option_to_list}
use Rattle.ht_machine.specs.Facts.{numbered}
use Rattle.ht_machine.proofs.machine.Machine.hand_with.Given as goal

-- no hand so far has a job of the number
abbrev pub invariant-loop-actor : goal.invariant-loop-actor
invariant-loop-actor l = numbered l.number (flat_map option_to_list (drop l.actor l.self-inside.hands.items))
    ≡ numbered l.number (flat_map option_to_list l.self-inside.hands.items)
