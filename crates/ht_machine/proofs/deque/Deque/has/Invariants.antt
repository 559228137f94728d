use Rattle.std.proofs.Common.{◌≡◌, drop}
use Rattle.ht_machine.specs.Facts.{numbered}
use Rattle.ht_machine.proofs.deque.Deque.has.Given as goal

-- none of the jobs so far has the number
abbrev pub invariant-loop-at : goal.invariant-loop-at
invariant-loop-at l = numbered l.number (drop l.at l.self) ≡ numbered l.number l.self
