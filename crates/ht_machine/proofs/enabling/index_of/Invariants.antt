use Rattle.std.proofs.Common.{◌≡◌, ◌+◌, drop}
use Rattle.std.specs.List.{position_or_len}
use Rattle.ht_machine.specs.Machine.{has_number}
use Rattle.ht_machine.proofs.enabling.index_of.Given as goal

-- none of the hits so far has the number
abbrev pub invariant-loop-at : goal.invariant-loop-at
invariant-loop-at l = l.at + position_or_len (has_number l.number) (drop l.at l.hits) ≡ position_or_len (has_number l.number) l.hits
