use Rattle.std.proofs.Common.{rules, drop, length-drop}
use Rattle.ht_io.proofs.Fronts.{not_ended}
use Rattle.ht_io.proofs.mem_source.MemSourceSource.read.Goals as goal

pub returns-then-spend-clause-fails : goal.returns-then-spend-clause-fails
returns-then-spend-clause-fails c = rw (← c.self.view_is) c.if-spend.ensures.found

pub returns-clause-ended : goal.returns-clause-ended
returns-clause-ended c =
    rw (← c.self.view_is) (not_ended c.room_for_both-count.result (drop c.self.inside.at c.self.inside.bytes.items)
    c.room_for_both-count.ensures.some (rw length-drop (search rules)))

pub returns-clause-full : goal.returns-clause-full
returns-clause-full c = rw (← c.self.view_is) (rw length-drop (search rules))
