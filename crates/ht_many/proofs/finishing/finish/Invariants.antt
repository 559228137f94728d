-- The first captures have their last lines.
use Rattle.ht_many.proofs.LastLines.{SoFar}
use Rattle.ht_many.proofs.finishing.finish.Given as goal

abbrev pub invariant-loop-at : goal.invariant-loop-at
invariant-loop-at g l = SoFar g.K.Sink.shown l.answers l.fn.sinks l.sinks l.at l.ends.items
