use Rattle.std.proofs.Common.{◌≡◌, replicate}
use Rattle.ht_many.proofs.Texts.{nothing_held}
use Rattle.ht_many.proofs.bundle.sinks_of.Given as goal

-- this many sinks were made
abbrev pub invariant-loop-index : goal.invariant-loop-index
invariant-loop-index l = l.sinks.items ≡ replicate l._index nothing_held
