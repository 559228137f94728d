use Rattle.std.proofs.Common.{◌≡◌, ◌++◌}
use Rattle.ht_many.proofs.bundle.sources_of.Given as goal

-- the sources so far are of the captures that came
abbrev pub invariant-loop-capture : goal.invariant-loop-capture
invariant-loop-capture l = (l.sources.items ≡ l.yielded) × (l.yielded ++ l.capture-iterator.rest.items ≡ l.fn.captures.items)
