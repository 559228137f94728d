use Rattle.std.specs.Prelude.{◌≡◌, ◌++◌}
use Rattle.ht_many.specs.Apart.{captures_in}
use Rattle.ht_many.proofs.apart.unreceived.Given as goal

abbrev pub invariant-loop-capture : goal.invariant-loop-capture
invariant-loop-capture l = captures_in l.all.items ++ l.capture-iterator.rest.items ≡ l.fn.captures.items
