use Rattle.std.specs.Prelude.{◌≡◌, ◌++◌}
use Rattle.ht_many.specs.Apart.{held_all, texts_in}
use Rattle.ht_many.proofs.apart.texts_of.Given as goal

abbrev pub invariant-loop-capture : goal.invariant-loop-capture
invariant-loop-capture l = held_all l.sinks.items ++ texts_in l.capture-iterator.rest.items ≡ texts_in l.fn.all.items
