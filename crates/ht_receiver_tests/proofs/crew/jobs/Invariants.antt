use Rattle.std.proofs.Common.{◌≡◌, length}
use Rattle.ht_crew.specs.Lists.{AreNumbered}
use Rattle.ht_receiver_tests.proofs.crew.jobs.Given as goal

abbrev pub invariant-loop-number : goal.invariant-loop-number
invariant-loop-number l = record {
  numbered : AreNumbered l.jobs.items;
  count : length l.jobs.items ≡ l.number;
}
