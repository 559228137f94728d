use Rattle.std.proofs.Common.{◌+◌, ◌≤◌, length}
use Rattle.ht_pool.specs.Callers.{IsSameCaller}
use Rattle.ht_receiver_tests.proofs.pool.lead.Given as goal

abbrev pub invariant-loop-number : goal.invariant-loop-number
invariant-loop-number g l = record {
  few : l.waiting ≤ l.number;
  same : IsSameCaller l.fn.caller l.caller;
  due : length l.caller.given ≤ l.waiting + (length l.caller.taken + length l.caller.answers);
}

abbrev pub invariant-loop : goal.invariant-loop
invariant-loop g l = record {
  same : IsSameCaller l.fn.caller l.caller;
  due : length l.caller.given ≤ l.waiting + (length l.caller.taken + length l.caller.answers);
}
