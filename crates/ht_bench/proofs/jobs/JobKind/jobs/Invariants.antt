use Rattle.std.proofs.Common.{◌≡◌, length}
use Rattle.ht_bench.proofs.jobs.JobKind.jobs.Given as goal

abbrev pub invariant-loop : goal.invariant-loop
invariant-loop l = length l.jobs.items ≡ l.counter
