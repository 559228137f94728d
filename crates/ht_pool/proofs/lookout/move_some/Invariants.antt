use Rattle.std.proofs.Common.{◌≡◌, None, length}
use Rattle.ht_pool.specs.Takers.{Gets}
use Rattle.ht_pool.proofs.lookout.move_some.Given as goal

abbrev pub invariant-loop-turn : goal.invariant-loop-turn
invariant-loop-turn g l = record {
  same : length l.takers ≡ length l.fn.takers;
  gets : Gets l.fn.takers l.fn.own l.takers l.own None;
}
