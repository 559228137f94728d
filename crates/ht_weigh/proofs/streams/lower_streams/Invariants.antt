use Rattle.std.proofs.Common.{◌≡◌, length, drop}
use Rattle.ht_weigh.specs.Leasts.{IsLowered}
use Rattle.ht_weigh.specs.Walks.{TellsBehind}
use Rattle.ht_weigh.proofs.streams.lower_streams.Given as goal

abbrev pub invariant-loop-k : goal.invariant-loop-k
invariant-loop-k l = record {
  size : length l.leasts ≡ 48;
  lowered : IsLowered (TellsBehind l.fn.modulation (drop 2 l.fn.levels) l.fn.distance l.k) l.fn.leasts l.leasts;
}
