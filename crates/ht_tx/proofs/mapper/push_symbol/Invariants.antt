-- The points of the subcarriers so far.
use Rattle.std.proofs.Common.{◌≡◌, ◌+◌, ◌*◌, vec_len, vec_capacity}
use Rattle.ht_rate.specs.Rates.{streams_of, carriers_of}
use Rattle.ht_tx.specs.Sources.{AreCarried}
use Rattle.ht_tx.proofs.mapper.push_symbol.Given as goal

abbrev pub invariant-loop-index : goal.invariant-loop-index
invariant-loop-index l = record {
  count : vec_len l.points ≡ (l.symbol * carriers_of l.frame.rate + l.index) * streams_of l.frame.rate;
  capacity : vec_capacity l.points ≡ vec_capacity l.fn.points;
  carried : AreCarried l.frame l.points.items;
}
