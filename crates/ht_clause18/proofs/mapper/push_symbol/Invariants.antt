-- The points of the subcarriers so far.
use Rattle.std.proofs.Common.{◌≡◌, ◌+◌, ◌++◌, map, vec_len, vec_capacity}
use Rattle.std.specs.List.{range_with_len}
use Rattle.ht_clause18.specs.Carriers.{carrier_of}
use Rattle.ht_clause18.specs.Interleaver.{interleaved}
use Rattle.ht_clause18.specs.Points.{carried}
use Rattle.ht_clause18.proofs.mapper.push_symbol.Given as goal

abbrev pub invariant-loop-index : goal.invariant-loop-index
invariant-loop-index l = record {
  items : l.points.items
      ≡ l.fn.points.items ++ map (λ index. carried l.rate (interleaved l.rate l.bits) l.symbol (carrier_of index)) (range_with_len 0 l.index);
  count : vec_len l.points ≡ vec_len l.fn.points + l.index;
  capacity : vec_capacity l.points ≡ vec_capacity l.fn.points;
}
