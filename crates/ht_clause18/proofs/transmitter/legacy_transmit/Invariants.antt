-- The points of the symbols so far.
use Rattle.std.proofs.Common.{◌≡◌, ◌*◌, vec_len, vec_capacity, length}
use Rattle.std.specs.List.{flat_map, range_with_len}
use Rattle.ht_clause18.specs.Carriers.{carriers}
use Rattle.ht_clause18.specs.Coded.{symbol_bits}
use Rattle.ht_clause18.specs.Points.{symbol_points}
use Rattle.ht_clause18.specs.Rates.{symbols_of}
use Rattle.ht_clause18.proofs.transmitter.legacy_transmit.Given as goal

abbrev pub invariant-loop-symbol : goal.invariant-loop-symbol
invariant-loop-symbol l = record {
  items : l.points.items ≡ flat_map (λ n. symbol_points l.frame.rate (symbol_bits l.frame n) n) (range_with_len 0 l.symbol);
  count : vec_len l.points ≡ l.symbol * carriers;
  capacity : vec_capacity l.points ≡ symbols_of l.frame.rate (length l.frame.octets) * carriers;
}
