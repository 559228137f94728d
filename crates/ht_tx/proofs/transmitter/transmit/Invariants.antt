-- The points of the symbols so far.
use Rattle.std.proofs.Common.{◌≡◌, ◌*◌, vec_len, vec_capacity, length}
use Rattle.ht_rate.specs.Rates.{streams_of, carriers_of, symbols_of}
use Rattle.ht_tx.specs.Sources.{AreCarried}
use Rattle.ht_tx.proofs.transmitter.transmit.Given as goal

abbrev pub invariant-loop-symbol : goal.invariant-loop-symbol
invariant-loop-symbol l = record {
  count : vec_len l.points ≡ l.symbol * carriers_of l.frame.rate * streams_of l.frame.rate;
  capacity : vec_capacity l.points ≡ symbols_of l.frame.rate (length l.frame.octets) * carriers_of l.frame.rate * streams_of l.frame.rate;
  carried : AreCarried l.frame l.points.items;
}
