use Rattle.std.proofs.Common.{◌≡◌, ◌*◌, map, vec_capacity}
use Rattle.std.specs.List.{range_with_len}
use Rattle.ht_parse.specs.Streams.{share_of}
use Rattle.ht_inverse.specs.Shares.{known_at}
use Rattle.ht_inverse.proofs.share.Share.received.Given as goal

abbrev pub invariant-loop-symbol : goal.invariant-loop-symbol
invariant-loop-symbol g l = record {
  items : l.bits.items ≡ map (known_at (g.L.LabelValues.known l.labels) l.self.rate l.self.erased l.self.encoder)
      (range_with_len 0 (l.symbol * share_of l.self.rate));
  capacity : vec_capacity l.bits ≡ l.count;
}
