use Rattle.std.proofs.Common.{◌≡◌, ◌+◌, ◌*◌, map, vec_len, vec_capacity}
use Rattle.std.specs.List.{range_with_len}
use Rattle.ht_parse.specs.Streams.{share_of}
use Rattle.ht_inverse.specs.Shares.{known_at}
use Rattle.ht_inverse.proofs.share.Share.push_some.Given as goal

abbrev pub invariant-loop-k : goal.invariant-loop-k
invariant-loop-k g l = record {
  items : l.bits.items ≡ map (known_at (g.L.LabelValues.known l.labels) l.self.rate l.self.erased l.self.encoder)
      (range_with_len 0 (l.symbol * share_of l.self.rate + (l.from + l.k)));
  len : vec_len l.bits ≡ l.symbol * share_of l.self.rate + (l.from + l.k);
  capacity : vec_capacity l.bits ≡ vec_capacity l.fn.bits;
}
