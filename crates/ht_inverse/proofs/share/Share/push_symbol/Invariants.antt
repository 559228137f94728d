use Rattle.std.proofs.Common.{◌≡◌, ◌+◌, ◌*◌, map, vec_capacity}
use Rattle.std.specs.List.{range_with_len}
use Rattle.ht_parse.specs.Streams.{share_of}
use Rattle.ht_inverse.specs.Shares.{known_at}
use Rattle.ht_inverse.proofs.share.Share.push_symbol.Given as goal

abbrev pub invariant-loop-turn : goal.invariant-loop-turn
invariant-loop-turn g l = record {
  items : l.bits.items ≡ map (known_at (g.L.LabelValues.known l.labels) l.self.rate l.self.erased l.self.encoder)
      (range_with_len 0 (l.symbol * share_of l.self.rate + 8 * l.turn));
  capacity : vec_capacity l.bits ≡ vec_capacity l.fn.bits;
}
