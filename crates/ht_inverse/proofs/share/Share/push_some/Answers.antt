use Rattle.std.proofs.Common.{◌≡◌, ◌∙◌, ℕ, ◌*◌, ◌+◌, length, map, ap, refl, arith}
use Rattle.std.specs.List.{range_with_len}
use Rattle.ht_parse.specs.Streams.{share_of}
use Rattle.ht_inverse.specs.Shares.{known_at}
use Rattle.ht_inverse.proofs.Gathered.{counted-length, value-added}
use Rattle.ht_inverse.proofs.share.Share.push_some.Goals as goal

pub loop-k-init : goal.loop-k-init
loop-k-init g c =
    let s = c.args.self.now in
    let f = known_at (g.L.LabelValues.known c.args.labels.now) s.rate s.erased s.encoder in
    let at = c.args.symbol * share_of s.rate + c.args.from in
    let none : at ≡ c.args.symbol * share_of s.rate + (c.args.from + 0) = omega arith in
    let long : length c.args.bits.now.items ≡ at = counted-length f c.args.bits.now.items at c.requires.so_far in
    record {
      items = c.requires.so_far ∙ ap (λ (n : ℕ). map f (range_with_len 0 n)) none;
      len = omega (arith, long);
      capacity = refl;
    }

pub loop-k-preserved : goal.loop-k-preserved
loop-k-preserved g c =
    let s = c.args.self.now in
    let was = c.loop-k.invariant in
    let at = c.args.symbol * share_of s.rate + (c.args.from + c.loop-k.k) in
    record {
      items = c.push_reserved.ensures.items
          ∙ value-added (known_at (g.L.LabelValues.known c.args.labels.now) s.rate s.erased s.encoder) c.loop-k.bits.items c.bit.result at
          (c.args.symbol * share_of s.rate + (c.args.from + (c.loop-k.k + 1))) c.bit.ensures (omega arith) was.items;
      len = omega (arith, was.len, c.push_reserved.ensures.len);
      capacity = c.push_reserved.ensures.capacity ∙ was.capacity;
    }
