use Rattle.std.proofs.Common.{◌∙◌, ◌+◌, arith}
use Rattle.ht_inverse.specs.Shares.{label_bit_of}
use Rattle.ht_inverse.proofs.Gathered.{value-added}
use Rattle.ht_inverse.proofs.share.first_places.Goals as goal

pub loop-i-preserved : goal.loop-i-preserved
loop-i-preserved c =
    let h = c.loop-i.invariant in
    let len = h.len_is in
    let place = c.place_of_bit.ensures c.args.erased c.lost_carriers-lost.ensures in
    let rule = label_bit_of c.args.rate.now c.args.erased c.args.encoder in
    record {
      items = c.push_reserved.ensures.items
          ∙ value-added rule c.loop-i.places.items c.place_of_bit.result c.loop-i.i (c.loop-i.i + 1) place (omega arith) h.items;
      len_is = omega (arith, len, c.push_reserved.ensures.len);
      capacity = c.push_reserved.ensures.capacity ∙ h.capacity;
    }
