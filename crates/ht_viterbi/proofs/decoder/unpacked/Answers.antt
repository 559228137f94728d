use Rattle.std.proofs.Common.{◌≡◌, ◌∙◌, ◌+◌, ◌++◌, [], ◌∷◌, List, Bool, Option, Some, ap, sym, map, arith}
use Rattle.std.proofs.lemmas.List.{map-append}
use Rattle.ht_viterbi.specs.declared.received_bit.ReceivedBit.{ReceivedBit}
use Rattle.ht_viterbi.specs.Packed.{packed}
use Rattle.ht_viterbi.specs.Received.{known_of}
use Rattle.ht_viterbi.proofs.Packing.{packed-more, packed-none}
use Rattle.ht_viterbi.proofs.decoder.unpacked.Goals as goal

pub loop-place-init : goal.loop-place-init
loop-place-init c = record {
  items = ap (map known_of) c.in_ok-bits.ensures.items ∙ sym (packed-none c.args.words.now);
  count = c.in_ok-bits.ensures.len;
  room = c.in_ok-bits.ensures.capacity;
}

pub loop-place-preserved : goal.loop-place-preserved
loop-place-preserved c =
    let was = c.loop-place.invariant in
    let words = c.args.words.now in
    let added = c.of.result in
    record {
      items = ap (map known_of) c.push_reserved.ensures.items
          ∙ (map-append known_of c.loop-place.bits.items (added ∷ [])
          ∙ (ap (λ (z : List (Option Bool)). z ++ known_of added ∷ []) was.items
          ∙ (ap (λ (z : Option Bool). packed words c.loop-place.place ++ z ∷ []) (c.of.ensures ∙ ap (λ (b : Bool). Some b) c.is_one.ensures)
          ∙ sym (packed-more words c.loop-place.place))));
      count = omega (arith, was.count, c.push_reserved.ensures.len);
      room = omega (arith, was.room, c.push_reserved.ensures.capacity);
    }
