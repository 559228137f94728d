use Rattle.std.proofs.Common.{◌≡◌, length, arith, sym, ap, ◌∙◌}
use Rattle.ht_parse.specs.Encoders.{list_of}
use Rattle.ht_parse.specs.Streams.{share_of}
use Rattle.ht_parse.proofs.Laid.{length-list_of, laid-step, size-more}
use Rattle.ht_parse.proofs.Places.{place-within}
use Rattle.ht_parse.proofs.Sizes.{sizes-symbol}
use Rattle.ht_parse.proofs.streams.push_laid_round.Goals as goal

pub push_group-requires-clause-within : goal.push_group-requires-clause-within
push_group-requires-clause-within c =
    let here = c.args.layout.now.sizes.encoders_is in
    let test = c.loop-encoder-test.true in
    let share : length (list_of c.args.first.now c.args.second.now c.loop-encoder.encoder) ≡ share_of c.args.layout.now.rate =
    length-list_of c.args.layout.now.rate c.args.first.now c.args.second.now
    (share_of c.args.layout.now.rate) c.loop-encoder.encoder c.requires.share c.requires.shares (omega arith) in
    omega (arith, c.bit-at.ensures.within, share, ap length c.of_encoder.ensures)

pub push_group-requires-clause-room : goal.push_group-requires-clause-room
push_group-requires-clause-room c =
    let l = c.args.layout.now in
    omega (
      arith,
      sizes-symbol _ _ _ _ _ l.sizes,
      place-within l.encoders l.streams l.group l.rounds c.args.stream c.args.round c.loop-encoder.encoder
          c.requires.stream c.requires.round c.loop-encoder-test.true,
      c.loop-encoder.invariant.size.count,
      c.loop-encoder.invariant.size.capacity,
    )

pub loop-encoder-preserved : goal.loop-encoder-preserved
loop-encoder-preserved c = record {
  size =
      size-more _ _ _ _ c.args.layout.now.group _ _ _ c.loop-encoder.invariant.size
      c.push_group.ensures.len c.push_group.ensures.capacity (omega arith);
  laid =
      laid-step c.args.layout.now.rate c.args.layout.now.encoders c.args.layout.now.streams
      c.args.layout.now.group c.args.layout.now.rounds c.args.stream c.args.round c.loop-encoder.encoder
      c.bit-at.result _ c.args.first.now c.args.second.now c.of_encoder.result.now c.loop-encoder.bits.items
      c.push_group.new.bits.items c.args.layout.now.sizes c.requires.round c.loop-encoder-test.true
      c.of_encoder.ensures c.bit-at.ensures.value c.loop-encoder.invariant.size.count
      (sym c.loop-encoder.bits.ok.0) (sym c.push_group.new.bits.ok.0 ∙ c.push_group.ensures.len)
      c.push_group.ensures.kept c.push_group.ensures.copied c.loop-encoder.invariant.laid;
}
