use Rattle.std.proofs.Common.{arith, sym, ◌∙◌}
use Rattle.ht_parse.proofs.Laid.{gathered-step, size-more}
use Rattle.ht_parse.proofs.Places.{group-within}
use Rattle.ht_parse.proofs.Sizes.{sizes-share}
use Rattle.ht_parse.proofs.streams.push_gathered_round.Goals as goal

pub push_group-requires-clause-room : goal.push_group-requires-clause-room
push_group-requires-clause-room c =
    let was = c.loop-stream.invariant in
    omega (
      arith,
      sizes-share _ _ _ _ _ c.args.layout.now.sizes,
      group-within c.args.layout.now.streams c.args.layout.now.group c.args.layout.now.rounds
          c.args.round c.loop-stream.stream c.loop-stream-test.true c.requires.round,
      was.size.count,
      was.size.capacity,
    )

pub loop-stream-preserved : goal.loop-stream-preserved
loop-stream-preserved c = record {
  size =
      size-more _ _ _ _ c.args.layout.now.group _ _ _ c.loop-stream.invariant.size
      c.push_group.ensures.len c.push_group.ensures.capacity (omega arith);
  gathered =
      gathered-step c.args.layout.now.rate c.args.layout.now.encoders c.args.layout.now.streams
      c.args.layout.now.group c.args.layout.now.rounds c.loop-stream.stream c.args.round c.args.encoder
      c.place.result _ c.args.bits.now c.loop-stream.gathered.items c.push_group.new.bits.items c.args.layout.now.sizes c.loop-stream-test.true
      c.place.ensures.value c.loop-stream.invariant.size.count (sym c.loop-stream.gathered.ok.0)
      (sym c.push_group.new.bits.ok.0 ∙ c.push_group.ensures.len)
      c.push_group.ensures.kept c.push_group.ensures.copied c.loop-stream.invariant.gathered;
}
