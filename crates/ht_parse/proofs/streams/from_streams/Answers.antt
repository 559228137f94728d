use Rattle.std.proofs.Common.{arith, ◌∙◌}
use Rattle.ht_parse.proofs.Sizes.{sizes-low}
use Rattle.ht_parse.proofs.Whole.{gathered-one, gathered-two}
use Rattle.ht_parse.proofs.streams.from_streams.Goals as goal

pub gathered-requires-clause-encoder : goal.gathered-requires-clause-encoder
gathered-requires-clause-encoder c = (sizes-low _ _ _ _ _ c.of-layout.result.sizes).0

pub gathered-requires-2-clause-encoder : goal.gathered-requires-2-clause-encoder
gathered-requires-2-clause-encoder c = omega (arith, (sizes-low _ _ _ _ _ c.of-layout.result.sizes).0)

pub returns-then-layout-eq1 : goal.returns-then-layout-eq1
returns-then-layout-eq1 c =
    gathered-one c.args.rate.now c.of-layout.result.rate _ _ _ _ c.args.bits.now _ _
    c.in_ok-first.first.items c.of-layout.result.sizes c.of-layout.ensures c.if-layout-eq1.true
    c.from.ensures (c.from-then-layout-eq1.ensures ∙ c.new.ensures.items) c.requires c.in_ok-first.ensures.len c.in_ok-first.ensures.gathered

pub returns : goal.returns
returns c =
    gathered-two c.args.rate.now c.of-layout.result.rate _ _ _ _ c.args.bits.now _ _ c.in_ok-first.first.items
    c.in_ok-second.second.items c.of-layout.result.sizes c.of-layout.ensures c.if-layout-eq1.false
    c.from-2.ensures c.from-3.ensures c.requires c.in_ok-first.ensures.len
    c.in_ok-second.ensures.len c.in_ok-first.ensures.gathered c.in_ok-second.ensures.gathered
