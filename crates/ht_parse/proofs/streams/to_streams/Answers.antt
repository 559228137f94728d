use Rattle.std.proofs.Common.{◌≡◌, ◌*◌, length, arith, ap, subst, ◌∙◌}
use Rattle.ht_rate.specs.declared.rates.Rate.{Rate}
use Rattle.ht_rate.specs.Rates.{coded_bits_of}
use Rattle.ht_parse.specs.Groups.{FollowsRule, laid_bit}
use Rattle.ht_parse.proofs.Sizes.{sizes-symbol}
use Rattle.ht_parse.proofs.Whole.{laid-whole}
use Rattle.ht_parse.proofs.streams.to_streams.Goals as goal

pub returns : goal.returns
returns c =
    let layout = c.of-layout.result in
    let symbol = sizes-symbol _ _ _ _ _ layout.sizes in
    let done : c.loop-stream.stream ≡ layout.streams = omega arith in
    let turned : c.loop-stream.stream * layout.rounds * layout.encoders * layout.group
    ≡ layout.streams * layout.rounds * layout.encoders * layout.group =
    ap (λ n. n * layout.rounds * layout.encoders * layout.group) done in
    let whole : length c.loop-stream.bits.items ≡ coded_bits_of layout.rate =
    omega (arith, symbol, turned, c.loop-stream.invariant.count, c.loop-stream.bits.ok.0) in
    laid-whole c.args.rate.now c.loop-stream.bits.items c.args.first.now c.args.second.now
    (whole ∙ ap coded_bits_of c.of-layout.ensures) c.requires.share c.requires.shares
    (subst (λ (r : Rate). FollowsRule (laid_bit r c.args.first.now c.args.second.now) c.loop-stream.bits.items)
    c.of-layout.ensures c.loop-stream.invariant.laid)
