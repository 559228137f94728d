use Rattle.std.proofs.Common.{◌≡◌, ◌*◌, arith, ap, ◌∙◌}
use Rattle.ht_parse.proofs.Filled.{follows-none}
use Rattle.ht_parse.proofs.Sizes.{sizes-share}
use Rattle.ht_parse.proofs.streams.gathered.Goals as goal

pub loop-round-init : goal.loop-round-init
loop-round-init c = record {
  count = c.in_ok-gathered.ensures.len ∙ omega arith;
  capacity = c.in_ok-gathered.ensures.exact ∙ c.share.ensures;
  gathered = follows-none _ _ c.in_ok-gathered.ensures.items;
}

pub returns-clause-len : goal.returns-clause-len
returns-clause-len c =
    let whole = sizes-share _ _ _ _ _ c.args.layout.now.sizes in
    let done : c.loop-round.round ≡ c.args.layout.now.rounds = omega arith in
    let turned : c.loop-round.round * c.args.layout.now.streams * c.args.layout.now.group
    ≡ c.args.layout.now.rounds * c.args.layout.now.streams * c.args.layout.now.group =
    ap (λ n. n * c.args.layout.now.streams * c.args.layout.now.group) done in
    omega (arith, whole, turned, c.loop-round.invariant.count, c.loop-round.gathered.ok.0)
