use Rattle.std.proofs.Common.{◌≡◌, ◌∙◌, ℕ, drop, arith, subst}
use Rattle.ht_weigh.specs.Leasts.{IsLowered}
use Rattle.ht_weigh.specs.Walks.{TellsBehind}
use Rattle.ht_weigh.proofs.Labels.{behind_more}
use Rattle.ht_weigh.proofs.streams.lower_streams.Goals as goal

pub loop-k-preserved : goal.loop-k-preserved
loop-k-preserved c = record {
  size = c.lower_stream.ensures.size ∙ c.loop-k.invariant.size;
  lowered = behind_more c.args.modulation (drop 2 c.args.levels.now) c.args.distance c.loop-k.k _ _ _ c.loop-k.auto.k
      c.loop-k.invariant.lowered c.lower_stream.ensures;
}

pub returns : goal.returns
returns c =
    let all : c.loop-k.k ≡ c.args.streams = omega (arith, c.loop-k-test.false, c.loop-k.auto.k-end, c.requires.some) in
    subst (λ (k : ℕ). IsLowered (TellsBehind c.args.modulation (drop 2 c.args.levels.now) c.args.distance k) c.args.leasts.now c.loop-k.leasts) all
    c.loop-k.invariant.lowered
