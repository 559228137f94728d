use Rattle.std.proofs.Common.{◌<◌, ◌≤◌, arith}
use Rattle.ht_rate.specs.Rates.{carriers_of}
use Rattle.ht_inverse.proofs.Lost.{lost-all, lost-more}
use Rattle.ht_inverse.proofs.erasures.lost_carriers.Goals as goal

pub loop-index-preserved : goal.loop-index-preserved
loop-index-preserved c =
    let below = c.loop-index-test.true in
    let all = c.carriers-index-end.ensures.value in
    let within : c.loop-index.index < carriers_of c.args.rate.now = omega (arith, below, all) in
    lost-more c.args.rate.now c.args.erased c.loop-index.index c.carrier.result c.is_marked.result c.loop-index.lost c.mark.new.lost
    within c.carrier.ensures.value c.is_marked.ensures c.mark.ensures.here c.mark.ensures.others c.loop-index.invariant

pub returns : goal.returns
returns c =
    let end = c.loop-index-test.false in
    let all = c.carriers-index-end.ensures.value in
    let reached : carriers_of c.args.rate.now ≤ c.loop-index.index = omega (arith, end, all) in
    lost-all c.args.rate.now c.args.erased c.loop-index.index c.loop-index.lost reached c.loop-index.invariant
