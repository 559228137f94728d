use Rattle.ht_rounding.proofs.Answered.{second-few, third-few}
use Rattle.ht_rounding.specs.InLanes.{point_at}
use Rattle.ht_rounding.proofs.block.found_at.Goals as goal

pub point-requires-then-streams-gt1-clause-few : goal.point-requires-then-streams-gt1-clause-few
point-requires-then-streams-gt1-clause-few c =
    let f = c.args.found.now in
    let k = c.args.k in
    second-few c.args.streams (point_at f.first k) (point_at f.second k) (point_at f.third k) (point_at f.fourth k) c.if-streams-gt1.true c.requires.few

pub point-requires-then-streams-gt2-clause-few : goal.point-requires-then-streams-gt2-clause-few
point-requires-then-streams-gt2-clause-few c =
    let f = c.args.found.now in
    let k = c.args.k in
    third-few c.args.streams (point_at f.first k) (point_at f.second k) (point_at f.third k) (point_at f.fourth k) c.if-streams-gt2.true c.requires.few
