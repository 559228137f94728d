use Rattle.ht_soft_rx.proofs.Listed.{first_points, points_are, some_stream}
use Rattle.ht_soft_rx.proofs.weighing.all_points.Goals as goal

pub returns : goal.returns
returns c =
    let made = c.grid-full.ensures in
    points_are c.i_ladder.result c.q_ladder.result _ _ c.i_ladder.ensures.value c.q_ladder.ensures.value
    (first_points c.args.rate.now c.grid-full.result made (some_stream c.args.rate.now c.grid-full.result made))
