use Rattle.std.proofs.Common.{rules, ◌≤◌, ◌∙◌, length, take, get_or, arith, pos, ap}
use Rattle.std.specs.List.{flat_map}
use Rattle.std.proofs.lemmas.List.Elements.{All-same}
use Rattle.ht_pam.specs.Ladders.{IsLadder}
use Rattle.ht_pam.specs.declared.axes.Axes.{Axes}
use Rattle.ht_pam.proofs.Tables.{levels_few}
use Rattle.ht_metric.specs.Distance.{IsInRange}
use Rattle.ht_metric.specs.Vectors.{points}
use Rattle.ht_metric.proofs.Listing.{row, points_room, points_more, points_all, points_small}
use Rattle.ht_metric.proofs.grid_points.points_of.Goals as goal

pub push-requires : goal.push-requires
push-requires c =
    let i : IsLadder c.args.i_ladder = search rules in
    let q : IsLadder c.args.q_ladder = search rules in
    let is = c.as_slice-i-items.result.now in
    let qs = c.as_slice-q-items.result.now in
    let few : length is ≤ 8 = omega (arith, ap length (c.as_slice-i-items.ensures.value ∙ c.levels_of-is.ensures), levels_few c.args.i_ladder i) in
    let small : length qs ≤ 8 = omega (arith, ap length (c.as_slice-q-items.ensures.value ∙ c.levels_of-qs.ensures), levels_few c.args.q_ladder q) in (
      omega arith,
      points_room is qs c.loop-i.i-index c.loop-q.q-index
          (get_or is c.loop-i.i-index (pos 0)) c.loop-q.points.items few small c.loop-i-test.true c.loop-q-test.true c.loop-q.invariant.items,
    )

pub loop-q-preserved : goal.loop-q-preserved
loop-q-preserved c =
    let i : IsLadder c.args.i_ladder = search rules in
    let q : IsLadder c.args.q_ladder = search rules in
    let is = c.as_slice-i-items.result.now in
    let qs = c.as_slice-q-items.result.now in
    record {
      items = points_more c.args.i_ladder c.args.q_ladder is qs c.loop-i.i-index c.loop-q.q-index
          (flat_map (row qs) (take c.loop-i.i-index is)) c.loop-q.points.items c.push.new.self.items i q
          (c.as_slice-i-items.ensures.value ∙ c.levels_of-is.ensures) (c.as_slice-q-items.ensures.value ∙ c.levels_of-qs.ensures)
          c.loop-i-test.true c.loop-q-test.true c.loop-q.invariant.items c.push.ensures.items;
      below = c.loop-i-test.true;
    }

pub returns-clause-points : goal.returns-clause-points
returns-clause-points c =
    points_all (record { i = c.args.i_ladder; q = c.args.q_ladder }) c.as_slice-i-items.result.now
    c.levels_of-qs.result.items c.loop-i.i-index c.loop-i.points.items
    (c.as_slice-i-items.ensures.value ∙ c.levels_of-is.ensures) c.levels_of-qs.ensures (omega arith) c.loop-i.invariant

pub returns-clause-range : goal.returns-clause-range
returns-clause-range c =
    let i : IsLadder c.args.i_ladder = search rules in
    let q : IsLadder c.args.q_ladder = search rules in
    let a : Axes = record { i = c.args.i_ladder; q = c.args.q_ladder } in
    All-same IsInRange c.loop-i.points.items (points a)
    (points_all a c.as_slice-i-items.result.now c.levels_of-qs.result.items c.loop-i.i-index c.loop-i.points.items
    (c.as_slice-i-items.ensures.value ∙ c.levels_of-is.ensures) c.levels_of-qs.ensures (omega arith) c.loop-i.invariant)
    (points_small a i q)
