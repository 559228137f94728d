use Rattle.std.proofs.Common.{rules, arith}
use Rattle.ht_pam.specs.Ladders.{IsLadder}
use Rattle.ht_metric.proofs.Listing.{level_room, level_kept, level_left, level_all}
use Rattle.ht_metric.proofs.grid_points.levels_of.Goals as goal
use Rattle.ht_metric.proofs.grid_points.levels_of.Goals.{then-has, else-has}

pub push-requires : goal.push-requires
push-requires c = (
  omega arith,
  level_room c.args.ladder c.loop-level.level-index c.loop-level.levels.items
      c.has.ensures.ladder c.loop-level-test.true c.loop-level.invariant c.if-has.ensures.has,
)

pub loop-level-preserved : goal.loop-level-preserved
loop-level-preserved c = elim c.if-has.branch [
  | then-has w ↦ rw w.levels-is (level_kept c.args.ladder c.loop-level.level-index c.loop-level.levels.items
      _ c.loop-level-test.true c.loop-level.invariant w.if-has.ensures.has w.push.ensures.items)
  | else-has w ↦ rw w.levels-is (level_left c.args.ladder c.loop-level.level-index
      c.loop-level.levels.items c.loop-level-test.true c.loop-level.invariant w.if-has.ensures.has)
]

pub returns : goal.returns
returns c =
    let ladder : IsLadder c.args.ladder = search rules in
    level_all c.args.ladder c.loop-level.level-index c.loop-level.levels.items ladder (omega arith) c.loop-level.invariant
