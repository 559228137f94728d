use Rattle.std.proofs.Common.{◌+◌, length, map, arith, rules, refl}
use Rattle.ht_viterbi.specs.Received.{known_of}
use Rattle.ht_viterbi.proofs.Turns.{row-more, sent-low, turn-step}
use Rattle.ht_viterbi.proofs.rows.fill_turn.Goals as goal

pub row_from-requires : goal.row_from-requires
row_from-requires c =
    let turn = turn-step c.args.pattern c.period-period.result.now (length c.args.rows.now) c.args.first c.args.count c.loop-phase.phase c.loop-phase.start _
    c.period-period.ensures c.requires.turn c.requires.count c.requires.within c.loop-phase-test.true c.loop-phase.invariant.start refl in
    let within = turn.2 in
    omega (arith, within, c.requires.received)

pub overflow_add-start : goal.overflow_add-start
overflow_add-start c =
    let turn = turn-step c.args.pattern c.period-period.result.now (length c.args.rows.now) c.args.first c.args.count c.loop-phase.phase c.loop-phase.start
    c.places_of-start.result c.period-period.ensures c.requires.turn c.requires.count c.requires.within c.loop-phase-test.true c.loop-phase.invariant.start
    c.places_of-start.ensures in
    let most = turn.2 in
    omega (arith, most, sent-low c.args.pattern (length c.args.rows.now), c.requires.few)

pub loop-phase-preserved : goal.loop-phase-preserved
loop-phase-preserved c =
    let was = c.loop-phase.invariant in
    let at = c.args.first + c.loop-phase.phase in
    let test = c.loop-phase-test.true in
    let turn = turn-step c.args.pattern c.period-period.result.now (length c.args.rows.now) c.args.first c.args.count c.loop-phase.phase c.loop-phase.start
    c.places_of-start.result c.period-period.ensures c.requires.turn c.requires.count c.requires.within test was.start c.places_of-start.ensures in
    record {
      start = turn.1;
      rows = row-more c.args.pattern (map known_of c.args.received.now) c.loop-phase.rows at (c.args.first + (c.loop-phase.phase + 1))
          c.row_from.result c.loop-phase.start _ (omega (arith, test, c.requires.within, was.length)) (omega arith)
          c.row_from.ensures.value turn.0 was.start was.rows;
      length = search rules;
    }
