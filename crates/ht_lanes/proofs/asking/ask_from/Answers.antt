use Rattle.std.proofs.Common.{◌≡◌, [], ◌∷◌, ◌++◌, get_or, true, refl, arith}
use Rattle.ht_lanes.specs.Lanes.{LaneJobs, sides_of}
use Rattle.ht_lanes.proofs.Asked.{none_so, one_more, over_none, few_due_none, same_none, some_so}
use Rattle.ht_lanes.specs.Leading.{all-none}
use Rattle.ht_lanes.proofs.EachLane.{all-more}
use Rattle.ht_lanes.proofs.asking.ask_from.Goals as goal

pub loop-at-init : goal.loop-at-init
loop-at-init g c =
    let lane = g.met.L.Lane in
    record {
      same = λ l k few. (refl, refl);
      few_due = c.requires.few_due;
      over = λ x k high low. absurd (omega (arith, high, low));
      leads = λ sinks. all-none g.L.Lane.leads lane.stays lane.goes_on (sides_of c.args.lanes.now c.args.sources.now sinks);
    }

pub ask_at-requires-clause-lane : goal.ask_at-requires-clause-lane
ask_at-requires-clause-lane g c = omega (arith, c.loop-at-test.true, (c.loop-at.invariant.leads []).lanes)

pub ask_at-requires-clause-source : goal.ask_at-requires-clause-source
ask_at-requires-clause-source g c = omega (arith, c.loop-at-test.true, (c.loop-at.invariant.leads []).sources, c.requires.pairs)

pub ask_at-requires-clause-few_due : goal.ask_at-requires-clause-few_due
ask_at-requires-clause-few_due g c = λ l.
    c.loop-at.invariant.few_due l c.loop-at.at (omega (arith, c.loop-at-test.true, (c.loop-at.invariant.leads []).lanes))

pub returns-in-Ok-Some-clause-due : goal.returns-in-Ok-Some-clause-due
returns-in-Ok-Some-clause-due g c =
    let e = c.in-Ok-Some.ensures in
    let at = c.loop-at.at in
    let due = g.L.Lane.due in
    one_more c.loop-at.lanes c.ask_at.new.lanes at (e.leads []).lanes due g.L.Lane.rests c.args.lanes.now c.loop-at.invariant.same
    (λ l. (e.gives l).takes) c.in-Ok-Some.block.jobs
    (omega (arith, c.loop-at-test.true, (c.loop-at.invariant.leads []).lanes))
    (λ l. some_so c.in-Ok-Some.field-0 c.in-Ok-Some.block
    (λ (block : LaneJobs). due (get_or c.ask_at.new.lanes at l) ≡ due (get_or c.loop-at.lanes at l) ++ block.jobs ∷ []) c.in-Ok-Some.field-0-is
    (e.gives l).given)

pub returns-in-Ok-Some-clause-leads : goal.returns-in-Ok-Some-clause-leads
returns-in-Ok-Some-clause-leads g c = λ sinks.
    all-more g.L.Lane.leads g.met.L.Lane.stays g.met.L.Lane.goes_on (c.ask_at.ensures.leads sinks) _ (c.loop-at.invariant.leads sinks)

pub returns-in-Err-clause-leads : goal.returns-in-Err-clause-leads
returns-in-Err-clause-leads g c = λ sinks.
    all-more g.L.Lane.leads g.met.L.Lane.stays g.met.L.Lane.goes_on (c.ask_at.ensures.leads sinks) _ (c.loop-at.invariant.leads sinks)

pub returns-in-Err-clause-memory : goal.returns-in-Err-clause-memory
returns-in-Err-clause-memory g c =
    let e = c.in-Err.ensures in
    same_none c.loop-at.lanes c.ask_at.new.lanes c.loop-at.at (e.leads []).lanes g.L.Lane.due g.L.Lane.rests c.args.lanes.now c.loop-at.invariant.same
    (λ l. (e.gives l).takes) (λ l. (e.gives l).memory)

pub loop-at-preserved : goal.loop-at-preserved
loop-at-preserved g c =
    let lane = g.met.L.Lane in
    let i = c.loop-at.invariant in
    let e = c.in-Ok-None.ensures in
    let at = c.loop-at.at in
    let is = c.in-Ok-None.field-0-is in
    let one = (e.leads []).lanes in
    let lanes = c.loop-at.lanes in
    let now = c.ask_at.new.lanes in
    let none : (l : g.row.L.Denot) → g.L.Lane.due (get_or c.ask_at.new.lanes at l) ≡ g.L.Lane.due (get_or c.loop-at.lanes at l) =
    λ l. none_so c.in-Ok-None.field-0 (g.L.Lane.due (get_or c.ask_at.new.lanes at l) ≡ g.L.Lane.due (get_or c.loop-at.lanes at l)) is (e.gives l).none in
    let over : (l : g.row.L.Denot) → g.L.Lane.over (get_or c.ask_at.new.lanes at l) ≡ true =
    λ l. none_so c.in-Ok-None.field-0 (g.L.Lane.over (get_or c.ask_at.new.lanes at l) ≡ true) is (e.gives l).ended in
    record {
      same = same_none lanes now at one g.L.Lane.due g.L.Lane.rests c.args.lanes.now i.same (λ l. (e.gives l).takes) none;
      few_due = few_due_none lanes now at one g.L.Lane.over over g.L.Lane.due c.args.most i.few_due;
      over = over_none lanes now at one g.L.Lane.over over c.args.from i.over;
      leads = λ sinks. all-more g.L.Lane.leads lane.stays lane.goes_on (c.ask_at.ensures.leads sinks) _ (i.leads sinks);
    }
