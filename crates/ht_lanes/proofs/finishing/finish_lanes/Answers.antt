use Rattle.std.proofs.Common.{◌≡◌, [], length, arith}
use Rattle.ht_lanes.specs.Lanes.{sides_of}
use Rattle.ht_lanes.specs.Leading.{all-none}
use Rattle.ht_lanes.proofs.EachLane.{all-more}
use Rattle.ht_lanes.proofs.Finished.{all_finished, none_yet, one_more, still_none, still_over}
use Rattle.ht_lanes.proofs.finishing.finish_lanes.Goals as goal

pub loop-at-init : goal.loop-at-init
loop-at-init g c =
    let lane = g.L.Lane in
    let met = g.met.L.Lane in
    record {
      so = none_yet lane.due lane.rests lane.over lane.finished c.args.lanes.now;
      leads = λ sources. all-none lane.leads met.stays met.goes_on (sides_of c.args.lanes.now sources c.args.sinks.now);
    }

pub finish_at-requires-clause-lane : goal.finish_at-requires-clause-lane
finish_at-requires-clause-lane g c = omega (arith, c.loop-at-test.true, (c.loop-at.invariant.leads []).lanes)

pub finish_at-requires-clause-sink : goal.finish_at-requires-clause-sink
finish_at-requires-clause-sink g c = omega (arith, c.loop-at-test.true, (c.loop-at.invariant.leads []).sinks, c.requires.pairs)

pub loop-at-preserved : goal.loop-at-preserved
loop-at-preserved g c =
    let lane = g.L.Lane in
    let met = g.met.L.Lane in
    let i = c.loop-at.invariant in
    let e = c.finish_at.ensures in
    record {
      so = one_more lane.due lane.rests lane.over lane.finished c.args.lanes.now c.loop-at.lanes c.finish_at.new.lanes c.loop-at.at
          (e.leads []).lanes i.so e.finishes;
      leads = λ sources. all-more lane.leads met.stays met.goes_on (e.leads sources) _ (i.leads sources);
    }

pub returns-clause-finished : goal.returns-clause-finished
returns-clause-finished g c =
    let lane = g.L.Lane in
    let i = c.loop-at.invariant in
    let all : c.loop-at.at ≡ length c.args.lanes.now = omega (arith, c.loop-at-test.false, c.loop-at.auto.at-end) in
    all_finished lane.due lane.rests lane.over lane.finished c.args.lanes.now c.loop-at.lanes c.loop-at.at (i.leads []).lanes i.so all

pub returns-clause-over : goal.returns-clause-over
returns-clause-over g c =
    let lane = g.L.Lane in
    let i = c.loop-at.invariant in
    still_over lane.due lane.rests lane.over lane.finished c.args.lanes.now c.loop-at.lanes c.loop-at.at (i.leads []).lanes i.so

pub returns-clause-none_due : goal.returns-clause-none_due
returns-clause-none_due g c =
    let lane = g.L.Lane in
    let i = c.loop-at.invariant in
    still_none lane.due lane.rests lane.over lane.finished c.args.lanes.now c.loop-at.lanes c.loop-at.at (i.leads []).lanes i.so
