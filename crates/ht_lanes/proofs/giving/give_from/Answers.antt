use Rattle.std.proofs.Common.{◌≡◌, ◌<◌, ◌≤◌, ℕ, [], ◌∷◌, ◌++◌, length, ap}
use Rattle.ht_lanes.specs.Lanes.{LaneJobs, OneMoreAt, SameBooks, due_of}
use Rattle.ht_lanes.proofs.Asked.{none_so, some_so}
use Rattle.ht_lanes.proofs.Rings.{booked_more, booked_same, have_few_due}
use Rattle.ht_lanes.proofs.giving.give_from.Goals as goal

pub ask_from-requires-clause-few_due : goal.ask_from-requires-clause-few_due
ask_from-requires-clause-few_due g c =
    have_few_due g.L.Lane.due g.L.Lane.rests g.L.Lane.over c.args.lanes.now c.args.due.now.items c.args.most c.requires.asked.booked g.met.L.Lane.resting
    c.requires.asked.few_due

pub returns-in-Ok-None-clause-booked : goal.returns-in-Ok-None-clause-booked
returns-in-Ok-None-clause-booked g c =
    booked_same g.L.Lane.due g.L.Lane.rests c.args.lanes.now c.ask_from.new.lanes c.args.due.now.items c.requires.asked.booked
    (c.ask_from.ensures.leads []).lanes
    (none_so c.in-Ok-None.field-0 (SameBooks g.L.Lane.due g.L.Lane.rests c.args.lanes.now c.ask_from.new.lanes) c.in-Ok-None.field-0-is
    c.in-Ok-None.ensures.none)

pub returns-in-Err-clause-booked : goal.returns-in-Err-clause-booked
returns-in-Err-clause-booked g c =
    booked_same g.L.Lane.due g.L.Lane.rests c.args.lanes.now c.ask_from.new.lanes c.args.due.now.items c.requires.asked.booked
    (c.ask_from.ensures.leads []).lanes
    c.in-Err.ensures.memory

pub returns-in-Ok-Some-clause-booked : goal.returns-in-Ok-Some-clause-booked
returns-in-Ok-Some-clause-booked g c =
    let e = c.in-Ok-Some.ensures in
    let lanes = c.args.lanes.now in
    let asked : ℕ × LaneJobs = (c.in-Ok-Some.lane, c.in-Ok-Some.block) in
    let is = c.in-Ok-Some.field-0-is in
    let more = some_so c.in-Ok-Some.field-0 asked
    (λ (a : ℕ × LaneJobs). OneMoreAt g.L.Lane.due g.L.Lane.rests lanes c.ask_from.new.lanes a.0 a.1.jobs) is e.due in
    let low = some_so c.in-Ok-Some.field-0 asked (λ (a : ℕ × LaneJobs). a.0 < length lanes) is e.answers.lane in
    let some = some_so c.in-Ok-Some.field-0 asked (λ (a : ℕ × LaneJobs). 1 ≤ length a.1.jobs) is e.answers.block.some in
    let items : c.keep.new.due.items ≡ c.args.due.now.items ++ due_of c.in-Ok-Some.lane c.in-Ok-Some.block ∷ [] = ap (λ b. b.items) c.keep.ensures in
    booked_more g.L.Lane.due g.L.Lane.rests lanes c.ask_from.new.lanes c.args.due.now.items c.requires.asked.booked (c.ask_from.ensures.leads []).lanes
    c.in-Ok-Some.lane c.in-Ok-Some.block more low c.keep.new.due.items items some
