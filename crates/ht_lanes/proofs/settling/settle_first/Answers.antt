use Rattle.std.proofs.Common.{rules, ◌≡◌, length, drop, [], slice_get, Some, refl, ap, ◌∙◌, sym, arith}
use Rattle.ht_lanes.proofs.EachLane.{all-one}
use Rattle.ht_lanes.proofs.Asked.{over_settled}
use Rattle.ht_lanes.proofs.Rings.{booked_lacks, booked_taken, first_waits, within-first}
use Rattle.ht_lanes.proofs.settling.settle_first.Goals as goal

pub settle_at-requires-clause-lane : goal.settle_at-requires-clause-lane
settle_at-requires-clause-lane g c =
    let is : slice_get c.args.due.now.items 0 ≡ Some c.in-Some.first.now = search rules in
    let low = within-first (length c.args.lanes.now) c.args.due.now.items c.in-Some.first.now c.requires.booked.within is in
    omega (arith, low, c.lane-at.ensures)

pub settle_at-requires-clause-sink : goal.settle_at-requires-clause-sink
settle_at-requires-clause-sink g c =
    let is : slice_get c.args.due.now.items 0 ≡ Some c.in-Some.first.now = search rules in
    let low = within-first (length c.args.lanes.now) c.args.due.now.items c.in-Some.first.now c.requires.booked.within is in
    omega (arith, low, c.lane-at.ensures, c.requires.sinks)

pub settle_at-requires-clause-right : goal.settle_at-requires-clause-right
settle_at-requires-clause-right g c =
    rw c.inner.ensures (g.met.L.Lane.numberless c.args.answer.now c.args.block.now.first c.args.block.now.jobs c.requires.right)

pub settle_at-requires-clause-first : goal.settle_at-requires-clause-first
settle_at-requires-clause-first g c =
    let is : slice_get c.args.due.now.items 0 ≡ Some c.in-Some.first.now = search rules in
    let own : c.in-Some.first.now.block.own ≡ c.args.block.now.own = sym c.own.ensures.own ∙ (c.if-own.false ∙ c.own-2.ensures.own) in
    rw c.inner.ensures (rw c.lane-at.ensures
    (first_waits g.L.Lane.due g.L.Lane.rests c.args.lanes.now c.args.due.now.items c.in-Some.first.now c.args.block.now c.requires.booked is
    c.requires.first own c.own.ensures.numbers c.own-2.ensures.numbers))

pub returns-in-Ok-clause-booked : goal.returns-in-Ok-clause-booked
returns-in-Ok-clause-booked g c =
    let is : slice_get c.args.due.now.items 0 ≡ Some c.in-Some.first.now = search rules in
    let e = c.in-Ok.ensures in
    let at = c.lane-at.ensures in
    let left : c.pop_front.new.self.items ≡ drop 1 c.args.due.now.items = ap (λ b. b.items) c.pop_front.ensures.items in
    booked_taken g.L.Lane.due g.L.Lane.rests c.args.lanes.now c.settle_at.new.lanes c.args.due.now.items c.pop_front.new.self.items c.in-Some.first.now
    c.requires.booked is left (rw (sym at) (e.leads []).lanes) (rw (sym at) (λ l. (e.settles l).taken)) (rw (sym at) (λ l. (e.settles l).takes))

pub returns-in-Err-clause-booked : goal.returns-in-Err-clause-booked
returns-in-Err-clause-booked g c =
    let is : slice_get c.args.due.now.items 0 ≡ Some c.in-Some.first.now = search rules in
    let e = c.in-Err.ensures in
    let at = c.lane-at.ensures in
    booked_lacks g.L.Lane.due g.L.Lane.rests c.args.lanes.now c.settle_at.new.lanes c.args.due.now.items c.requires.booked (e.leads []).lanes.as_many
    c.in-Some.first.now is (rw (sym at) (e.leads []).lanes) c.args.due.now.items refl (rw (sym at) (λ l. (e.settles l).memory))

pub returns-in-Ok-clause-leads : goal.returns-in-Ok-clause-leads
returns-in-Ok-clause-leads g c = λ sources.
    all-one g.L.Lane.leads g.met.L.Lane.stays g.met.L.Lane.goes_on (c.settle_at.ensures.leads sources)

pub returns-in-Err-clause-leads : goal.returns-in-Err-clause-leads
returns-in-Err-clause-leads g c = λ sources.
    all-one g.L.Lane.leads g.met.L.Lane.stays g.met.L.Lane.goes_on (c.settle_at.ensures.leads sources)

pub returns-in-Ok-clause-over : goal.returns-in-Ok-clause-over
returns-in-Ok-clause-over g c = over_settled g.L.Lane.over (c.settle_at.ensures.leads []) (λ l. (c.settle_at.ensures.settles l).ended)

pub returns-in-Err-clause-over : goal.returns-in-Err-clause-over
returns-in-Err-clause-over g c = over_settled g.L.Lane.over (c.settle_at.ensures.leads []) (λ l. (c.settle_at.ensures.settles l).ended)
