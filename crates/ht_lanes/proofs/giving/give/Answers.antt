use Rattle.std.proofs.Common.{length}
use Rattle.ht_lanes.specs.Lanes.{sides_of}
use Rattle.ht_lanes.specs.Leading.{all-on}
use Rattle.ht_lanes.proofs.Rings.{room_for}
use Rattle.ht_lanes.proofs.giving.give.Goals as goal

pub make_room-requires : goal.make_room-requires
make_room-requires g c = room_for (length c.args.lanes.now) c.args.due.now.items c.args.most c.requires.asked.booked.within c.requires.asked.asks.some
    c.requires.asked.few_due

pub returns-clause-leads : goal.returns-clause-leads
returns-clause-leads g c = λ sinks.
    all-on g.L.Lane.leads g.met.L.Lane.stays g.met.L.Lane.goes_on (sides_of c.args.lanes.now c.args.sources.now sinks)
    (sides_of c.give_from.new.lanes c.give_from.new.sources sinks) (sides_of c.give_from-2.new.lanes c.give_from-2.new.sources sinks)
    (c.give_from.ensures.leads sinks) (c.give_from-2.ensures.leads sinks)
