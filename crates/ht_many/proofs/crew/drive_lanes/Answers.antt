use Rattle.std.proofs.Common.{rules}
use Rattle.ht_lanes.specs.Lanes.{HaveNone, sides_of}
use Rattle.ht_lanes.specs.Leading.{all-on}
use Rattle.ht_lanes.proofs.Rings.{none_left}
use Rattle.ht_many.proofs.crew.drive_lanes.Goals as goal

pub returns-in-Ok-drive : goal.returns-in-Ok-drive
returns-in-Ok-drive g c =
    let met = g.met.L.Lane in
    let f = c.drive.new.feed in
    let e = c.finish_lanes.ensures in
    let none : HaveNone g.L.Lane.due g.L.Lane.rests f.lanes.now =
    none_left g.L.Lane.due g.L.Lane.rests f.lanes.now f.due.now.items f.feed.rings c.in-Ok-drive.ensures.drives.through.none_due in
    record {
      leads = all-on g.L.Lane.leads met.stays met.goes_on (sides_of c.args.lanes.now c.args.sources.now c.args.sinks.now)
          (sides_of f.lanes.now f.sources.now f.sinks.now) _ (search rules) (search (rules, e.leads));
      over = search rules;
      none_due = search rules;
      finished = e.finished;
    }
