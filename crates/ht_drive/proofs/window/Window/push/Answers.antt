use Rattle.std.proofs.Common.{◌+◌, ◌≤◌, length, rules}
use Rattle.ht_feed.specs.Dues.{count_in}
use Rattle.ht_drive.specs.Blocks.{due_in, window_of}
use Rattle.ht_drive.proofs.Windows.{has_place, pushed}
use Rattle.ht_drive.proofs.window.Window.push.Goals as goal

pub keep-requires : goal.keep-requires
keep-requires g c =
    let w = c.self.inside in
    let of = g.B.Jobs.jobs in
    let jobs = of c.args.block in
    let room : count_in (due_in of w.slots.items) + length jobs ≤ w.capacity = search rules in
    has_place of w.slots.capacity w.held (window_of w.capacity w.front w.slots.items) jobs c.self.invariant c.requires.block room

pub invariant_of-self : goal.invariant_of-self
invariant_of-self g c =
    let w = c.self.inside in
    let of = g.B.Jobs.jobs in
    let room : count_in (due_in of w.slots.items) + length (of c.args.block) ≤ w.capacity = search rules in
    pushed of w.slots.capacity w.held c.size.result (window_of w.capacity w.front w.slots.items) c.args.block c.self.invariant c.requires.block room
    (search rules) c.keep.new.slots.capacity c.keep.new.slots.items (search rules) (search rules)
