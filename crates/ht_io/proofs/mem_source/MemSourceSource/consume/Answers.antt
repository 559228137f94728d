use Rattle.std.proofs.Common.{◌+◌, ◌≤◌, length, rules}
use Rattle.ht_io.proofs.Hands.{ready-taken, ready-within}
use Rattle.ht_io.proofs.mem_source.MemSourceSource.consume.Goals as goal
use Rattle.ht_io.proofs.mem_source.MemSourceSource.consume.Goals.{After-self}

-- octets at hand are left
within : (c : After-self) → c.self.inside.at + c.args.count ≤ length c.self.inside.bytes.items
within c =
    let s = c.self.inside in
    ready-within s.cuts.items s.failing.items s.bytes.items s.at c.args.count (search rules) (rw (← c.self.view_is) at c.requires)

pub overflow_add-self : goal.overflow_add-self
overflow_add-self c = let few = within c in search rules

pub invariant_of-self : goal.invariant_of-self
invariant_of-self c = let few = within (goal.at.invariant_of-self c).After-self in search rules

pub returns-clause-taken : goal.returns-clause-taken
returns-clause-taken c =
    let s = c.self.inside in
    rw (← c.self.view_is) (ready-taken s.cuts.items s.failing.items s.bytes.items s.at c.args.count (rw (← c.self.view_is) at c.requires))
