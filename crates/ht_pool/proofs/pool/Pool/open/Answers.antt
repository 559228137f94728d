use Rattle.ht_pool.proofs.pool.Pool.open.Goals as goal

pub returns-clause-opened : goal.returns-clause-opened
returns-clause-opened g c = c.assemble.ensures.opened c.args.capacity c.in_ok-owners.ensures.capacities
