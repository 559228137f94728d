use Rattle.std.proofs.Common.{◌≡◌, List, length, ap, sym, subst, rules, arith}
use Rattle.std.specs.List.{All}
use Rattle.ht_pool.specs.Takers.{OwnView}
use Rattle.ht_pool.proofs.Opens.{all_fresh, with_takers, with_takers-long}
use Rattle.ht_pool.proofs.new_deques.open_with_takers.Goals as goal

pub taker_rows-requires-clause-all : goal.taker_rows-requires-clause-all
taker_rows-requires-clause-all g c =
    subst (λ (os : List (OwnView g.row.T.Denot)). All (λ (o : OwnView g.row.T.Denot). o.parts ≡ 1024) os) (sym c.as_mut_slice.ensures.value)
    (all_fresh c.args.capacity c.in_ok-owners.owners.items c.in_ok-owners.ensures.fresh)

pub returns-clause-ready : goal.returns-clause-ready
returns-clause-ready g c =
    (with_takers c.in_ok-owners.owners.len c.in_ok-owners.owners.items c.taker_rows.new.owners c.args.capacity c.args.workers c.as_mut_slice.result.now
    c.in_ok-rows.rows.items c.in_ok-owners.ensures.fresh c.in_ok-owners.ensures.count c.requires.few (search rules) c.as_mut_slice.ensures.value
    c.in_ok-rows.ensures.owners c.in_ok-rows.ensures.rows).0

pub returns-clause-capacities : goal.returns-clause-capacities
returns-clause-capacities g c =
    (with_takers c.in_ok-owners.owners.len c.in_ok-owners.owners.items c.taker_rows.new.owners c.args.capacity c.args.workers c.as_mut_slice.result.now
    c.in_ok-rows.rows.items c.in_ok-owners.ensures.fresh c.in_ok-owners.ensures.count c.requires.few (search rules) c.as_mut_slice.ensures.value
    c.in_ok-rows.ensures.owners c.in_ok-rows.ensures.rows).1

pub taker_rows-requires-clause-few : goal.taker_rows-requires-clause-few
taker_rows-requires-clause-few g c = omega (arith, ap length c.as_mut_slice.ensures.value, c.in_ok-owners.ensures.count, c.requires.few)

pub returns-clause-count : goal.returns-clause-count
returns-clause-count g c = (
  with_takers-long c.in_ok-owners.owners.len c.in_ok-owners.owners.items c.taker_rows.new.owners c.args.workers c.as_mut_slice.result.now
      c.in_ok-owners.ensures.count (search rules) c.as_mut_slice.ensures.value c.in_ok-rows.ensures.owners,
  c.in_ok-owners.ensures.room,
)

pub returns-clause-rows : goal.returns-clause-rows
returns-clause-rows g c = (
  omega (arith, ap length c.as_mut_slice.ensures.value, c.in_ok-owners.ensures.count, c.in_ok-rows.ensures.count),
  omega (arith, ap length c.as_mut_slice.ensures.value, c.in_ok-owners.ensures.count, c.in_ok-rows.ensures.room),
)
