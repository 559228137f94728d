use Rattle.std.proofs.Common.{◌<◌, length, ap, arith, rules}
use Rattle.std.proofs.lemmas.List.{length-take}
use Rattle.ht_pam.specs.Ladders.{IsLadder}
use Rattle.ht_pam.proofs.GridLemmas.{grown}
use Rattle.ht_pam.proofs.grid.Grid.and.Goals as goal

pub invariant_of-grid : goal.invariant_of-grid
invariant_of-grid c =
    let i : IsLadder c.args.i = search rules in
    let q : IsLadder c.args.q = search rules in
    let n = c.grid.inside.streams in
    let axes = c.grid.inside.axes in
    let four = c.grid.invariant.0.places in
    let below : n < 4 = omega (arith, length-take n axes, ap length c.grid.view_is) in
    rw c.from.ensures (grown n axes (record { i = c.args.i; q = c.args.q }) below c.grid.invariant.0 c.grid.invariant.1 (record { i = i; q = q }))
