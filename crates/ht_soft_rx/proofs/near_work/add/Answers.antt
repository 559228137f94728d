use Rattle.std.proofs.Common.{◌∙◌, ◌-◌, ℕ, List, ap, arith, length, length-append}
use Rattle.std.specs.List.{range_with_len}
use Rattle.std.proofs.lemmas.List.FromFn.{length-range_with_len}
use Rattle.ht_frames.specs.Tallies.{kept_as}
use Rattle.ht_soft_rx.proofs.near_work.add.Goals as goal

pub returns-in_ok-add-in-Data-clause-long : goal.returns-in_ok-add-in-Data-clause-long
returns-in_ok-add-in-Data-clause-long g c =
    let old = c.args.tally.now in
    let count = c.len.result - c.len-behind.result in
    let kept = kept_as g.K.Kind.plan old.head c.args.job.now c.carries-carrier.result in
    let placed = ap (λ (ps : List ℕ). length ps) c.in_ok-add-in-Data.ensures ∙ length-append old.places (range_with_len c.place-at.result count) in
    let here = length-range_with_len c.place-at.result count in
    let held = ap (λ (vs : List g.row.K-Value.Denot). length vs) c.in_ok-distance.ensures.kept ∙ length-append old.values.items kept in
    omega (arith, placed, here, held, c.requires.long, c.len.ensures, c.len-behind.ensures)
