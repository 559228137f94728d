use Rattle.std.proofs.Common.{get_or}
use Rattle.std.proofs.lemmas.Bool.Decides.{Decides-eqb}
use Rattle.ht_pam.proofs.SameLemmas.{none_same, more_same, all_same}
use Rattle.ht_metric.proofs.SameLemmas.{triangles_decide}
use Rattle.ht_metric.proofs.triangle.Triangle.same.Goals as goal

pub loop-k-init : goal.loop-k-init
loop-k-init c = none_same c.self.inside.diagonal c.other.inside.diagonal _ (Decides-eqb c.self.inside.streams c.other.inside.streams)

pub loop-k-preserved : goal.loop-k-preserved
loop-k-preserved c =
    let ds = c.self.inside.diagonal in
    let es = c.other.inside.diagonal in
    more_same 4 ds es c.loop-k.k 0 0 _ _ c.self.invariant.diagonals c.other.invariant.diagonals c.loop-k-test.true c.loop-k.invariant
    (Decides-eqb (get_or ds c.loop-k.k 0) (get_or es c.loop-k.k 0))

pub loop-j-init : goal.loop-j-init
loop-j-init c =
    none_same c.self.inside.above c.other.inside.above _
    (all_same 4 c.self.inside.diagonal c.other.inside.diagonal c.loop-k.k _ c.self.invariant.diagonals c.other.invariant.diagonals c.loop-k-test.false
    c.loop-k.invariant)

pub loop-j-preserved : goal.loop-j-preserved
loop-j-preserved c =
    more_same 6 c.self.inside.above c.other.inside.above c.loop-j.j _ _ _ _ c.self.invariant.entries c.other.invariant.entries c.loop-j-test.true
    c.loop-j.invariant c.same-same.ensures

pub returns : goal.returns
returns c =
    triangles_decide c.self.inside c.other.inside c.args.self.now c.args.other.now _ c.self.invariant c.other.invariant c.self.view_is c.other.view_is
    (all_same 6 c.self.inside.above c.other.inside.above c.loop-j.j _ c.self.invariant.entries c.other.invariant.entries c.loop-j-test.false
    c.loop-j.invariant)
