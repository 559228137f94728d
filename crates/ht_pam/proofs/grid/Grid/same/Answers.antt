use Rattle.std.proofs.lemmas.Bool.Decides.{Decides-eqb}
use Rattle.ht_pam.proofs.SameLemmas.{none_same, more_same, all_same, grids_decide}
use Rattle.ht_pam.proofs.grid.Grid.same.Goals as goal

pub loop-k-init : goal.loop-k-init
loop-k-init c = none_same c.self.inside.axes c.other.inside.axes _ (Decides-eqb c.self.inside.streams c.other.inside.streams)

pub loop-k-preserved : goal.loop-k-preserved
loop-k-preserved c =
    more_same 4 c.self.inside.axes c.other.inside.axes c.loop-k.k c.index-self-k.result c.index-other-k.result _ _ c.self.invariant.0.places
    c.other.invariant.0.places c.loop-k-test.true c.loop-k.invariant c.same-same.ensures

pub returns : goal.returns
returns c =
    grids_decide c.self.inside c.other.inside c.args.self.now c.args.other.now _ c.self.invariant c.other.invariant c.self.view_is c.other.view_is
    (all_same 4 c.self.inside.axes c.other.inside.axes c.loop-k.k _ c.self.invariant.0.places c.other.invariant.0.places c.loop-k-test.false
    c.loop-k.invariant)
