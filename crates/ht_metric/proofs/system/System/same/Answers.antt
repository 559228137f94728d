use Rattle.ht_pam.proofs.SameLemmas.{none_same, more_same, all_same}
use Rattle.ht_metric.proofs.SameLemmas.{systems_decide}
use Rattle.ht_metric.proofs.system.System.same.Goals as goal

pub loop-k-init : goal.loop-k-init
loop-k-init c = none_same c.self.inside.y c.other.inside.y _ c.same-same.ensures

pub loop-k-preserved : goal.loop-k-preserved
loop-k-preserved c =
    more_same 4 c.self.inside.y c.other.inside.y c.loop-k.k _ _ _ _ c.self.invariant.samples c.other.invariant.samples c.loop-k-test.true
    c.loop-k.invariant c.same-same-in-loop-k.ensures

pub returns : goal.returns
returns c =
    systems_decide c.self.inside c.other.inside c.args.self.now c.args.other.now _ c.self.invariant c.other.invariant c.self.view_is c.other.view_is
    (all_same 4 c.self.inside.y c.other.inside.y c.loop-k.k _ c.self.invariant.samples c.other.invariant.samples c.loop-k-test.false c.loop-k.invariant)
