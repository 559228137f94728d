use Rattle.std.proofs.Common.{ℕ, List, ap, length, subst, sym, ◌∙◌}
use Rattle.ht_pam.specs.declared.axes.Axes.{Axes}
use Rattle.ht_metric.specs.Distance.{distance_of}
use Rattle.ht_metric.specs.Rows.{Row}
use Rattle.ht_metric.specs.declared.found.Found.{Found}
use Rattle.ht_rounding.specs.Only.{AreOnly}
use Rattle.ht_rounding.proofs.OnlyLemmas.{only_long, only_near, only_small}
use Rattle.ht_rounding.proofs.only.find_only.Goals as goal

pub distance-distance-requires-clause-streams : goal.distance-distance-requires-clause-streams
distance-distance-requires-clause-streams c =
    let ps = c.in_ok-vector.vector in
    let all : AreOnly c.args.job.now.grid ps = subst (λ (g : List Axes). AreOnly g ps) c.grid.ensures.grid c.in_ok-vector.ensures in
    only_long c.args.job.now ps c.grid.ensures.job all ∙ ap (λ (rows : List Row). length rows) (sym c.system.ensures.system)

pub distance-distance-requires-clause-levels : goal.distance-distance-requires-clause-levels
distance-distance-requires-clause-levels c =
    let ps = c.in_ok-vector.vector in
    let all : AreOnly c.args.job.now.grid ps = subst (λ (g : List Axes). AreOnly g ps) c.grid.ensures.grid c.in_ok-vector.ensures in
    only_small c.args.job.now ps c.grid.ensures.job all

pub returns-clause-near : goal.returns-clause-near
returns-clause-near c =
    let ps = c.in_ok-vector.vector in
    let all : AreOnly c.args.job.now.grid ps = subst (λ (g : List Axes). AreOnly g ps) c.grid.ensures.grid c.in_ok-vector.ensures in
    let at : ℕ → Found = λ d. record { vector = ps; distance = d } in
    ap at (c.distance-distance.ensures.value ∙ ap (λ (rows : List Row). distance_of rows ps) c.system.ensures.system)
    ∙ sym (only_near c.args.job.now ps all)
