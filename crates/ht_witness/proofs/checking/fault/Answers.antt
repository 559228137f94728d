use Rattle.std.proofs.Common.{◌≡◌, ◌∙◌, List, None, ap, sym}
use Rattle.ht_metric.proofs.Allowed.{small_points}
use Rattle.ht_pam.specs.declared.axes.Axes.{Axes}
use Rattle.ht_witness.specs.Certificates.{first_off}
use Rattle.ht_witness.proofs.Faults.{within_from}
use Rattle.ht_witness.proofs.checking.fault.Goals as goal

pub distance-distance-requires-clause-levels : goal.distance-distance-requires-clause-levels
distance-distance-requires-clause-levels c =
    let job = c.args.job.now in
    let x = c.args.certificate.now.vector in
    let is = c.grid.ensures.job in
    let none : first_off 1 job.grid x ≡ None = ap (λ (g : List Axes). first_off 1 g x) (sym c.grid.ensures.grid) ∙ sym c.in_default.ensures in
    small_points job.grid x is.grid.ladders (within_from 1 job.grid x (c.requires ∙ sym is.streams) none)
