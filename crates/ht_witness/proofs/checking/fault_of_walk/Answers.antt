use Rattle.std.proofs.Common.{◌∙◌, ◌*◌, Some, take}
use Rattle.ht_sphere.specs.Tree.{Reached}
use Rattle.ht_witness.specs.declared.check_fault.CheckFault.TheVariants.{Long}
use Rattle.ht_witness.specs.Certificates.{claim_of}
use Rattle.ht_witness.proofs.Stages.{claim_is, one_left, walk_ends}
use Rattle.ht_witness.proofs.checking.fault_of_walk.Goals as goal

pub returns-then-at-marks : goal.returns-then-at-marks
returns-then-at-marks c =
    let certificate = c.args.certificate.now in
    let marks = c.as_slice-marks.result.now in
    let mine : Reached = (take (2 * c.from-levels.result) c.levels_of-claimed.result, certificate.distance) in
    walk_ends (claim_of certificate) mine certificate.marks marks c.args.job.now (Some (Long c.walk.new.state))
    (claim_is certificate.vector c.levels_of-claimed.result c.from-levels.result certificate.distance (c.from-levels.ensures ∙ c.len.ensures.number)
    c.levels_of-claimed.ensures.levels)
    c.as_slice-marks.ensures (c.in_default.ensures.walked ∙ one_left mine marks c.walk.new.state c.if-at-marks.true)
