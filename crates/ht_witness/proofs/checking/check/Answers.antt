use Rattle.std.proofs.Common.{◌∙◌, sym}
use Rattle.ht_witness.proofs.Faults.{holds, no_fault, none_of}
use Rattle.ht_witness.proofs.Trusting.{checked_near}
use Rattle.ht_witness.proofs.checking.check.Goals as goal

pub returns-in-None-clause-checked : goal.returns-in-None-clause-checked
returns-in-None-clause-checked c =
    holds c.args.job.now c.args.certificate.now (c.requires ∙ sym c.in-None.ensures.job.streams) (sym c.in-None.ensures.fault)

pub returns-in-None-clause-near : goal.returns-in-None-clause-near
returns-in-None-clause-near c =
    let checked = holds c.args.job.now c.args.certificate.now (c.requires ∙ sym c.in-None.ensures.job.streams) (sym c.in-None.ensures.fault) in
    (checked_near c.args.job.now c.args.certificate.now c.in-None.ensures.job checked).0

pub returns-in-None-clause-distance : goal.returns-in-None-clause-distance
returns-in-None-clause-distance c =
    let checked = holds c.args.job.now c.args.certificate.now (c.requires ∙ sym c.in-None.ensures.job.streams) (sym c.in-None.ensures.fault) in
    checked.distance

pub returns-in-Some-clause-refused : goal.returns-in-Some-clause-refused
returns-in-Some-clause-refused c = λ checked. none_of c.in-Some.fault (c.in-Some.ensures.fault ∙ no_fault c.args.job.now c.args.certificate.now checked)
