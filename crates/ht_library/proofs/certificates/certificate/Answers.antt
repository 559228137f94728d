use Rattle.std.proofs.Common.{◌≡◌, IfOk, subst}
use Rattle.ht_metric.specs.Jobs.{JobView}
use Rattle.ht_certify.specs.Certifying.{certificate_of}
use Rattle.ht_library.proofs.Made.{certified-is}
use Rattle.ht_library.proofs.certificates.certificate.Goals as goal

pub returns : goal.returns
returns c =
    subst (λ (j : JobView). IfOk c.certify.result (λ found. found ≡ certificate_of j)) c.job.ensures.value
    (certified-is c.job.result c.certify.result c.certify.ensures.found c.certify.ensures.marks)
