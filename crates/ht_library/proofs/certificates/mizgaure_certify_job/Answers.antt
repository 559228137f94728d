use Rattle.std.proofs.Common.{rules, ◌≡◌, ap, subst, ◌∙◌}
use Rattle.ht_rate.specs.declared.rates.Rate.{Rate}
use Rattle.ht_witness.specs.declared.certificate.Certificate.{Certificate}
use Rattle.ht_certify.specs.Certifying.{certificate_of}
use Rattle.ht_library.specs.Certified.{PutsCertificate}
use Rattle.ht_library.specs.Detected.{job_of}
use Rattle.ht_library.proofs.certificates.mizgaure_certify_job.Goals as goal

-- The rate is the one that bandwidth and MCS name.
pub returns-clause-value : goal.returns-clause-value
returns-clause-value c = λ none rate is.
    let same : c.in-Ok.rate ≡ rate = search (rules, is) in
    let made = c.in-Ok-certificate.ensures ∙ ap (λ (r : Rate). certificate_of (job_of r c.args.channel.now c.args.received.now)) same in
    subst (λ (x : Certificate). PutsCertificate c.args.marks.now c.put_certificate.new.marks c.put_certificate.new.size c.args.found.now
    c.put_certificate.new.found c.put_certificate.result x) made c.put_certificate.ensures
