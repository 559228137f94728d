-- The certificate that is made of a job.
use Rattle.std.proofs.Common.{◌≡◌, List, [], Bool, Result, Ok, Err, IfOk, ap, sym, ◌∙◌}
use Rattle.ht_metric.specs.declared.found.Found.{Found}
use Rattle.ht_metric.specs.Jobs.{JobView, near}
use Rattle.ht_sphere.specs.Coordinates.{from_last}
use Rattle.ht_witness.specs.declared.certificate.Certificate.{Certificate}
use Rattle.ht_witness.specs.Marking.{marks_of}
use Rattle.ht_certify.specs.Certifying.{certificate_of}

made-is : (job : JobView) (c : Certificate) → near job ≡ record { vector = c.vector; distance = c.distance }
    → c.marks ≡ marks_of c.distance (from_last job.system job.grid) [] 0 → c ≡ certificate_of job
made-is job c found marks =
    let of_marks : List Bool → Certificate = λ m. record { vector = c.vector; distance = c.distance; marks = m } in
    let of_found : Found → Certificate = λ f. record {
      vector = f.vector;
      distance = f.distance;
      marks = marks_of f.distance (from_last job.system job.grid) [] 0;
    } in
    ap of_marks marks ∙ ap of_found (sym found)

pub certified-is : {E : Type 0} (job : JobView) (result : Result Certificate E)
    → IfOk result (λ c. near job ≡ record { vector = c.vector; distance = c.distance })
    → IfOk result (λ c. c.marks ≡ marks_of c.distance (from_last job.system job.grid) [] 0) → IfOk result (λ c. c ≡ certificate_of job)
certified-is job (Ok c) found marks = made-is job c found marks
certified-is job (Err e) found marks = found
