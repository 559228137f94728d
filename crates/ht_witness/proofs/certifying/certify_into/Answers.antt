use Rattle.std.proofs.Common.{◌≡◌, ◌∙◌, ap}
use Rattle.ht_metric.specs.Distance.{distance_of}
use Rattle.ht_metric.specs.declared.found.Found.{Found}
use Rattle.ht_metric.proofs.Allowed.{long_as_grid}
use Rattle.ht_metric.proofs.Finding.{near_is}
use Rattle.ht_witness.proofs.Accepting.{accepted}
use Rattle.ht_witness.proofs.certifying.certify_into.Goals as goal

pub returns-clause-checked : goal.returns-clause-checked
returns-clause-checked c =
    let job = c.args.job.now in
    let x = c.find-vector.result.vector in
    let d = c.find-vector.result.distance in
    let far : d ≡ distance_of job.system x = ap (λ (f : Found). f.distance) (c.find-vector.ensures.found ∙ near_is job x c.find-vector.ensures.near) in
    accepted job record { vector = x; distance = d; marks = c.write.new.marks } c.write.ensures.job c.find-vector.ensures.near far c.in_ok-write.ensures.written

pub returns-clause-streams : goal.returns-clause-streams
returns-clause-streams c =
    let job = c.args.job.now in
    let is = c.write.ensures.job in
    long_as_grid job.grid c.find-vector.result.vector c.find-vector.ensures.near.within ∙ is.streams
