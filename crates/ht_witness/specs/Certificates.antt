-- When a certificate holds, and what is wrong where it doesn't.
use Rattle.std.specs.Prelude.{◌≡◌, ℕ, suc, List, [], ◌∷◌, ◌&&◌, ◌==◌, if◌then◌else◌, IsTrue, Option, Some, None}
use Rattle.ht_pam.specs.Ladders.{has}
use Rattle.ht_pam.specs.declared.axes.Axes.{Axes}
use Rattle.ht_pam.specs.declared.point.Point.{Point}
use Rattle.ht_metric.specs.Distance.{distance_of}
use Rattle.ht_metric.specs.Jobs.{JobView}
use Rattle.ht_metric.specs.Vectors.{is_in, levels_of}
use Rattle.ht_sphere.specs.Coordinates.{from_last}
use Rattle.ht_sphere.specs.Tree.{Reached}
use Rattle.ht_witness.specs.declared.certificate.Certificate.{Certificate}
use Rattle.ht_witness.specs.declared.check_fault.CheckFault.{CheckFault}
use Rattle.ht_witness.specs.declared.check_fault.CheckFault.TheVariants.{OffGrid, WrongDistance}
use Rattle.ht_witness.specs.Walks.{Suffix, below, IsWalk, walk_fault}

-- the levels and the distance that a certificate claims
abbrev pub claim_of : Certificate → Reached
claim_of certificate = (levels_of certificate.vector, certificate.distance)

-- the suffixes of one level, with which the walk begins
abbrev pub roots : JobView → List Suffix
roots job = below (from_last job.system job.grid) [] 0

-- the claimed vector is of the grid, the distance is its own, and the marks are those of a walk from the empty suffix
pub record Checked (job : JobView) (certificate : Certificate) : Type 0 where
  pub within : IsTrue (is_in job.grid certificate.vector)
  pub distance : certificate.distance ≡ distance_of job.system certificate.vector
  pub walk : IsWalk (claim_of certificate) (roots job) certificate.marks

-- the lowest stream whose point isn't allowed, where the first of these streams has this number
abbrev pub first_off : ℕ → List Axes → List Point → Option ℕ
first_off stream [] x = None
first_off stream (a ∷ grid) [] = None
first_off stream (a ∷ grid) (p ∷ x) = if has a.i p.i && has a.q p.q then first_off (suc stream) grid x else Some stream

-- the fault of a vector with a point off the grid, else that of the distance, else that of the walk
abbrev pub fault_from : JobView → Certificate → Option ℕ → Option CheckFault
fault_from job certificate (Some stream) = Some (OffGrid stream)
fault_from job certificate None =
    let distance = distance_of job.system certificate.vector in
    if certificate.distance == distance then walk_fault (claim_of certificate) (roots job) 0 certificate.marks else Some (WrongDistance distance)

-- what is wrong with a certificate, if something is
abbrev pub fault_of : JobView → Certificate → Option CheckFault
fault_of job certificate = fault_from job certificate (first_off 1 job.grid certificate.vector)
