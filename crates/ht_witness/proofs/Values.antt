-- Worked values.
use Rattle.std.proofs.Common.{◌≡◌, ℕ, pos, negsuc, [], ◌∷◌, List, map, Bool, true, false, Option, Some, None, refl, arith}
use Rattle.ht_pam.specs.declared.axes.Axes.{Axes}
use Rattle.ht_pam.specs.declared.point.Point.{Point}
use Rattle.ht_metric.specs.Jobs.{JobView}
use Rattle.ht_sphere.specs.Coordinates.{from_last}
use Rattle.ht_sphere.proofs.Values.{two, nil, job}
use Rattle.ht_witness.specs.declared.certificate.Certificate.{Certificate}
use Rattle.ht_witness.specs.declared.check_fault.CheckFault.{CheckFault}
use Rattle.ht_witness.specs.declared.check_fault.CheckFault.TheVariants.{OffGrid, WrongDistance, Early, Better, Short, Long}
use Rattle.ht_witness.specs.Certificates.{Checked, fault_of}
use Rattle.ht_witness.specs.Marking.{marks_of}

abbrev plus : Point
plus = record { i = pos 1; q = pos 0 }

abbrev minus : Point
minus = record { i = negsuc 0; q = pos 0 }

abbrev zero_point : Point
zero_point = record { i = pos 0; q = pos 0 }

-- BPSK on one stream: d = 10, y = (3, -4). I = -1 is at 185, I = 1 at 65, and Q leaves 16
abbrev bpsk : JobView
bpsk = job (record { i = two; q = nil } ∷ []) (record { diagonal = 10; right = []; sample = record { re = pos 3; im = negsuc 3 } } ∷ [])

abbrev claim : Point → ℕ → List Bool → Certificate
claim x d marks = record { vector = x ∷ []; distance = d; marks = marks }

-- the certificate that is made, and that it holds
made : marks_of 65 (from_last bpsk.system bpsk.grid) [] 0 ≡ true ∷ false ∷ true ∷ []
made = refl

holds : Checked bpsk (claim plus 65 (true ∷ false ∷ true ∷ []))
holds = record { within = refl; distance = refl; walk = (refl, (omega arith, (refl, tt))) }

-- what is wrong with each of these certificates of a job
abbrev AreFaults : JobView → List (Certificate × Option CheckFault) → Type 0
AreFaults job rows = map (λ r. fault_of job r.0) rows ≡ map (λ r. r.1) rows

-- a level needn't be cut. Neither 16 nor 65 is above 65, though at the last level no better vector would be left out
faults : AreFaults bpsk (
    (claim plus 65 (true ∷ false ∷ true ∷ []), None)
    ∷ (claim plus 65 (true ∷ true ∷ true ∷ []), None)
    ∷ (claim minus 185 (true ∷ true ∷ true ∷ []), Some (Better 2))
    ∷ (claim plus 64 (true ∷ true ∷ true ∷ []), Some (WrongDistance 65))
    ∷ (claim plus 65 (false ∷ []), Some (Early 0))
    ∷ (claim plus 65 (true ∷ false ∷ false ∷ []), Some (Early 2))
    ∷ (claim plus 65 (true ∷ false ∷ []), Some (Short 2))
    ∷ (claim plus 65 [], Some (Short 0))
    ∷ (claim plus 65 (true ∷ false ∷ true ∷ true ∷ []), Some (Long 3))
    ∷ (claim zero_point 65 [], Some (OffGrid 1))
    ∷ [])
faults = refl

-- the same with y = (0, 0): both points are at 100, and I = -1 is the first one
abbrev tie : JobView
tie = job (record { i = two; q = nil } ∷ []) (record { diagonal = 10; right = []; sample = record { re = pos 0; im = pos 0 } } ∷ [])

-- an equal distance is no reason to cut
faults_of_ties : AreFaults tie (
    (claim minus 100 (true ∷ true ∷ true ∷ []), None)
    ∷ (claim plus 100 (true ∷ true ∷ true ∷ []), Some (Better 1))
    ∷ (claim minus 100 (true ∷ true ∷ false ∷ []), Some (Early 2))
    ∷ [])
faults_of_ties = refl

-- QPSK on two streams: d = 10 and 1, r_12 = (10, 0), y_1 = (-20, 0), y_2 = (1, 0). (-1, -1), (-1, 1) is at 5, and so is
-- (-1, 1), (-1, -1), which comes later
abbrev qpsk : Axes
qpsk = record { i = two; q = two }

abbrev slanted : JobView
slanted = job (qpsk ∷ qpsk ∷ []) (record { diagonal = 10; right = record { re = pos 10; im = pos 0 } ∷ []; sample = record { re = negsuc 19; im = pos 0 } }
    ∷ record { diagonal = 1; right = []; sample = record { re = pos 1; im = pos 0 } } ∷ [])

abbrev slanted_marks : List Bool
slanted_marks = true ∷ true ∷ false ∷ true ∷ true ∷ false ∷ true ∷ false ∷ true ∷ false ∷ false
    ∷ true ∷ true ∷ true ∷ true ∷ false ∷ false ∷ true ∷ true ∷ false ∷ false ∷ false ∷ []

abbrev pair : Point → Point → Certificate
pair x y = record { vector = x ∷ y ∷ []; distance = 5; marks = slanted_marks }

slanted_made : marks_of 5 (from_last slanted.system slanted.grid) [] 0 ≡ slanted_marks
slanted_made = refl

slanted_holds : fault_of slanted (pair record { i = negsuc 0; q = negsuc 0 } record { i = negsuc 0; q = pos 1 }) ≡ None
slanted_holds = refl

-- the mark of I = -1 behind Q_2 = 1, I_2 = -1 and Q_1 = -1
slanted_later : fault_of slanted (pair record { i = negsuc 0; q = pos 1 } record { i = negsuc 0; q = negsuc 0 }) ≡ Some (Better 14)
slanted_later = refl
