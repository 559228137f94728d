-- The lines of a check have room: how far what is wrong with a certificate goes, and what a record takes in a file.
use Rattle.std.proofs.Common.{◌≡◌, ℕ, zero, suc, ◌+◌, ◌*◌, ◌^◌, ◌<◌, ◌≤◌, List, [], ◌∷◌, ◌++◌, length, map, flat_map, nat_lt}
use Rattle.std.proofs.Common.{Bool, true, false, ◌&&◌, All, Option, None, Some, if◌then◌else◌, refl, sym, ap, subst, ◌∙◌, arith, length-append}
use Rattle.std.specs.Prelude.{◌==◌, is_none}
use Rattle.std.proofs.lemmas.List.{length-map, length-replicate}
use Rattle.std.proofs.lemmas.List.Elements.{All-replicate}
use Rattle.ht_pam.specs.Grids.{AreLadders}
use Rattle.ht_pam.specs.Ladders.{has}
use Rattle.ht_pam.specs.declared.axes.Axes.{Axes}
use Rattle.ht_pam.specs.declared.point.Point.{Point}
use Rattle.ht_map.specs.Constellation.{axes_of}
use Rattle.ht_metric.specs.Arrays.{legs, samples}
use Rattle.ht_metric.specs.Distance.{distance_of}
use Rattle.ht_metric.specs.Jobs.{JobView}
use Rattle.ht_metric.specs.Rows.{Row}
use Rattle.ht_metric.specs.Vectors.{is_in}
use Rattle.ht_metric.proofs.Allowed.{small_points}
use Rattle.ht_sphere.specs.Tree.{Reached}
use Rattle.ht_capture.specs.Files.{legs_octets, sample_octets}
use Rattle.ht_capture.proofs.Decoded.{length-samples}
use Rattle.byteorder.specs.Endian.{big_bytes}
use Rattle.ht_cert.specs.declared.record.Record.{Record}
use Rattle.ht_cert.specs.Files.{AreNumbered, IsRecord, claim_octets, front_octets, mark_octet, point_octets, record_octets}
use Rattle.ht_cert.proofs.Decoded.{rows_again}
use Rattle.ht_witness.specs.declared.certificate.Certificate.{Certificate}
use Rattle.ht_witness.specs.declared.check_fault.CheckFault.{CheckFault}
use Rattle.ht_witness.specs.declared.check_fault.CheckFault.TheVariants.{OffGrid, WrongDistance, Early, Better, Short, Long}
use Rattle.ht_witness.specs.Certificates.{claim_of, fault_from, fault_of, first_off, roots}
use Rattle.ht_witness.specs.Kinds.{carried_by, name_of}
use Rattle.ht_witness.specs.Walks.{Suffix, beats, below, walk_fault}
use Rattle.ht_witness.proofs.Faults.{within_from}
use Rattle.ht_certify.specs.Checks.{answer_line, check_line, check_lines_from, fault_in, yes_count, yes_of}
use Rattle.ht_results.proofs.Vectors.{ladders}
use Rattle.ht_demo.proofs.Small.{rows_small}
use Rattle.ht_library.proofs.LineLengths.{no-long, yes-long}

-- the number that goes with what is wrong has at most 20 digits
abbrev pub IsLow : Option CheckFault → Type 0
IsLow None = Unit {0}
IsLow (Some fault) = carried_by fault ≤ 2 ^ 66

low-if : (b : Bool) (x y : Option CheckFault) → IsLow x → IsLow y → IsLow (if b then x else y)
low-if true x y a b = a
low-if false x y a b = b

-- that of a walk is the index of a mark, or the number of all marks
walk-low : (claim : Reached) (todo : List Suffix) (at : ℕ) (marks : List Bool) → at + length marks ≤ 2 ^ 66 → IsLow (walk_fault claim todo at marks)
walk-low claim [] at [] few = tt
walk-low claim [] at (mark ∷ marks) few = omega (arith, few)
walk-low claim (s ∷ rest) at [] few = omega (arith, few)
walk-low claim (s ∷ rest) at (false ∷ marks) few =
    low-if (nat_lt claim.1 s.partial) (walk_fault claim rest (suc at) marks) (Some (Early at))
    (walk-low claim rest (suc at) marks (omega (arith, few))) (omega (arith, few))
walk-low claim (s ∷ rest) at (true ∷ marks) few =
    low-if (beats claim s.ahead s.levels s.partial) (Some (Better at)) (walk_fault claim (below s.ahead s.levels s.partial ++ rest) (suc at) marks)
    (omega (arith, few)) (walk-low claim (below s.ahead s.levels s.partial ++ rest) (suc at) marks (omega (arith, few)))

-- a stream whose point is off the grid is one of the grid
abbrev IsStream : ℕ → Option ℕ → Type 0
IsStream most None = Unit {0}
IsStream most (Some stream) = stream ≤ most

stream-if : (b : Bool) (most : ℕ) (x y : Option ℕ) → IsStream most x → IsStream most y → IsStream most (if b then x else y)
stream-if true most x y a b = a
stream-if false most x y a b = b

off-low : (most stream : ℕ) (grid : List Axes) (x : List Point) → stream + length grid ≤ most → IsStream most (first_off stream grid x)
off-low most stream [] x few = tt
off-low most stream (a ∷ grid) [] few = tt
off-low most stream (a ∷ grid) (p ∷ x) few =
    stream-if (has a.i p.i && has a.q p.q) most (first_off (suc stream) grid x) (Some stream)
    (off-low most (suc stream) grid x (omega (arith, few))) (omega (arith, few))

from-low : (job : JobView) (c : Certificate) (off : Option ℕ) → IsStream (2 ^ 66) off
    → (off ≡ None → distance_of job.system c.vector ≤ 2 ^ 66) → length c.marks ≤ 2 ^ 66 → IsLow (fault_from job c off)
from-low job c (Some stream) low near few = low
from-low job c None low near few =
    let distance : ℕ = distance_of job.system c.vector in
    low-if (c.distance == distance) (walk_fault (claim_of c) (roots job) 0 c.marks) (Some (WrongDistance distance))
    (walk-low (claim_of c) (roots job) 0 c.marks (omega (arith, few))) (near refl)

-- the distance of a claimed vector that is of the grid
near-low : (number : ℕ) (r : Record) → IsRecord number r → first_off 1 r.job.grid r.certificate.vector ≡ None
    → distance_of r.job.system r.certificate.vector ≤ 2 ^ 66
near-low number r fits none =
    let n : ℕ = length r.job.system in
    let each : All AreLadders r.job.grid = subst (λ (g : List Axes). All AreLadders g) (sym fits.grid)
    (All-replicate AreLadders n (axes_of r.modulation) (ladders r.modulation)) in
    let wide : length r.job.grid ≡ n = ap length fits.grid ∙ length-replicate n (axes_of r.modulation) in
    let within : is_in r.job.grid r.certificate.vector ≡ true =
    within_from 1 r.job.grid r.certificate.vector (fits.points ∙ sym wide) none in
    let rows : length (legs r.job.system) ≡ n = length-map r.job.system _ in
    let few = fits.few in
    let small = rows_small (legs r.job.system) (samples r.job.system) r.certificate.vector (omega (arith, rows, few)) fits.legs_are fits.samples_are
    (small_points r.job.grid r.certificate.vector each within) in
    subst (λ (s : List Row). distance_of s r.certificate.vector ≤ 2 ^ 66) (rows_again r.job.system) (omega (arith, small, rows, few))

pub fault-low : (number : ℕ) (r : Record) → IsRecord number r → IsLow (fault_in r)
fault-low number r fits =
    let wide : length r.job.grid ≡ length r.job.system = ap length fits.grid ∙ length-replicate (length r.job.system) (axes_of r.modulation) in
    let few = fits.few in
    let marks = fits.marks in
    from-low r.job r.certificate (first_off 1 r.job.grid r.certificate.vector)
    (off-low (2 ^ 66) 1 r.job.grid r.certificate.vector (omega (arith, wide, few))) (near-low number r fits) (omega (arith, marks))

-- the line of a certificate
name-long : (fault : CheckFault) → length (name_of fault) ≤ 13
name-long (OffGrid n) = omega arith
name-long (WrongDistance n) = omega arith
name-long (Early n) = omega arith
name-long (Better n) = omega arith
name-long (Short n) = omega arith
name-long (Long n) = omega arith

answer-long : (number : ℕ) (fault : Option CheckFault) → number < 1000000000000 → IsLow fault → length (answer_line number fault) ≤ 58
answer-long number None few low = let line = yes-long number few in omega (arith, line)
answer-long number (Some fault) few low = no-long number (carried_by fault) (name_of fault) few (name-long fault) low

-- a record has a sample at least, and its distance and its number of marks
record-octets : (number : ℕ) (r : Record) → IsRecord number r → 30 ≤ length (record_octets r)
unfolding record_octets front_octets claim_octets
record-octets number r fits =
    let a : List ℕ = legs_octets (legs r.job.system) in
    let b : List ℕ = flat_map sample_octets (samples r.job.system) in
    let c : List ℕ = flat_map point_octets r.certificate.vector in
    let d : List ℕ = big_bytes 16 r.certificate.distance in
    let e : List ℕ = big_bytes 4 (length r.certificate.marks) in
    let some = fits.some in
    omega (
      arith,
      some,
      length-append a (b ++ (c ++ d)),
      length-append b (c ++ d),
      length-append c d,
      length-append (a ++ (b ++ (c ++ d))) e,
      length-append (front_octets r) (map mark_octet r.certificate.marks),
      length-samples (samples r.job.system),
      length-map r.job.system (λ (row : Row). row.sample),
    )

-- the lines of records, and how many certificates hold
pub lines-long : (number : ℕ) (records : List Record) → number + length records < 1000000000000 → AreNumbered number records
    → length (check_lines_from number records) ≤ 2 * length (flat_map record_octets records)
unfolding check_line
lines-long number [] few are = omega arith
lines-long number (r ∷ records) few are =
    omega (
      arith,
      answer-long number (fault_in r) (omega (arith, few)) (fault-low number r are.0),
      record-octets number r are.0,
      lines-long (number + 1) records (omega (arith, few)) are.1,
      length-append (check_line number r) (check_lines_from (number + 1) records),
      length-append (record_octets r) (flat_map record_octets records),
    )

one-if : (b : Bool) → (if b then 1 else 0) ≤ 1
one-if true = omega arith
one-if false = omega arith

pub right-few : (records : List Record) → yes_of records ≤ length records
unfolding yes_count
right-few [] = omega arith
right-few (r ∷ records) = let one = one-if (is_none (fault_in r)) in omega (arith, one, right-few records)
