-- A certificate holds exactly where it has no fault.
use Rattle.std.proofs.Common.{◌≡◌, ℕ, suc, ◌<◌, List, [], ◌∷◌, ◌++◌, length, Bool, true, false, ◌&&◌, Option, Some, None}
use Rattle.std.proofs.Common.{nat_lt, arith, inl, inr, refl, sym, ap, ◌∙◌}
use Rattle.std.specs.Prelude.{◌==◌}
use Rattle.std.proofs.lemmas.Bool.{cases_Bool, cond-true, cond-false, and_from, and_parts}
use Rattle.std.proofs.lemmas.Bool.Decides.{nat_tests}
use Rattle.ht_pam.specs.Ladders.{has}
use Rattle.ht_pam.specs.declared.axes.Axes.{Axes}
use Rattle.ht_pam.specs.declared.point.Point.{Point}
use Rattle.ht_metric.specs.Distance.{distance_of}
use Rattle.ht_metric.specs.Jobs.{JobView}
use Rattle.ht_metric.specs.Vectors.{is_in}
use Rattle.ht_sphere.specs.Tree.{Reached}
use Rattle.ht_witness.specs.declared.certificate.Certificate.{Certificate}
use Rattle.ht_witness.specs.declared.check_fault.CheckFault.TheVariants.{OffGrid, WrongDistance, Early, Better}
use Rattle.ht_witness.specs.Walks.{Suffix, below, beats, IsWalk, walk_fault}
use Rattle.ht_witness.specs.Certificates.{Checked, claim_of, roots, first_off, fault_from, fault_of}

pub less_from : (m n : ℕ) → nat_lt m n ≡ true → m < n
less_from m n h = grind (arith, nat_tests)

less_is : (m n : ℕ) → m < n → nat_lt m n ≡ true
less_is m n h = grind (arith, nat_tests)

same_from : (m n : ℕ) → (m == n) ≡ true → m ≡ n
same_from m n h = grind (arith, nat_tests)

same_is : (m n : ℕ) → m ≡ n → (m == n) ≡ true
same_is m n h = grind (arith, nat_tests)

pub none_of : {A B : Type 0} (a : A) → Some a ≡ None → B
none_of a e = cc

-- a walk without fault is one
pub walked : (claim : Reached) (todo : List Suffix) (at : ℕ) (marks : List Bool) → walk_fault claim todo at marks ≡ None → IsWalk claim todo marks
walked claim [] at [] h = tt
walked claim [] at (mark ∷ marks) h = none_of _ h
walked claim (s ∷ rest) at [] h = none_of _ h
walked claim (s ∷ rest) at (false ∷ marks) h =
    let test = nat_lt claim.1 s.partial in
    let next = walk_fault claim rest (suc at) marks in
    elim (cases_Bool test) [
      | inl far ↦ (less_from claim.1 s.partial far, walked claim rest (suc at) marks (sym (cond-true test next (Some (Early at)) far) ∙ h))
      | inr near ↦ none_of (Early at) (sym (cond-false test next (Some (Early at)) near) ∙ h)
    ]
walked claim (s ∷ rest) at (true ∷ marks) h =
    let test = beats claim s.ahead s.levels s.partial in
    let next = walk_fault claim (below s.ahead s.levels s.partial ++ rest) (suc at) marks in
    elim (cases_Bool test) [
      | inl beaten ↦ none_of (Better at) (sym (cond-true test (Some (Better at)) next beaten) ∙ h)
      | inr kept ↦ (kept, walked claim (below s.ahead s.levels s.partial ++ rest) (suc at) marks (sym (cond-false test (Some (Better at)) next kept) ∙ h))
    ]

pub without_fault : (claim : Reached) (todo : List Suffix) (at : ℕ) (marks : List Bool) → IsWalk claim todo marks → walk_fault claim todo at marks ≡ None
without_fault claim [] at [] h = refl
without_fault claim [] at (mark ∷ marks) h = absurd h
without_fault claim (s ∷ rest) at [] h = absurd h
without_fault claim (s ∷ rest) at (false ∷ marks) h =
    cond-true (nat_lt claim.1 s.partial) (walk_fault claim rest (suc at) marks) (Some (Early at)) (less_is claim.1 s.partial h.0)
    ∙ without_fault claim rest (suc at) marks h.1
without_fault claim (s ∷ rest) at (true ∷ marks) h =
    cond-false (beats claim s.ahead s.levels s.partial) (Some (Better at))
    (walk_fault claim (below s.ahead s.levels s.partial ++ rest) (suc at) marks) h.0
    ∙ without_fault claim (below s.ahead s.levels s.partial ++ rest) (suc at) marks h.1

-- a vector without a point off the grid is of the grid
pub within_from : (k : ℕ) (grid : List Axes) (x : List Point) → length x ≡ length grid → first_off k grid x ≡ None → is_in grid x ≡ true
within_from k [] [] e h = refl
within_from k [] (p ∷ x) e h = absurd (omega arith)
within_from k (a ∷ grid) [] e h = absurd (omega arith)
within_from k (a ∷ grid) (p ∷ x) e h =
    let test = has a.i p.i && has a.q p.q in
    elim (cases_Bool test) [
      | inl on ↦ and_from test (is_in grid x) on (within_from (suc k) grid x (omega arith) (sym (cond-true test (first_off (suc k) grid x) (Some k) on) ∙ h))
      | inr off ↦ none_of k (sym (cond-false test (first_off (suc k) grid x) (Some k) off) ∙ h)
    ]

pub none_off : (k : ℕ) (grid : List Axes) (x : List Point) → is_in grid x ≡ true → first_off k grid x ≡ None
none_off k [] x h = refl
none_off k (a ∷ grid) [] h = refl
none_off k (a ∷ grid) (p ∷ x) h =
    let test = has a.i p.i && has a.q p.q in
    let both = and_parts test (is_in grid x) h in
    cond-true test (first_off (suc k) grid x) (Some k) both.0 ∙ none_off (suc k) grid x both.1

from_distance : (job : JobView) (certificate : Certificate) → is_in job.grid certificate.vector ≡ true
    → fault_from job certificate None ≡ None → Checked job certificate
from_distance job certificate within h =
    let d = certificate.distance in
    let e = distance_of job.system certificate.vector in
    let walk = walk_fault (claim_of certificate) (roots job) 0 certificate.marks in
    elim (cases_Bool (d == e)) [
      | inl same ↦ record {
        within = within;
        distance = same_from d e same;
        walk = walked (claim_of certificate) (roots job) 0 certificate.marks (sym (cond-true (d == e) walk (Some (WrongDistance e)) same) ∙ h);
      }
      | inr other ↦ none_of (WrongDistance e) (sym (cond-false (d == e) walk (Some (WrongDistance e)) other) ∙ h)
    ]

from_grid : (job : JobView) (certificate : Certificate) (o : Option ℕ) → length certificate.vector ≡ length job.grid
    → first_off 1 job.grid certificate.vector ≡ o → fault_from job certificate o ≡ None → Checked job certificate
from_grid job certificate (Some stream) e f h = none_of (OffGrid stream) h
from_grid job certificate None e f h = from_distance job certificate (within_from 1 job.grid certificate.vector e f) h

pub holds : (job : JobView) (certificate : Certificate) → length certificate.vector ≡ length job.grid
    → fault_of job certificate ≡ None → Checked job certificate
holds job certificate e h = from_grid job certificate (first_off 1 job.grid certificate.vector) e refl h

pub no_fault : (job : JobView) (certificate : Certificate) → Checked job certificate → fault_of job certificate ≡ None
no_fault job certificate checked =
    let d = certificate.distance in
    let e = distance_of job.system certificate.vector in
    let walk = walk_fault (claim_of certificate) (roots job) 0 certificate.marks in
    ap (fault_from job certificate) (none_off 1 job.grid certificate.vector checked.within)
    ∙ cond-true (d == e) walk (Some (WrongDistance e)) (same_is d e checked.distance)
    ∙ without_fault (claim_of certificate) (roots job) 0 certificate.marks checked.walk
