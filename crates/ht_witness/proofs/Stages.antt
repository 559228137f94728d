-- The check of a certificate, step by step.
use Rattle.std.proofs.Common.{◌≡◌, ℕ, ◌-◌, ◌*◌, ◌<◌, ℤ, pos, List, [], ◌∷◌, ◌++◌, length, drop, take, Bool, false}
use Rattle.std.proofs.Common.{Option, Some, append-nil, refl, ap, sym, ◌∙◌, arith}
use Rattle.std.proofs.lemmas.List.{drop_all, length-take}
use Rattle.std.proofs.Math.Seq.{drop-cons}
use Rattle.ht_pam.specs.declared.point.Point.{Point}
use Rattle.ht_metric.specs.Jobs.{JobView, IsJob}
use Rattle.ht_metric.specs.Vectors.{levels_of}
use Rattle.ht_sphere.specs.Coordinates.{Real, from_last, from_q}
use Rattle.ht_sphere.specs.Tree.{Reached}
use Rattle.ht_sphere.proofs.Down.{down_more, down_system}
use Rattle.ht_witness.specs.declared.check_fault.CheckFault.{CheckFault}
use Rattle.ht_witness.specs.declared.check_fault.CheckFault.TheVariants.{Long}
use Rattle.ht_witness.specs.Walks.{below, walk_fault}
use Rattle.ht_witness.specs.Walking.{fault_here}
use Rattle.ht_witness.specs.Marking.{marks_of, marks_through}
use Rattle.ht_witness.specs.Certificates.{roots}
use Rattle.ht_witness.proofs.Accepting.{marks-below}

-- the walk begins with all coordinates
pub all_ahead : (job : JobView) (n : ℕ) → IsJob job → n ≡ length job.system → from_q job.system job.grid (n - 1) ≡ from_last job.system job.grid
all_ahead job n is same =
    let some = is.grid.some in
    let equal = is.streams in
    sym (down_more job.system job.grid n (omega arith)) ∙ down_system job job.system n is refl same

pub started : (job : JobView) (n : ℕ) (s : List ℤ) → IsJob job → n ≡ length job.system → s ≡ []
    → below (from_q job.system job.grid (n - 1)) s 0 ++ [] ≡ roots job
started job n s is same none =
    append-nil (below (from_q job.system job.grid (n - 1)) s 0)
    ∙ ap (λ (cs : List Real). below cs s 0) (all_ahead job n is same) ∙ ap (λ (t : List ℤ). below (from_last job.system job.grid) t 0) none

-- and where it ends
pub one_left : (claim : Reached) (marks : List Bool) (at : ℕ) → at < length marks → fault_here claim marks [] at ≡ Some (Long at)
one_left claim marks at there = ap (walk_fault claim [] at) (drop-cons marks at false there)

-- the fault that a walk comes to
pub walk_ends : (claim mine : Reached) (marks these : List Bool) (job : JobView) (o : Option CheckFault) → mine ≡ claim → these ≡ marks
    → fault_here mine these (roots job) 0 ≡ o → o ≡ walk_fault claim (roots job) 0 marks
walk_ends claim mine marks these job o e f h =
    sym h ∙ ap (λ (c : Reached). walk_fault c (roots job) 0 these) e ∙ ap (walk_fault claim (roots job) 0) f

abbrev pub zeros : List ℤ
zeros = pos 0 ∷ pos 0 ∷ pos 0 ∷ pos 0 ∷ pos 0 ∷ pos 0 ∷ pos 0 ∷ pos 0 ∷ []

-- no level is chosen yet
pub no_levels : (n k : ℕ) → n ≡ k → drop (2 * k) (take (2 * n) zeros) ≡ []
no_levels n k e = drop_all (2 * k) (take (2 * n) zeros) (omega (arith, length-take (2 * n) zeros))

pub claim_is : (x : List Point) (xs : List ℤ) (n d : ℕ) → n ≡ length x → take (2 * length x) xs ≡ levels_of x
    → (let mine : Reached = (take (2 * n) xs, d) in let claim : Reached = (levels_of x, d) in mine ≡ claim)
claim_is x xs n d e h = ap (λ (l : List ℤ). let r : Reached = (l, d) in r) (ap (λ (m : ℕ). take (2 * m) xs) e ∙ h)

-- all marks, where none stood before
pub all_marks : (job : JobView) (d : ℕ) (before after : List Bool) → before ≡ []
    → before ++ marks_through d (roots job) ≡ after ++ [] → after ≡ marks_of d (from_last job.system job.grid) [] 0
all_marks job d before after empty h =
    sym (append-nil after) ∙ sym h ∙ ap (λ (m : List Bool). m ++ marks_through d (roots job)) empty
    ∙ sym (marks-below d (from_last job.system job.grid) [] 0)
