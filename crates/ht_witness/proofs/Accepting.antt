-- The marks of a walk that cuts as early as it may are those of a walk.
use Rattle.std.proofs.Common.{◌≡◌, ℕ, ◌+◌, ◌<◌, ◌≤◌, ℤ, List, [], ◌∷◌, ◌++◌, map, Bool, true, false, ◌&&◌, ◌||◌, not, nat_lt, if◌then◌else◌}
use Rattle.std.proofs.Common.{append_assoc, append-nil, inl, inr, refl, ap, sym, ◌∙◌, subst, arith}
use Rattle.std.proofs.lemmas.Bool.{cases_Bool, cond-true, cond-false}
use Rattle.std.proofs.lemmas.Bool.Decides.{nat_tests}
use Rattle.ht_nearest.proofs.Bests as bests
use Rattle.ht_pam.specs.Ladders.{levels as allowed}
use Rattle.ht_pam.specs.Zigzags.{gap}
use Rattle.ht_pam.specs.declared.point.Point.{Point}
use Rattle.ht_metric.specs.Distance.{distance_of}
use Rattle.ht_metric.specs.Jobs.{JobView, IsJob, IsNear}
use Rattle.ht_metric.specs.Vectors.{levels_of}
use Rattle.ht_sphere.specs.Coordinates.{Real, target, cost, from_last}
use Rattle.ht_sphere.specs.Tree.{Reached}
use Rattle.ht_sphere.specs.Searching.{leaves, better, Among}
use Rattle.ht_sphere.proofs.Paths.{among_order, leaf_path, path_leaf}
use Rattle.ht_sphere.proofs.Rows.{leads}
use Rattle.ht_witness.specs.declared.certificate.Certificate.{Certificate}
use Rattle.ht_witness.specs.Walks.{Suffix, longer, below, beats, IsWalk}
use Rattle.ht_witness.specs.Certificates.{Checked, claim_of, roots}
use Rattle.ht_witness.specs.Marking.{marks_by, marks_of, marks_through}
use Rattle.ht_witness.proofs.Faults.{less_from}

-- nothing that ends in these levels is better than the claim
abbrev pub Unbeaten : Reached → List Real → List ℤ → ℕ → Type 0
Unbeaten claim cs s p = (v : Reached) → Among (leaves cs s p) v → better v claim ≡ false

unbeaten : (claim : Reached) (cs : List Real) (s : List ℤ) (p : ℕ) → Unbeaten claim cs s p → beats claim cs s p ≡ false
unbeaten claim [] s p none = none (s, p) (inl refl)
unbeaten claim (c ∷ cs) s p none = refl

-- the levels of one coordinate, where its suffixes are walked by their marks
module _ (claim : Reached) (c : Real) (cs : List Real) (s : List ℤ) (p : ℕ)
    (under : (t : List ℤ) (q : ℕ) (rest : List Suffix) (more : List Bool) → Unbeaten claim cs t q
    → IsWalk claim rest more → IsWalk claim (below cs t q ++ rest) (marks_of claim.1 cs t q ++ more))
    (rest : List Suffix) (more : List Bool) (walk : IsWalk claim rest more) where
  abbrev marks_left : List ℤ → List Bool
  marks_left xs = marks_by claim.1 (marks_of claim.1 cs) c s p xs

  marked_by : (xs : List ℤ) → ((x : ℤ) → bests.Among xs x → Unbeaten claim cs (x ∷ s) (p + cost c s x))
      → IsWalk claim (map (longer c cs s p) xs ++ rest) (marks_left xs ++ more)
  marked_by [] none = walk
  marked_by (x ∷ xs) none =
      let q = p + cost c s x in
      let far = nat_lt claim.1 q in
      let shut : List Bool = false ∷ [] in
      let wide : List Bool = true ∷ marks_of claim.1 cs (x ∷ s) q in
      let todo : List Suffix = map (longer c cs s p) xs ++ rest in
      let on : IsWalk claim todo (marks_left xs ++ more) = marked_by xs (λ y there. none y (inr there)) in
      let goal : List Bool → Type 0 = λ m. IsWalk claim (longer c cs s p x ∷ todo) ((m ++ marks_left xs) ++ more) in
      elim (cases_Bool far) [
        | inl above ↦ subst goal (sym (cond-true far shut wide above)) (less_from claim.1 q above, on)
        | inr within ↦
            let mine = none x (inl refl) in
            let deep = under (x ∷ s) q todo (marks_left xs ++ more) mine on in
            subst goal (sym (cond-false far shut wide within)) (
              unbeaten claim cs (x ∷ s) q mine,
              subst (λ (m : List Bool). IsWalk claim (below cs (x ∷ s) q ++ todo) m)
                  (sym (append_assoc (marks_of claim.1 cs (x ∷ s) q) (marks_left xs) more)) deep,
            )
      ]

-- all that is below a suffix
pub marked : (claim : Reached) (cs : List Real) (s : List ℤ) (p : ℕ) (rest : List Suffix) (more : List Bool) → Unbeaten claim cs s p
    → IsWalk claim rest more → IsWalk claim (below cs s p ++ rest) (marks_of claim.1 cs s p ++ more)
marked claim [] s p rest more none walk = walk
marked claim (c ∷ cs) s p rest more none walk =
    marked_by claim c cs s p (λ t q r m. marked claim cs t q r m) rest more walk (allowed c.ladder)
    (λ x there v leaf. none v (path_leaf (c ∷ cs) s p v (
      x,
      among_order (gap (target c s) c.diagonal) (allowed c.ladder) x there,
      leaf_path cs (x ∷ s) (p + cost c s x) v leaf,
    )))

not_better : (m n : ℕ) (b : Bool) → n ≤ m → (b ≡ true → n < m) → (nat_lt m n || (not (nat_lt n m) && b)) ≡ false
not_better m n true le less = let lt = less refl in grind (arith, nat_tests)
not_better m n false le less = grind (arith, nat_tests)

-- the first nearest vector is unbeaten
near_unbeaten : (job : JobView) (x : List Point) (d : ℕ) → IsJob job → IsNear job x → d ≡ distance_of job.system x
    → Unbeaten (levels_of x, d) (from_last job.system job.grid) [] 0
near_unbeaten job x d is near same v leaf =
    let all = from_last job.system job.grid in
    let lead = leads job.system job.grid v is.streams (leaf_path all [] 0 v leaf) in
    let y = lead.vector in
    let claim : Reached = (levels_of x, distance_of job.system x) in
    let other : Reached = (levels_of y, distance_of job.system y) in
    let kept : better other claim ≡ false =
    not_better (distance_of job.system y) (distance_of job.system x) _ (near.nearest y lead.within) (λ b. near.first y lead.within b) in
    subst (λ (n : ℕ). let mine : Reached = (levels_of x, n) in better v mine ≡ false) (sym same)
    (subst (λ (u : Reached). better u claim ≡ false) (sym lead.is) kept)

-- and its certificate holds
pub accepted : (job : JobView) (certificate : Certificate) → IsJob job → IsNear job certificate.vector
    → certificate.distance ≡ distance_of job.system certificate.vector
    → certificate.marks ≡ marks_of certificate.distance (from_last job.system job.grid) [] 0 → Checked job certificate
accepted job certificate is near distance marks =
    let all = from_last job.system job.grid in
    let claim = claim_of certificate in
    let nothing : List Suffix = [] in
    let none : List Bool = [] in
    let walk : IsWalk claim (roots job ++ nothing) (marks_of certificate.distance all [] 0 ++ none) =
    marked claim all [] 0 nothing none (near_unbeaten job certificate.vector certificate.distance is near distance) tt in
    record {
      within = near.within;
      distance = distance;
      walk = subst (λ (todo : List Suffix). IsWalk claim todo certificate.marks) (append-nil (roots job))
          (subst (λ (m : List Bool). IsWalk claim (roots job ++ nothing) m) (append-nil (marks_of certificate.distance all [] 0) ∙ sym marks) walk);
    }

-- the marks of all that is below a suffix are those of a walk through what is below it
marks-through : (d : ℕ) (xs ys : List Suffix) → marks_through d (xs ++ ys) ≡ marks_through d xs ++ marks_through d ys
marks-through d [] ys = refl
marks-through d (s ∷ xs) ys =
    let mine : List Bool = if nat_lt d s.partial then false ∷ [] else true ∷ marks_of d s.ahead s.levels s.partial in
    ap (λ (m : List Bool). mine ++ m) (marks-through d xs ys) ∙ sym (append_assoc mine (marks_through d xs) (marks_through d ys))

marks-by : (d : ℕ) (c : Real) (cs : List Real) (s : List ℤ) (p : ℕ) (xs : List ℤ)
    → marks_by d (marks_of d cs) c s p xs ≡ marks_through d (map (longer c cs s p) xs)
marks-by d c cs s p [] = refl
marks-by d c cs s p (x ∷ xs) =
    let q = p + cost c s x in
    let mine : List Bool = if nat_lt d q then false ∷ [] else true ∷ marks_of d cs (x ∷ s) q in
    ap (λ (m : List Bool). mine ++ m) (marks-by d c cs s p xs)

pub marks-below : (d : ℕ) (cs : List Real) (s : List ℤ) (p : ℕ) → marks_of d cs s p ≡ marks_through d (below cs s p)
marks-below d [] s p = refl
marks-below d (c ∷ cs) s p = marks-by d c cs s p (allowed c.ladder)

-- a suffix that is open is marked, and what is below it comes next
pub open_more : (d : ℕ) (s : Suffix) (rest : List Suffix) (before after : List Bool) → s.partial ≤ d → after ≡ before ++ true ∷ []
    → before ++ marks_through d (s ∷ rest) ≡ after ++ marks_through d (below s.ahead s.levels s.partial ++ rest)
open_more d s rest before after near added =
    let test : nat_lt d s.partial ≡ false = grind (arith, nat_tests) in
    let shut : List Bool = false ∷ [] in
    let one : List Bool = true ∷ [] in
    let more = marks_through d rest in
    let under = below s.ahead s.levels s.partial in
    let deep = marks_of d s.ahead s.levels s.partial in
    ap (λ (m : List Bool). before ++ (m ++ more)) (cond-false (nat_lt d s.partial) shut (true ∷ deep) test)
    ∙ sym (append_assoc before one (deep ++ more)) ∙ ap (λ (m : List Bool). m ++ (deep ++ more)) (sym added)
    ∙ ap (λ (m : List Bool). after ++ (m ++ more)) (marks-below d s.ahead s.levels s.partial)
    ∙ ap (λ (m : List Bool). after ++ m) (sym (marks-through d under rest))
