-- What a walk goes through has nothing better than the claim.
use Rattle.std.proofs.Common.{◌≡◌, ℕ, ◌+◌, ◌<◌, ℤ, List, [], ◌∷◌, ◌++◌, map, length, Bool, true, false, arith, inl, inr, refl, sym, subst}
use Rattle.ht_nearest.proofs.Bests as bests
use Rattle.ht_pam.specs.Ladders.{levels as allowed}
use Rattle.ht_pam.specs.Zigzags.{gap}
use Rattle.ht_metric.specs.Distance.{distance_of}
use Rattle.ht_metric.specs.Jobs.{JobView, IsJob, IsNear}
use Rattle.ht_metric.specs.Vectors.{levels_of}
use Rattle.ht_sphere.specs.Coordinates.{Real, target, cost, from_last}
use Rattle.ht_sphere.specs.Tree.{Reached, rounding}
use Rattle.ht_sphere.specs.Searching.{leaves, better, Among, IsBestOf}
use Rattle.ht_sphere.proofs.Bests.{farther, leaves-le}
use Rattle.ht_sphere.proofs.Finding.{answered, good_rows, points_back}
use Rattle.ht_sphere.proofs.Making.{length-from_last}
use Rattle.ht_sphere.proofs.Paths.{in_order, leaf_path, path_leaf, rounding_path}
use Rattle.ht_sphere.proofs.Rows.{way_to}
use Rattle.ht_witness.specs.declared.certificate.Certificate.{Certificate}
use Rattle.ht_witness.specs.Walks.{Suffix, longer, below, beats, IsWalk}
use Rattle.ht_witness.specs.Certificates.{Checked, claim_of, roots}

-- no vector that ends in one of these suffixes is better than the claim
abbrev pub NoneBetter : Reached → List Suffix → Type 0
NoneBetter claim [] = Unit {0}
NoneBetter claim (s ∷ rest) = ((v : Reached) → Among (leaves s.ahead s.levels s.partial) v → better v claim ≡ false) × NoneBetter claim rest

parted : (claim : Reached) (xs ys : List Suffix) → NoneBetter claim (xs ++ ys) → NoneBetter claim xs × NoneBetter claim ys
parted claim [] ys h = (tt, h)
parted claim (x ∷ xs) ys h = let rest = parted claim xs ys h.1 in ((h.0, rest.0), rest.1)

-- those of one level are among those of all levels
module _ (claim : Reached) (c : Real) (cs : List Real) (s : List ℤ) (p : ℕ) where
  by_level : (xs : List ℤ) (x : ℤ) → NoneBetter claim (map (longer c cs s p) xs) → bests.Among xs x
      → (v : Reached) → Among (leaves cs (x ∷ s) (p + cost c s x)) v → better v claim ≡ false
  by_level [] x h there v leaf = absurd there
  by_level (y ∷ ys) x h there v leaf = elim there [
    | inl e ↦ h.0 v (subst (λ (z : ℤ). Among (leaves cs (z ∷ s) (p + cost c s z)) v) (sym e) leaf)
    | inr rest ↦ by_level ys x h.1 rest v leaf
  ]

-- what is below a suffix is all that ends in it
pub from_below : (claim : Reached) (cs : List Real) (s : List ℤ) (p : ℕ) → beats claim cs s p ≡ false → NoneBetter claim (below cs s p)
    → (v : Reached) → Among (leaves cs s p) v → better v claim ≡ false
from_below claim [] s p b h v leaf = elim leaf [ inl e ↦ subst (λ (u : Reached). better u claim ≡ false) (sym e) b | inr none ↦ absurd none ]
from_below claim (c ∷ cs) s p b h v leaf =
    let way = leaf_path (c ∷ cs) s p v leaf in
    by_level claim c cs s p (allowed c.ladder) way.0 h (in_order (gap (target c s) c.diagonal) (allowed c.ladder) way.0 way.1) v
    (path_leaf cs (way.0 ∷ s) (p + cost c s way.0) v way.2)

pub none_better : (claim : Reached) (todo : List Suffix) (marks : List Bool) → IsWalk claim todo marks → NoneBetter claim todo
none_better claim [] marks h = tt
none_better claim (s ∷ rest) [] h = absurd h
none_better claim (s ∷ rest) (false ∷ marks) h =
    (λ v leaf. farther v claim (omega (arith, h.0, leaves-le s.ahead s.levels s.partial v leaf)), none_better claim rest marks h.1)
none_better claim (s ∷ rest) (true ∷ marks) h =
    let under = below s.ahead s.levels s.partial in
    let parts = parted claim under rest (none_better claim (under ++ rest) marks h.1) in
    (from_below claim s.ahead s.levels s.partial h.0 parts.0, parts.1)

-- where there is a coordinate the empty suffix beats nothing
from_roots : (claim : Reached) (cs : List Real) → 0 < length cs → NoneBetter claim (below cs [] 0)
    → (v : Reached) → Among (leaves cs [] 0) v → better v claim ≡ false
from_roots claim [] some h = absurd (omega arith)
from_roots claim (c ∷ cs) some h = from_below claim (c ∷ cs) [] 0 refl h

-- a certificate that holds has the first nearest vector
pub checked_near : (job : JobView) (certificate : Certificate) → IsJob job → Checked job certificate
    → IsNear job certificate.vector × (certificate.distance ≡ distance_of job.system certificate.vector)
checked_near job certificate is checked =
    let rows = job.system in
    let grid = job.grid in
    let all = from_last rows grid in
    let x = certificate.vector in
    let claim = claim_of certificate in
    let some : 0 < length all = let grid_some = is.grid.some in let same = is.streams in omega (arith, length-from_last rows grid is.streams) in
    let none = from_roots claim all some (none_better claim (roots job) certificate.marks checked.walk) in
    let there : Among (leaves all [] 0) claim =
    subst (λ (d : ℕ). let v : Reached = (levels_of x, d) in Among (leaves all [] 0) v) (sym checked.distance)
    (path_leaf all [] 0 (levels_of x, distance_of rows x) (way_to rows grid x is.streams checked.within)) in
    let rounded = path_leaf all [] 0 (rounding all [] 0) (rounding_path all [] 0 (good_rows rows grid is.grid.ladders)) in
    let best : IsBestOf (rounding all [] 0) (leaves all [] 0) claim = record
    { one = inr there; old_is_not = none (rounding all [] 0) rounded; none_is = none } in
    answered job all (levels_of x) certificate.distance x is refl best (sym (points_back x))
