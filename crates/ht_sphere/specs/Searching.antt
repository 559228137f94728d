-- What the search finds.
use Rattle.std.specs.Prelude.{◌≡◌, ◌⊎◌, ◌<◌, ◌≤◌, ℕ, ◌+◌, ◌*◌, ◌^◌, ℤ, unsigned_abs, List, [], ◌∷◌, ◌++◌, length, drop, Bool, false, ◌&&◌, ◌||◌, not}
use Rattle.std.specs.Prelude.{nat_lt}
use Rattle.std.specs.List.{All}
use Rattle.ht_metric.specs.Jobs.{JobView, IsJob}
use Rattle.ht_metric.specs.Vectors.{levels_before}
use Rattle.ht_sphere.specs.Coordinates.{Real, order, cost, from_last}
use Rattle.ht_sphere.specs.Tree.{Reached, inside, inside_of, rounding}

-- the vectors that end in the chosen levels, for these coordinates in front
module _ (leaves_under : List ℤ → ℕ → List Reached) (c : Real) (chosen : List ℤ) (partial : ℕ) where
  abbrev pub leaves_by : List ℤ → List Reached
  leaves_by [] = []
  leaves_by (x ∷ xs) = leaves_under (x ∷ chosen) (partial + cost c chosen x) ++ leaves_by xs

-- the vectors that end in the chosen levels, each with its distance, for these coordinates in front
abbrev pub leaves : List Real → List ℤ → ℕ → List Reached
leaves [] chosen partial = (chosen, partial) ∷ []
leaves (c ∷ cs) chosen partial = leaves_by (leaves cs) c chosen partial (order c chosen)

-- nearer, or as near and before
abbrev pub better : Reached → Reached → Bool
better a b = nat_lt a.1 b.1 || (not (nat_lt b.1 a.1) && levels_before a.0 b.0)

-- the vector is one of these
abbrev pub Among : List Reached → Reached → Type 0
Among [] v = ⊥
Among (x ∷ xs) v = (v ≡ x) ⊎ Among xs v

-- one of the two is the best of all
pub record IsBestOf (old : Reached) (all : List Reached) (new : Reached) : Type 0 where
  pub one : (new ≡ old) ⊎ Among all new
  pub old_is_not : better old new ≡ false
  pub none_is : (v : Reached) → Among all v → better v new ≡ false

-- the levels of a search and the best ones so far are two for each stream
pub record AreSized (job : JobView) (xs best : List ℤ) : Type 0 where
  pub size : length xs ≡ 2 * length job.system
  pub same : length best ≡ length xs
  pub levels : All (λ x. unsigned_abs x ≤ 7) xs

-- a search through these coordinates, below the levels that are chosen from a place on: from what was found and the steps so far
-- to the levels that it leaves, the best of all, and the steps then
pub record IsSearched (cs : List Real) (place p : ℕ) (xs : List ℤ) (old : Reached) (before : ℕ) (left : List ℤ) (now : Reached) (after : ℕ) : Type 0 where
  pub levels : All (λ x. unsigned_abs x ≤ 7) left
  pub chosen : drop place left ≡ drop place xs
  pub best : IsBestOf old (leaves cs (drop place xs) p) now
  pub less : now.1 ≤ old.1
  pub steps : (rho : ℕ) → p ≤ rho → old.1 ≤ rho → after + 1 ≤ before + 2 * inside rho cs (drop place xs) p

-- a job of this number of streams, and two levels for each
pub record IsOpen (j : JobView) (n : ℕ) (xs : List ℤ) : Type 0 where
  pub job : IsJob j
  pub streams : n ≡ length j.system
  pub size : length xs ≡ 2 * length j.system
  pub levels : All (λ x. unsigned_abs x ≤ 7) xs

-- the best vector of a job, its distance, and the steps before and after the search
pub record IsBest (job : JobView) (old levels : List ℤ) (distance before after : ℕ) : Type 0 where
  pub size : length levels ≡ length old
  pub best : IsBestOf (rounding (from_last job.system job.grid) [] 0) (leaves (from_last job.system job.grid) [] 0) (levels, distance)
  pub bound : distance < 2 ^ 66
  pub steps : after + 1 ≤ before + 2 * inside_of job
