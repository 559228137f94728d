-- The walk of a certificate through the tree of suffixes, mark by mark.
use Rattle.std.specs.Prelude.{◌≡◌, ⊤, ℕ, suc, ◌+◌, ◌*◌, ◌^◌, ◌<◌, ◌≤◌, ℤ, unsigned_abs, List, [], ◌∷◌, ◌++◌, map, length, drop, Bool, true, false, nat_lt}
use Rattle.std.specs.Prelude.{if◌then◌else◌, Option, Some, None, Result, Ok, Err}
use Rattle.std.specs.List.{All}
use Rattle.ht_metric.specs.Jobs.{JobView}
use Rattle.ht_pam.specs.Ladders.{levels as allowed}
use Rattle.ht_sphere.specs.Coordinates.{Real, cost}
use Rattle.ht_sphere.specs.Tree.{Reached}
use Rattle.ht_sphere.specs.Searching.{better}
use Rattle.ht_witness.specs.declared.check_fault.CheckFault.{CheckFault}
use Rattle.ht_witness.specs.declared.check_fault.CheckFault.TheVariants.{Early, Better, Short, Long}

-- A walk can go on at stream k, counted from 1: there is such a stream in the job, the levels are two for each of its
-- streams and each is from -7 to 7, and the partial distance, with 2^65 for each of the streams 1 to k, stays below a bound.
pub record CanWalk (job : JobView) (k : ℕ) (xs : List ℤ) (partial bound : ℕ) : Type 0 where
  pub first : 1 ≤ k
  pub last : k ≤ length job.system
  pub size : length xs ≡ 2 * length job.system
  pub levels : All (λ x. unsigned_abs x ≤ 7) xs
  pub small : partial + 2 ^ 65 * k < bound

-- levels that are the chosen ones from a place on
pub record AreChosen (place : ℕ) (old xs : List ℤ) : Type 0 where
  pub levels : All (λ x. unsigned_abs x ≤ 7) xs
  pub size : length xs ≡ length old
  pub chosen : drop place xs ≡ drop place old

-- a suffix: the coordinates in front of it, the next one first, its levels, and its partial distance
pub record Suffix : Type 0 where
  pub ahead : List Real
  pub levels : List ℤ
  pub partial : ℕ

-- a suffix with one level more
abbrev pub longer : Real → List Real → List ℤ → ℕ → ℤ → Suffix
longer c ahead levels partial x = record { ahead = ahead; levels = x ∷ levels; partial = partial + cost c levels x }

-- those with each allowed level of the next coordinate, ascending; a whole vector has none
abbrev pub below : List Real → List ℤ → ℕ → List Suffix
below [] levels partial = []
below (c ∷ ahead) levels partial = map (longer c ahead levels partial) (allowed c.ladder)

-- the suffix of this partial distance that has this number of coordinates in front, and the levels from that place on
pub record IsAt (count : ℕ) (all : List ℤ) (distance : ℕ) (s : Suffix) : Type 0 where
  pub ahead : length s.ahead ≡ count
  pub levels : s.levels ≡ drop count all
  pub partial : s.partial ≡ distance

-- what is to be walked of a suffix that is open, or cut
abbrev pub entered : Bool → Suffix → List Suffix
entered true s = below s.ahead s.levels s.partial
entered false s = []

-- What comes of a walk by its state and the suffixes that are left, and when it may stop. One that goes on through some of them
-- leaves what comes of it as it is
module _ {State Break Outcome : Type 0} (outcome : State → List Suffix → Outcome) (stops : Outcome → State → Break → Type 0) where
  abbrev pub Walked : State → List Suffix → State → List Suffix → Result (Unit {0}) Break → Type 0
  Walked old before new after (Ok done) = outcome old before ≡ outcome new after
  Walked old before new after (Err stop) = stops (outcome old before) new stop

  abbrev pub Visited : State → Suffix → List Suffix → State → Result Bool Break → Type 0
  Visited old s rest new (Ok is_open) = outcome old (s ∷ rest) ≡ outcome new (entered is_open s ++ rest)
  Visited old s rest new (Err stop) = stops (outcome old (s ∷ rest)) new stop

-- a whole vector is nearer than the claimed one, or as near and before it
abbrev pub beats : Reached → List Real → List ℤ → ℕ → Bool
beats claim [] levels partial = better (levels, partial) claim
beats claim (c ∷ ahead) levels partial = false

-- the marks are those of a walk that goes through these suffixes in turn. A suffix that is cut is farther than the claimed
-- vector. One that is open doesn't beat it, and what is below it is walked before the rest
abbrev pub IsWalk : Reached → List Suffix → List Bool → Type 0
IsWalk claim [] [] = ⊤
IsWalk claim [] (mark ∷ marks) = ⊥
IsWalk claim (s ∷ rest) [] = ⊥
IsWalk claim (s ∷ rest) (false ∷ marks) = (claim.1 < s.partial) × IsWalk claim rest marks
IsWalk claim (s ∷ rest) (true ∷ marks) =
    (beats claim s.ahead s.levels s.partial ≡ false) × IsWalk claim (below s.ahead s.levels s.partial ++ rest) marks

-- the first fault of marks that aren't, where the first of them is the one of this index
abbrev pub walk_fault : Reached → List Suffix → ℕ → List Bool → Option CheckFault
walk_fault claim [] at [] = None
walk_fault claim [] at (mark ∷ marks) = Some (Long at)
walk_fault claim (s ∷ rest) at [] = Some (Short at)
walk_fault claim (s ∷ rest) at (false ∷ marks) = if nat_lt claim.1 s.partial then walk_fault claim rest (suc at) marks else Some (Early at)
walk_fault claim (s ∷ rest) at (true ∷ marks) =
    if beats claim s.ahead s.levels s.partial then Some (Better at)
    else walk_fault claim (below s.ahead s.levels s.partial ++ rest) (suc at) marks
