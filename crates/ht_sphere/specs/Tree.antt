-- The tree of all suffixes of the coordinates.
use Rattle.std.specs.Prelude.{ℕ, ◌+◌, ℤ, pos, List, [], ◌∷◌, Bool, true, false, nat_lt, slice_index_or}
use Rattle.ht_metric.specs.Jobs.{JobView}
use Rattle.ht_sphere.specs.Coordinates.{Real, order, cost, from_last}

-- what a suffix counts, 1 if its partial distance is at most rho: the argument says whether rho is less than it
abbrev pub one : Bool → ℕ
one true = 0
one false = 1

-- how many suffixes end in the chosen levels and have a partial distance of at most rho, for these coordinates in front
module _ (inside_under : List ℤ → ℕ → ℕ) (c : Real) (chosen : List ℤ) (partial : ℕ) where
  abbrev pub inside_by : List ℤ → ℕ
  inside_by [] = 0
  inside_by (x ∷ xs) = inside_under (x ∷ chosen) (partial + cost c chosen x) + inside_by xs

abbrev pub inside : ℕ → List Real → List ℤ → ℕ → ℕ
inside rho [] chosen partial = one (nat_lt rho partial)
inside rho (c ∷ cs) chosen partial = one (nat_lt rho partial) + inside_by (inside rho cs) c chosen partial (order c chosen)

-- levels with their distance
abbrev pub Reached : Type 0
Reached = List ℤ × ℕ

-- successive rounding: each coordinate has the level that is nearest behind those chosen before
abbrev pub rounding : List Real → List ℤ → ℕ → Reached
rounding [] chosen partial = (chosen, partial)
rounding (c ∷ cs) chosen partial =
    rounding cs (slice_index_or (order c chosen) 0 (pos 0) ∷ chosen) (partial + cost c chosen (slice_index_or (order c chosen) 0 (pos 0)))

-- how many suffixes of the coordinates of a job, the empty one too, have a partial distance of at most that of successive rounding
abbrev pub inside_of : JobView → ℕ
inside_of job = let cs = from_last job.system job.grid in inside (rounding cs [] 0).1 cs [] 0
