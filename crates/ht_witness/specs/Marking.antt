-- The marks of a walk that cuts as early as it may.
use Rattle.std.specs.Prelude.{ℕ, ◌+◌, ℤ, List, [], ◌∷◌, ◌++◌, Bool, true, false, nat_lt, if◌then◌else◌}
use Rattle.ht_pam.specs.Ladders.{levels as allowed}
use Rattle.ht_sphere.specs.Coordinates.{Real, cost}
use Rattle.ht_witness.specs.Walks.{Suffix}

-- the marks of these levels and of all that is below the open ones, where a level is cut exactly where its partial
-- distance is above the claimed one
module _ (claimed : ℕ) (marks_under : List ℤ → ℕ → List Bool) (c : Real) (levels : List ℤ) (partial : ℕ) where
  abbrev pub marks_by : List ℤ → List Bool
  marks_by [] = []
  marks_by (x ∷ xs) =
      (if nat_lt claimed (partial + cost c levels x) then false ∷ [] else true ∷ marks_under (x ∷ levels) (partial + cost c levels x)) ++ marks_by xs

-- the marks of all that is below a suffix
abbrev pub marks_of : ℕ → List Real → List ℤ → ℕ → List Bool
marks_of claimed [] levels partial = []
marks_of claimed (c ∷ ahead) levels partial = marks_by claimed (marks_of claimed ahead) c levels partial (allowed c.ladder)

-- the marks of a walk that goes through these suffixes in turn
abbrev pub marks_through : ℕ → List Suffix → List Bool
marks_through claimed [] = []
marks_through claimed (s ∷ rest) =
    (if nat_lt claimed s.partial then false ∷ [] else true ∷ marks_of claimed s.ahead s.levels s.partial) ++ marks_through claimed rest
