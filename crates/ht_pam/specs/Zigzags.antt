-- The order in which the levels of a coordinate are tried.
use Rattle.std.specs.Prelude.{⊤, ℕ, ◌+◌, ◌≤◌, ℤ, pos, ◌-ℤ◌, ◌*ℤ◌, unsigned_abs, List, [], ◌∷◌, nat_lt, if◌then◌else◌}
use Rattle.std.specs.Ordering.{int_eq}

-- how far a level, times a diagonal, is from the target
abbrev pub gap : ℤ → ℕ → ℤ → ℕ
gap target d level = unsigned_abs (target -ℤ (pos d *ℤ level))

-- a level before the first one that is as far or farther
abbrev pub put : (ℤ → ℕ) → ℤ → List ℤ → List ℤ
put cost x [] = x ∷ []
put cost x (y ∷ ys) = if nat_lt (cost y) (cost x) then y ∷ put cost x ys else x ∷ y ∷ ys

-- the same levels, the nearest first, and those that are as near in the order in which they stood
abbrev pub nearest_first : (ℤ → ℕ) → List ℤ → List ℤ
nearest_first cost [] = []
nearest_first cost (x ∷ xs) = put cost x (nearest_first cost xs)

-- each level costs at least `n`
abbrev pub From : (ℤ → ℕ) → ℕ → List ℤ → Type 0
From cost n [] = ⊤
From cost n (x ∷ xs) = (n ≤ cost x) × From cost n xs

-- each level costs at most what the later ones do
abbrev pub Ascending : (ℤ → ℕ) → List ℤ → Type 0
Ascending cost [] = ⊤
Ascending cost (x ∷ xs) = From cost (cost x) xs × Ascending cost xs

-- how often a level is there
abbrev pub occurrences : ℤ → List ℤ → ℕ
occurrences x [] = 0
occurrences x (y ∷ ys) = (if int_eq y x then 1 else 0) + occurrences x ys
