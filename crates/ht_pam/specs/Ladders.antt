-- The levels of one coordinate of a constellation.
use Rattle.std.specs.Prelude.{◌≡◌, ◌⊎◌, ℕ, zero, suc, ◌-◌, ◌*◌, ◌^◌, ◌<◌, ℤ, pos, ◌-ℤ◌}
use Rattle.std.specs.Prelude.{List, [], ◌∷◌, ◌++◌, Bool, ◌==◌, if◌then◌else◌}
use Rattle.std.specs.Int.{bit_at}
use Rattle.std.specs.Ordering.{int_eq}
use Rattle.std.specs.List.{list_any}

-- how many levels a ladder has, and which of them are allowed: level j where bit j of the mask is set
pub record Rungs : Type 0 where
  pub size : ℕ
  pub mask : ℕ

-- a ladder has 1, 2, 4 or 8 levels, and allows at least one of them
pub record IsLadder (l : Rungs) : Type 0 where
  pub size : (l.size ≡ 1) ⊎ (l.size ≡ 2) ⊎ (l.size ≡ 4) ⊎ (l.size ≡ 8)
  pub some : 0 < l.mask
  pub within : l.mask < 2 ^ l.size

-- level j of a ladder of m levels: 2j - (m - 1)
abbrev pub level : ℕ → ℕ → ℤ
level size j = pos (2 * j) -ℤ pos (size - 1)

-- the allowed ones of the lowest levels, ascending
abbrev pub lowest : Rungs → ℕ → List ℤ
lowest l zero = []
lowest l (suc j) = if bit_at l.mask j == 1 then lowest l j ++ level l.size j ∷ [] else lowest l j

-- the allowed levels, ascending
abbrev pub levels : Rungs → List ℤ
levels l = lowest l l.size

-- the level is an allowed one
abbrev pub has : Rungs → ℤ → Bool
has l x = list_any (λ y. int_eq y x) (levels l)
