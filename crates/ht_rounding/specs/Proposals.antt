-- What a lane proposes for one coordinate, and what makes it certain.
use Rattle.std.specs.Prelude.{◌≡◌, ℕ, ℤ, unsigned_abs, ◌+◌, ◌-◌, ◌*◌, ◌^◌, ◌<◌, ◌≤◌, List, slice_index}
use Rattle.std.specs.Int.{cast_signed, w32}
use Rattle.ht_pam.specs.Ladders.{Rungs, level}
use Rattle.ht_pam.specs.Zigzags.{gap}
use Rattle.ht_sphere.specs.Coordinates.{first_of, IsMargin}
use Rattle.ht_rounding.specs.Words.{Holds}
use Rattle.ht_rounding.specs.declared.levels.Levels.{Levels}
use Rattle.ht_rounding.specs.declared.levels.Levels.TheVariants.{One, Two, Four, Eight}

-- the number of levels, and the ladder that allows them all
abbrev pub size_of : Levels → ℕ
size_of One = 1
size_of Two = 2
size_of Four = 4
size_of Eight = 8

abbrev pub full : Levels → Rungs
full l = record { size = size_of l; mask = 2 ^ size_of l - 1 }

-- the number is one of so many levels
abbrev pub IsLevel : ℕ → ℤ → Type 0
IsLevel size x = (j : ℕ) × (j < size) × (x ≡ level size j)

-- the lane has one of so many levels, and where the gap is below 2^15, it is what the level leaves of each target within the bound that the lane holds
pub record Proposes (size bound t d x g : ℕ) : Type 0 where
  pub lane : x < 2 ^ 32
  pub left : g < 2 ^ 32
  pub level : IsLevel size (cast_signed w32 x)
  pub gap : g < 2 ^ 15 → (z : ℤ) → unsigned_abs z ≤ bound → Holds t z → gap z d (cast_signed w32 x) ≡ g

-- targets are within this
abbrev pub farthest : ℕ
farthest = 2 ^ 31 + 2 ^ 21

-- a level is the first one of its ladder for a target, leaves the gap, and each other level costs more by the margin
pub record IsSure (l : Levels) (d x g more : ℕ) (z : ℤ) : Type 0 where
  pub gap : gap z d (cast_signed w32 x) ≡ g
  pub first : cast_signed w32 x ≡ first_of (full l) z d
  pub margin : IsMargin (full l) z d (cast_signed w32 x) more
  pub few : unsigned_abs (cast_signed w32 x) ≤ 7

-- where a lane leaves room, its level is sure for each target that it holds
abbrev pub Certifies : Levels → ℕ → ℕ → ℕ → ℕ → ℕ → Type 0
Certifies l t d x g room = 0 < room → (z : ℤ) → unsigned_abs z ≤ farthest → Holds t z → IsSure l d x g (4 * d * room) z

-- what is known of a lane's coordinate, whose diagonal was cut
pub record IsCoordinate (l : Levels) (t d cut x g room : ℕ) : Type 0 where
  pub small : g < 2 ^ 15
  pub within : room ≤ cut
  pub certain : Certifies l t d x g room

-- the diagonals are below 2^16
abbrev pub AreSmall : List ℕ → Type 0
AreSmall d = (k : ℕ) → k < 8 → slice_index d k < 2 ^ 16

-- a diagonal below 2^16, cut below 2^15
pub record IsCut (d cut : ℕ) : Type 0 where
  pub small : d < 2 ^ 16
  pub under : cut ≤ d
  pub few : cut < 2 ^ 15

abbrev pub AreCut : List ℕ → List ℕ → Type 0
AreCut d cut = (k : ℕ) → k < 8 → IsCut (slice_index d k) (slice_index cut k)
