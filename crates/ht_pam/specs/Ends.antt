-- What is left of a walk whose two ends move apart: the levels below its start and those above.
use Rattle.std.specs.Prelude.{◌≡◌, ◌⊎◌, ⊤, ℕ, ◌+◌, ◌-◌, ◌^◌, ◌<◌, ℤ, pos, ◌+ℤ◌, ◌-ℤ◌, ◌*ℤ◌, ◌<ℤ◌, ◌≤ℤ◌, List, [], ◌∷◌, ◌++◌}
use Rattle.std.specs.Int.{w32, leading_zeros, trailing_zeros}
use Rattle.ht_pam.specs.Ladders.{level, levels}
use Rattle.ht_pam.specs.Zigzags.{gap, Ascending}

-- the levels of a ladder that a mask allows
abbrev pub levels_in : ℕ → ℕ → List ℤ
levels_in size mask = levels (record { size = size; mask = mask })

-- those of two masks
abbrev pub both : ℕ → ℕ → ℕ → List ℤ
both size below above = levels_in size below ++ levels_in size above

-- the places of the highest and the lowest level that a mask allows
abbrev pub top : ℕ → ℕ
top mask = 31 - leading_zeros w32 mask

abbrev pub bottom : ℕ → ℕ
bottom mask = trailing_zeros w32 mask

-- each level costs less than `n`
abbrev pub Under : (ℤ → ℕ) → ℕ → List ℤ → Type 0
Under cost n [] = ⊤
Under cost n (x ∷ xs) = (cost x < n) × Under cost n xs

-- each level costs more than the later ones do
abbrev pub Descending : (ℤ → ℕ) → List ℤ → Type 0
Descending cost [] = ⊤
Descending cost (x ∷ xs) = Under cost (cost x) xs × Descending cost xs

-- the nearest of all levels is at this place, the lower one at a tie: the target is between the midpoints beside it
pub record IsNearestPlace (size : ℕ) (target : ℤ) (d place : ℕ) : Type 0 where
  pub within : place < size
  pub below : 0 < place → (pos d *ℤ (level size place -ℤ pos 1)) <ℤ target
  pub above : place + 1 < size → target ≤ℤ (pos d *ℤ (level size place +ℤ pos 1))

-- the levels below are nearer the higher they are, and those above at least as near the lower they are
pub record IsZigzag (target : ℤ) (d size below above : ℕ) : Type 0 where
  pub sizes : (size ≡ 1) ⊎ (size ≡ 2) ⊎ (size ≡ 4) ⊎ (size ≡ 8)
  pub below_within : below < 2 ^ size
  pub above_within : above < 2 ^ size
  pub apart : 0 < below → 0 < above → top below < bottom above
  pub diagonal : 0 < below → 0 < d
  pub falls : Descending (gap target d) (levels_in size below)
  pub rises : Ascending (gap target d) (levels_in size above)
