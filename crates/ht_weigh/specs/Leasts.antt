-- The least distances of the halves that label bits make, and how a search lowers them.
use Rattle.std.specs.Prelude.{◌≡◌, ◌<◌, ◌≤◌, ℕ, ◌+◌, ◌-◌, ◌*◌, List, length, slice_index, Bool, if◌then◌else◌}
use Rattle.ht_rate.specs.declared.kinds.Modulation.{Modulation}
use Rattle.ht_rate.specs.Schemes.{bits_of}

-- one for either value of a bit
abbrev pub side : Bool → ℕ
side value = if value then 1 else 0

-- where the least distance of a half stands: by stream, counted from 1, by bit of its label, counted from 0, and by the bit's value
abbrev pub place_of : Modulation → ℕ → ℕ → Bool → ℕ
place_of m stream e value = 2 * ((stream - 1) * bits_of m + e) + side value

-- none of them is above this distance
abbrev pub AreWithin : ℕ → List ℕ → Type 0
AreWithin clip leasts = (j : ℕ) → slice_index leasts j ≤ clip

-- The least distances are lowered to those that are heard of, and no further. `Heard j n` says that a vector of half j is at
-- distance n. So each is at most what it was, and at most what is heard of its half; and whatever bounds from below what it
-- was and what is heard still does.
pub record IsLowered (Heard : ℕ → ℕ → Type 0) (old new : List ℕ) : Type 0 where
  pub size : length new ≡ length old
  pub falls : (j : ℕ) → slice_index new j ≤ slice_index old j
  pub low : (j n : ℕ) → Heard j n → slice_index new j ≤ n
  pub sound : (bound : ℕ → ℕ) → ((j : ℕ) → j < length old → bound j ≤ slice_index old j) → ((j n : ℕ) → Heard j n → bound j ≤ n)
      → (j : ℕ) → j < length old → bound j ≤ slice_index new j

-- a distance that is heard of one half
pub record IsOf (half least : ℕ) (j n : ℕ) : Type 0 where
  pub place : j ≡ half
  pub distance : n ≡ least
