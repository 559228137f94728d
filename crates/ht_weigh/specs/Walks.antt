-- What the search for all leasts hears of the halves, and from which vectors.
use Rattle.std.specs.Prelude.{◌≡◌, ◌<◌, ◌≤◌, ℕ, suc, ◌+◌, ◌-◌, ◌*◌, ◌^◌, ◌==◌, ℤ, pos, ◌-ℤ◌, ◌*ℤ◌, unsigned_abs, List, length, drop, replicate, Bool, true, not}
use Rattle.std.specs.Int.{bit_at}
use Rattle.std.specs.List.{All}
use Rattle.ht_rate.specs.declared.kinds.Modulation.{Modulation}
use Rattle.ht_rate.specs.Schemes.{bits_of}
use Rattle.ht_map.specs.Gray.{label_bit, level_at, point_of}
use Rattle.ht_map.specs.Constellation.{axes_of, full}
use Rattle.ht_pam.specs.Ladders.{Rungs}
use Rattle.ht_metric.specs.Distance.{square}
use Rattle.ht_metric.specs.Jobs.{JobView}
use Rattle.ht_sphere.specs.Coordinates.{Real, first_of, points_from}
use Rattle.ht_sphere.specs.Tree.{Reached}
use Rattle.ht_sphere.specs.Searching.{leaves, Among}
use Rattle.ht_soft.specs.Halves.{axis_named, cut_axis, has_bit, half_axes}
use Rattle.ht_weigh.specs.Leasts.{place_of, AreWithin, IsLowered}

-- one of these vectors has this value at a bit, and is at this distance
pub record Tells (m : Modulation) (all : List Reached) (j n : ℕ) : Type 0 where
  pub vector : Reached
  pub stream : ℕ
  pub bit : ℕ
  pub value : Bool
  pub among : Among all vector
  pub first : 1 ≤ stream
  pub within : bit < bits_of m
  pub has : has_bit m stream bit value (points_from vector.0) ≡ true
  pub place : j ≡ place_of m stream bit value
  pub distance : n ≡ vector.1

-- the first bits of a stream's label, with the distance at which it was found
pub record TellsLabel (m : Modulation) (label stream t count : ℕ) (j n : ℕ) : Type 0 where
  pub bit : ℕ
  pub within : bit < count
  pub place : j ≡ place_of m stream bit (label_bit m label bit)
  pub distance : n ≡ t

-- the labels that the chosen levels of stream k + 1 give, where those of the first stream aren't chosen
pub record TellsStream (m : Modulation) (chosen : List ℤ) (t k : ℕ) (j n : ℕ) : Type 0 where
  pub bit : ℕ
  pub value : Bool
  pub within : bit < bits_of m
  pub has : has_bit m k bit value (points_from chosen) ≡ true
  pub place : j ≡ place_of m (suc k) bit value
  pub distance : n ≡ t

-- those of the streams before this one
pub record TellsBehind (m : Modulation) (chosen : List ℤ) (t count : ℕ) (j n : ℕ) : Type 0 where
  pub stream : ℕ
  pub first : 1 ≤ stream
  pub last : stream < count
  pub tells : TellsStream m chosen t stream j n

-- the cost of the nearest level of a ladder
abbrev pub first_cost : Rungs → ℤ → ℕ → ℕ
first_cost l t d = square (t -ℤ (pos d *ℤ first_of l t d))

-- the least distance of a half of the first stream's points, where the other streams leave the targets re and im
abbrev pub half_cost : Modulation → ℕ → Bool → ℕ → ℤ → ℤ → ℕ → ℕ
half_cost m e value partial re im d = partial + (first_cost (half_axes m e value).q im d + first_cost (half_axes m e value).i re d)

-- a level is the nearest one with another bit k than the level of this name has, wherever that one is the nearest of all; `count`
-- bits name a level
abbrev pub IsAcross : ℕ → ℕ → ℕ → ℤ → Type 0
IsAcross count k name o = (t : ℤ) (d : ℕ) → level_at (axis_named count) name ≡ first_of (full (2 ^ count)) t d
    → first_cost (cut_axis (axis_named count) count k (not (bit_at name (count - 1 - k) == 1))) t d ≡ square (t -ℤ (pos d *ℤ o))

-- the nearest point of the first stream, where the others leave these targets, has this label, and its levels have these costs
pub record IsNamed (m : Modulation) (label : ℕ) (re im : ℤ) (d i_cost q_cost : ℕ) : Type 0 where
  pub within : label < 2 ^ bits_of m
  pub i : (point_of m label).i ≡ first_of (axes_of m).i re d
  pub q : (point_of m label).q ≡ first_of (axes_of m).q im d
  pub of_i : i_cost ≡ first_cost (axes_of m).i re d
  pub of_q : q_cost ≡ first_cost (axes_of m).q im d

-- those of the halves of the first bits that have the other value than a label has
pub record TellsOthers (m : Modulation) (label partial : ℕ) (re im : ℤ) (d count : ℕ) (j n : ℕ) : Type 0 where
  pub bit : ℕ
  pub within : bit < count
  pub place : j ≡ place_of m 1 bit (not (label_bit m label bit))
  pub distance : n ≡ half_cost m bit (not (label_bit m label bit)) partial re im d

-- a job with full constellations, two levels for each stream, and a least distance for each half, none above the clip
pub record IsReady (m : Modulation) (job : JobView) (xs : List ℤ) (clip : ℕ) (leasts : List ℕ) : Type 0 where
  pub full : job.grid ≡ replicate (length job.grid) (axes_of m)
  pub size : length xs ≡ 2 * length job.system
  pub levels : All (λ x. unsigned_abs x ≤ 7) xs
  pub places : length leasts ≡ 48
  pub within : AreWithin clip leasts

-- a walk through these coordinates, below the levels that are chosen from a place on, has heard of all vectors there
pub record IsWalked (m : Modulation) (cs : List Real) (place p : ℕ) (xs : List ℤ) (before : List ℕ) (left : List ℤ) (after : List ℕ) : Type 0 where
  pub levels : All (λ x. unsigned_abs x ≤ 7) left
  pub chosen : drop place left ≡ drop place xs
  pub lowered : IsLowered (Tells m (leaves cs (drop place xs) p)) before after
