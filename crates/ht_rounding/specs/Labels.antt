-- Labels by lanes.
use Rattle.std.specs.Prelude.{◌≡◌, ℕ, ◌+◌, ◌%◌, ◌<◌, List, [], ◌∷◌, Option, Some, IfSome, map, slice_get, slice_index, take, unwrap_or}
use Rattle.std.specs.Int.{cast_signed, w32}
use Rattle.ht_map.specs.Gray.{Axis, bits_at, joined, no_bits, one_bit, two_bits, three_bits}
use Rattle.ht_pam.specs.declared.point.Point.{Point}
use Rattle.ht_metric.specs.Jobs.{JobView, near}
use Rattle.ht_rate.specs.declared.kinds.Modulation.{Modulation}
use Rattle.ht_rate.specs.declared.kinds.Modulation.TheVariants.{Bpsk, Qpsk, Qam16, Qam64}
use Rattle.ht_rounding.specs.declared.levels.Levels.{Levels}
use Rattle.ht_rounding.specs.declared.levels.Levels.TheVariants.{One, Two, Four, Eight}
use Rattle.ht_rounding.specs.declared.eight.Eight.{Eight as EightLanes}
use Rattle.ht_rounding.specs.declared.eight.Labelled.{Labelled}
use Rattle.ht_rounding.specs.InLanes.{IsInLane}
use Rattle.ht_rounding.specs.Proposals.{IsLevel, size_of}

-- the bits that name the levels (IEEE Std 802.11-2012, clause 20.3.11.9)
abbrev pub axis_of : Levels → Axis
axis_of One = no_bits
axis_of Two = one_bit
axis_of Four = two_bits
axis_of Eight = three_bits

-- the levels of I and of Q
abbrev pub i_levels : Modulation → Levels
i_levels Bpsk = Two
i_levels Qpsk = Two
i_levels Qam16 = Four
i_levels Qam64 = Eight

abbrev pub q_levels : Modulation → Levels
q_levels Bpsk = One
q_levels Qpsk = Two
q_levels Qam16 = Four
q_levels Qam64 = Eight

-- where a lane has a level, another lane has the bits that name it
pub record NamedBy (levels : Levels) (x bits : ℕ) : Type 0 where
  pub is : bits_at (axis_of levels) (cast_signed w32 x) ≡ Some bits
  pub few : bits < 8

abbrev pub IsNamed : Levels → ℕ → ℕ → Type 0
IsNamed levels x bits = IsLevel (size_of levels) (cast_signed w32 x) → NamedBy levels x bits

-- the label of a point with such levels
abbrev pub label_by : Levels → Levels → Point → ℕ
label_by i q p = unwrap_or (joined (size_of q) (bits_at (axis_of i) p.i) (bits_at (axis_of q) p.q)) 0

-- the labels of lane k, stream by stream
abbrev pub labels_in : Labelled → ℕ → List ℕ
labels_in r k =
    take r.streams (slice_index r.first k % 256 ∷ slice_index r.second k % 256 ∷ slice_index r.third k % 256 ∷ slice_index r.fourth k % 256 ∷ [])

-- lane k has the distance of a job's first nearest vector, and the labels of its points by this
pub record IsLabelled (label : Point → ℕ) (r : Labelled) (k : ℕ) (job : JobView) : Type 0 where
  pub distance : slice_index r.distance k ≡ (near job).distance
  pub labels : map label (near job).vector ≡ labels_in r k

-- where there is such a job, and lane k is sure, it has the job's distance and labels
abbrev pub IsLabelledIn : (Point → ℕ) → Labelled → ℕ → Option JobView → Type 0
IsLabelledIn label r k job = IfSome job (λ j. 0 < slice_index r.sure k → IsLabelled label r k j)

-- each lane that is sure has the distance and the labels of its job: lane 0 of the one that has so many others before it, and so on
abbrev pub AreLabelledFrom : (Point → ℕ) → List JobView → ℕ → Labelled → Type 0
AreLabelledFrom label jobs at r = (k : ℕ) → k < 8 → IsLabelledIn label r k (slice_get jobs (at + k))

-- no lane is sure
abbrev pub IsUnsure : Labelled → Type 0
IsUnsure r = (k : ℕ) → k < 8 → slice_index r.sure k ≡ 0

-- lane k has a job where it says so
abbrev pub HasJob : Levels → Levels → EightLanes → ℕ → ℕ → JobView → Type 0
HasJob i q eight streams k job = 0 < slice_index eight.plain k → IsInLane i q eight.channel eight.samples k streams job
