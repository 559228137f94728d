-- Labels, points and the bits of a symbol, as C passes them.
use Rattle.std.specs.Prelude.{◌≡◌, ℕ, ◌-◌, ◌*◌, ◌<◌, ◌^◌, ◌==◌, if◌then◌else◌, List, length, slice_index, slice_index_or, true, Option, Some, None, is_some}
use Rattle.ht_rate.specs.declared.kinds.Modulation.{Modulation}
use Rattle.ht_rate.specs.declared.kinds.Modulation.TheVariants.{Bpsk, Qpsk, Qam16, Qam64}
use Rattle.ht_rate.specs.declared.rates.Rate.{Rate}
use Rattle.ht_rate.specs.Rates.{coded_bits_of, encoders_of}
use Rattle.ht_rate.specs.Schemes.{bits_of}
use Rattle.ht_pam.specs.declared.point.Point.{Point}
use Rattle.ht_map.specs.Gray.{label_of, point_of}
use Rattle.ht_metric.specs.Vectors.{no_point}
use Rattle.ht_parse.specs.Streams.{share_of}

-- the modulation whose labels have this number of bits
abbrev pub modulation_at : ℕ → Option Modulation
modulation_at bits =
    if bits == 1 then Some Bpsk else (if bits == 2 then Some Qpsk else (if bits == 4 then Some Qam16 else (if bits == 6 then Some Qam64 else None)))

-- all of these are labels of the modulation
abbrev pub AreLabels : Modulation → List ℕ → Type 0
AreLabels m labels = (k : ℕ) → k < length labels → slice_index labels k < 2 ^ bits_of m

-- the first of these points are those of the labels
abbrev pub ArePointsBelow : ℕ → Modulation → List ℕ → List Point → Type 0
ArePointsBelow count m labels points = (k : ℕ) → k < count → slice_index_or points k no_point ≡ point_of m (slice_index labels k)

-- the first of these labels are those of the points
abbrev pub AreLabelsBelow : ℕ → Modulation → List Point → List ℕ → Type 0
AreLabelsBelow count m points labels = (k : ℕ) → k < count → label_of m (slice_index_or points k no_point) ≡ Some (slice_index labels k)

-- all of these are points of the modulation
abbrev pub ArePointsOn : Modulation → List Point → Type 0
ArePointsOn m points = (k : ℕ) → k < length points → is_some (label_of m (slice_index_or points k no_point)) ≡ true

-- the bits of a symbol and of its encoders are as many as the rate has
pub record AreSymbolBits (rate : Rate) (bits first second : ℕ) : Type 0 where
  pub whole : bits ≡ coded_bits_of rate
  pub share : first ≡ share_of rate
  pub shares : second ≡ (encoders_of rate - 1) * first

-- the bits are shared out among the encoders that the rate has, as many to each
pub record AreShared (rate : Rate) (bits first second : ℕ) : Type 0 where
  pub whole : bits ≡ encoders_of rate * first
  pub shares : second ≡ (encoders_of rate - 1) * first
