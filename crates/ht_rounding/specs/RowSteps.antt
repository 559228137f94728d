-- What a lane knows behind each row.
use Rattle.std.specs.Prelude.{◌≡◌, ℕ, unsigned_abs, ◌+◌, ◌*◌, ◌^◌, ◌<◌, ◌≤◌, List, slice_index}
use Rattle.ht_pam.specs.declared.point.Point.{Point}
use Rattle.ht_metric.specs.declared.complex.Complex.{Complex}
use Rattle.ht_metric.specs.declared.tap.Tap.{Tap}
use Rattle.std.specs.Int.{cast_signed, w32}
use Rattle.ht_rounding.specs.Words.{Holds}
use Rattle.ht_rounding.specs.Proposals.{IsSure, farthest}
use Rattle.ht_rounding.specs.declared.levels.Levels.{Levels}

-- two lanes hold the parts of a complex number
pub record HoldBoth (a b : ℕ) (z : Complex) : Type 0 where
  pub re : Holds a z.re
  pub im : Holds b z.im

-- the point whose levels two lanes have
abbrev pub point_of : ℕ → ℕ → Point
point_of i q = record { i = cast_signed w32 i; q = cast_signed w32 q }

-- both parts are within this
pub record AreWithin (bound : ℕ) (z : Complex) : Type 0 where
  pub re : unsigned_abs z.re ≤ bound
  pub im : unsigned_abs z.im ≤ bound

-- a row of a lane that leaves something to spare: for each target that it holds both levels are sure, every other level costs more by what is to spare
-- then, the row's own cost was to spare before, and it is added to the distance
pub record IsRowSure (i q : Levels) (d spare rho x_i x_q after all : ℕ) (z : Complex) : Type 0 where
  pub gap_i : ℕ
  pub gap_q : ℕ
  pub sure_i : IsSure i d x_i gap_i after z.re
  pub sure_q : IsSure q d x_q gap_q after z.im
  pub less : after + (gap_i * gap_i + gap_q * gap_q) ≤ spare
  pub sum : all ≡ rho + (gap_i * gap_i + gap_q * gap_q)

abbrev pub CertifiesRow : Levels → Levels → ℕ → ℕ → ℕ → ℕ → ℕ → ℕ → ℕ → ℕ → ℕ → Type 0
CertifiesRow i q re im d spare rho x_i x_q after sum =
    0 < after → (z : Complex) → AreWithin farthest z → HoldBoth re im z → IsRowSure i q d spare rho x_i x_q after sum z

-- in each lane the distance and what is to spare are together below 2^32
abbrev pub AreFitting : List ℕ → List ℕ → Type 0
AreFitting spare rho = (k : ℕ) → k < 8 → slice_index spare k + slice_index rho k < 2 ^ 32

-- two lanes have the parts of an entry, which has 16 bits
pub record IsEntry (a b : ℕ) (r : Tap) : Type 0 where
  pub re : cast_signed w32 a ≡ r.re
  pub im : cast_signed w32 b ≡ r.im
  pub few_re : unsigned_abs r.re ≤ 2 ^ 15
  pub few_im : unsigned_abs r.im ≤ 2 ^ 15
