-- How far a vector is from what was received, in whole numbers without limits.
use Rattle.std.specs.Prelude.{ℕ, ◌+◌, ◌*◌, ◌≤◌, ℤ, pos, ◌+ℤ◌, ◌-ℤ◌, ◌*ℤ◌, unsigned_abs, List, [], ◌∷◌}
use Rattle.ht_pam.specs.declared.point.Point.{Point}
use Rattle.ht_metric.specs.declared.complex.Complex.{Complex}
use Rattle.ht_metric.specs.declared.tap.Tap.{Tap}
use Rattle.ht_metric.specs.declared.sample.Sample.{Sample}
use Rattle.ht_metric.specs.Rows.{Row}

-- the sum and the difference of complex numbers
abbrev pub plus : Complex → Complex → Complex
plus a b = record { re = a.re +ℤ b.re; im = a.im +ℤ b.im }

abbrev pub minus : Complex → Complex → Complex
minus a b = record { re = a.re -ℤ b.re; im = a.im -ℤ b.im }

-- an entry times a point
abbrev pub times : Tap → Point → Complex
times r x = record {
  re = (r.re *ℤ x.i) -ℤ (r.im *ℤ x.q);
  im = (r.re *ℤ x.q) +ℤ (r.im *ℤ x.i);
}

-- a real diagonal times a point
abbrev pub scaled : ℕ → Point → Complex
scaled d x = record { re = pos d *ℤ x.i; im = pos d *ℤ x.q }

-- the sum of entries times points
abbrev pub combined : List Tap → List Point → Complex
combined [] xs = record { re = pos 0; im = pos 0 }
combined (r ∷ rs) [] = record { re = pos 0; im = pos 0 }
combined (r ∷ rs) (x ∷ xs) = plus (times r x) (combined rs xs)

-- a sample as a complex number
abbrev pub received : Sample → Complex
received y = record { re = y.re; im = y.im }

-- the square of a number
abbrev pub square : ℤ → ℕ
square z = unsigned_abs z * unsigned_abs z

-- the squared length of a complex number
abbrev pub squared_length : Complex → ℕ
squared_length a = square a.re + square a.im

-- what is left of a row's sample when the row's own point and those to the right of it are taken away
abbrev pub residual : Row → Point → List Point → Complex
residual row x xs = minus (minus (received row.sample) (scaled row.diagonal x)) (combined row.right xs)

-- the sum of the squared lengths of what is left, over all rows
abbrev pub distance_of : List Row → List Point → ℕ
distance_of [] xs = 0
distance_of (row ∷ rows) [] = 0
distance_of (row ∷ rows) (x ∷ xs) = squared_length (residual row x xs) + distance_of rows xs

-- both parts are from -7 to 7
pub record IsInRange (x : Point) : Type 0 where
  pub i : unsigned_abs x.i ≤ 7
  pub q : unsigned_abs x.q ≤ 7
