-- The distance of a job whose numbers are those of the machine is below 2^66.
use Rattle.std.proofs.Common.{ℕ, ◌*◌, ◌^◌, ◌<◌, ◌≤◌, ℤ, pos, ◌-ℤ◌, ◌*ℤ◌, unsigned_abs, w32, FitsSigned}
use Rattle.std.proofs.Common.{List, [], ◌∷◌, length, drop, slice_index_or, All, arith}
use Rattle.std.proofs.Math.Nat.{mul-le-mul}
use Rattle.std.proofs.lemmas.Int.{ints}
use Rattle.std.proofs.lemmas.List.Elements.{All-head, All-tail}
use Rattle.ht_pam.specs.declared.point.Point.{Point}
use Rattle.ht_metric.specs.declared.sample.Sample.{Sample}
use Rattle.ht_metric.specs.declared.tap.Tap.{Tap}
use Rattle.ht_metric.specs.Distance.{IsInRange, combined, distance_of, residual, square, squared_length}
use Rattle.ht_metric.specs.Rows.{Leg, no_sample, rows_of}
use Rattle.ht_capture.specs.Contents.{AreLegs, AreSamples, AreTaps}
use Rattle.ht_capture.proofs.Filed.{samples_behind}
use Rattle.ht_round.proofs.Small.{combined_small, difference_small, product}

sample_small : (z : ℤ) → FitsSigned w32 z → unsigned_abs z ≤ 2147483648
sample_small z f = omega (arith, ints)

-- what is left of a part of a sample
left_small : (y l c : ℤ) (d n : ℕ) → FitsSigned w32 y → unsigned_abs l ≤ 7 → d < 2 ^ 16 → n ≤ 3 → unsigned_abs c ≤ 458752 * n
    → square ((y -ℤ (pos d *ℤ l)) -ℤ c) ≤ 2149580800 * 2149580800
left_small y l c d n f p q few r =
    let stretched : unsigned_abs (pos d *ℤ l) ≤ 458745 = product (pos d) l 65535 7 (omega arith) p in
    let first : unsigned_abs (y -ℤ (pos d *ℤ l)) ≤ 2147942393 =
    difference_small y (pos d *ℤ l) 2147483648 458745 (sample_small y f) stretched in
    let all : unsigned_abs ((y -ℤ (pos d *ℤ l)) -ℤ c) ≤ 2149580800 =
    difference_small (y -ℤ (pos d *ℤ l)) c 2147942393 1638407 first (omega arith) in
    mul-le-mul all all

-- the squared length of a row
row_small : (d : ℕ) (right : List Tap) (s : Sample) (x : Point) (xs : List Point) → d < 2 ^ 16 → AreTaps right → length right ≤ 3
    → FitsSigned w32 s.re → FitsSigned w32 s.im → IsInRange x → All IsInRange xs
    → squared_length (residual (record { diagonal = d; right = right; sample = s }) x xs) ≤ 2 ^ 64
row_small d right s x xs p typed few f g here range =
    let others = combined_small right xs typed range in
    let re = left_small s.re x.i (combined right xs).re d (length right) f here.i p few others.0 in
    let im = left_small s.im x.q (combined right xs).im d (length right) g here.q p few others.1 in
    omega (arith, re, im)

first_re : (samples : List Sample) → AreSamples samples → FitsSigned w32 (slice_index_or samples 0 no_sample).re
first_re [] typed = omega (arith, ints)
first_re (s ∷ samples) typed = typed.0

first_im : (samples : List Sample) → AreSamples samples → FitsSigned w32 (slice_index_or samples 0 no_sample).im
first_im [] typed = omega (arith, ints)
first_im (s ∷ samples) typed = typed.1

pub rows_small : (legs : List Leg) (samples : List Sample) (xs : List Point) → length legs ≤ 4 → AreLegs legs → AreSamples samples → All IsInRange xs
    → distance_of (rows_of legs samples) xs ≤ length legs * 2 ^ 64
rows_small [] samples xs few typed numbers range = omega arith
rows_small (leg ∷ legs) samples [] few typed numbers range = omega arith
rows_small (leg ∷ legs) samples (x ∷ xs) few typed numbers range =
    let count = typed.1 in
    let here = row_small leg.diagonal leg.right (slice_index_or samples 0 no_sample) x xs typed.0 typed.2 (omega (arith, count))
    (first_re samples numbers) (first_im samples numbers) (All-head IsInRange x xs range) (All-tail IsInRange x xs range) in
    let rest = rows_small legs (drop 1 samples) xs (omega arith) typed.3 (samples_behind 1 samples numbers) (All-tail IsInRange x xs range) in
    omega (arith, here, rest)
