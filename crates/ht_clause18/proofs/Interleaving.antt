-- The permutations and back, by a test of every place of every rate.
use Rattle.std.proofs.Common.{◌≡◌, ℕ, ◌-◌, ◌*◌, ◌/◌, ◌<◌, ◌≤◌, nat_eq, nat_lt, nat_le, List, Bool, false, length, get_or, refl, ap, ◌∙◌, arith}
use Rattle.std.proofs.lemmas.Bool.{eqb-true, ltb-true, leb-true}
use Rattle.std.proofs.lemmas.List.FromFn.{get_or-map-range_with_len, length-map-range_with_len}
use Rattle.ht_clause18.specs.declared.rates.LegacyRate.{LegacyRate}
use Rattle.ht_clause18.specs.Rates.{label_bits_of, axis_bits_of, coded_bits_of}
use Rattle.ht_clause18.specs.Interleaver.{first, second, first_back, second_back, place_of, origin_of, interleaved}
use Rattle.ht_clause18.proofs.AllRates.{each_rate, each_place, at_place}

-- each step stays among the places
pub first-bound : (r : LegacyRate) (x : ℕ) → x < coded_bits_of r → first r x < coded_bits_of r
unfolding each_place each_rate coded_bits_of first
first-bound r x lt = ltb-true (first r x) (coded_bits_of r) (at_place (λ r x. nat_lt (first r x) (coded_bits_of r)) refl r x lt)

pub second-bound : (r : LegacyRate) (x : ℕ) → x < coded_bits_of r → second r x < coded_bits_of r
unfolding each_place each_rate coded_bits_of label_bits_of axis_bits_of second
second-bound r x lt = ltb-true (second r x) (coded_bits_of r) (at_place (λ r x. nat_lt (second r x) (coded_bits_of r)) refl r x lt)

pub second_back-bound : (r : LegacyRate) (x : ℕ) → x < coded_bits_of r → second_back r x < coded_bits_of r
unfolding each_place each_rate coded_bits_of label_bits_of axis_bits_of second_back
second_back-bound r x lt = ltb-true (second_back r x) (coded_bits_of r) (at_place (λ r x. nat_lt (second_back r x) (coded_bits_of r)) refl r x lt)

pub first_back-bound : (r : LegacyRate) (x : ℕ) → x < coded_bits_of r → first_back r x < coded_bits_of r
unfolding each_place each_rate coded_bits_of first_back
first_back-bound r x lt = ltb-true (first_back r x) (coded_bits_of r) (at_place (λ r x. nat_lt (first_back r x) (coded_bits_of r)) refl r x lt)

-- there and back, and back and there
back-there : (r : LegacyRate) (x : ℕ) → x < coded_bits_of r → first_back r (second_back r (second r (first r x))) ≡ x
unfolding each_place each_rate coded_bits_of label_bits_of axis_bits_of first second first_back second_back
back-there r x lt =
    eqb-true (first_back r (second_back r (second r (first r x)))) x
    (at_place (λ r x. nat_eq (first_back r (second_back r (second r (first r x)))) x) refl r x lt)

there-back : (r : LegacyRate) (x : ℕ) → x < coded_bits_of r → second r (first r (first_back r (second_back r x))) ≡ x
unfolding each_place each_rate coded_bits_of label_bits_of axis_bits_of first second first_back second_back
there-back r x lt =
    eqb-true (second r (first r (first_back r (second_back r x)))) x
    (at_place (λ r x. nat_eq (second r (first r (first_back r (second_back r x)))) x) refl r x lt)

-- how far the numbers in between go
pub row-fits : (r : LegacyRate) (x : ℕ) → x < coded_bits_of r → (coded_bits_of r - 1) * (16 * x / coded_bits_of r) ≤ 16 * x
unfolding each_place each_rate coded_bits_of
row-fits r x lt = leb-true ((coded_bits_of r - 1) * (16 * x / coded_bits_of r)) (16 * x)
    (at_place (λ r x. nat_le ((coded_bits_of r - 1) * (16 * x / coded_bits_of r)) (16 * x)) refl r x lt)

-- places and origins
pub place_of-bound : (r : LegacyRate) (k : ℕ) → k < coded_bits_of r → place_of r k < coded_bits_of r
unfolding place_of
place_of-bound r k lt = second-bound r (first r k) (first-bound r k lt)

pub origin_of-bound : (r : LegacyRate) (j : ℕ) → j < coded_bits_of r → origin_of r j < coded_bits_of r
unfolding origin_of
origin_of-bound r j lt = first_back-bound r (second_back r j) (second_back-bound r j lt)

pub origin_of-place_of : (r : LegacyRate) (k : ℕ) → k < coded_bits_of r → origin_of r (place_of r k) ≡ k
unfolding place_of origin_of
origin_of-place_of r k lt = back-there r k lt

pub place_of-origin_of : (r : LegacyRate) (j : ℕ) → j < coded_bits_of r → place_of r (origin_of r j) ≡ j
unfolding place_of origin_of
place_of-origin_of r j lt = there-back r j lt

-- interleaved bits by their places
pub length-interleaved : (r : LegacyRate) (bits : List Bool) → length (interleaved r bits) ≡ coded_bits_of r
unfolding interleaved
length-interleaved r bits = length-map-range_with_len (λ j. get_or bits (origin_of r j) false) 0 (coded_bits_of r)

pub interleaved-at : (r : LegacyRate) (bits : List Bool) (j : ℕ) → j < coded_bits_of r → get_or (interleaved r bits) j false ≡ get_or bits (origin_of r j) false
unfolding interleaved
interleaved-at r bits j lt =
    get_or-map-range_with_len (λ j. get_or bits (origin_of r j) false) 0 (coded_bits_of r) j j false lt (omega arith)

pub interleaved-place : (r : LegacyRate) (bits : List Bool) (k : ℕ) → k < coded_bits_of r
    → get_or (interleaved r bits) (place_of r k) false ≡ get_or bits k false
interleaved-place r bits k lt =
    interleaved-at r bits (place_of r k) (place_of-bound r k lt) ∙ ap (λ i. get_or bits i false) (origin_of-place_of r k lt)
