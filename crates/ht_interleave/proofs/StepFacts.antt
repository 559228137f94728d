-- The first two steps and back, by a test of every place.
use Rattle.std.proofs.Common.{◌≡◌, ℕ, ◌-◌, ◌*◌, ◌/◌, ◌<◌, ◌≤◌, nat_eq, nat_lt, nat_le, refl}
use Rattle.std.proofs.lemmas.Bool.{eqb-true, ltb-true, leb-true}
use Rattle.ht_rate.specs.declared.rates.Rate.{Rate}
use Rattle.ht_rate.specs.Rates.{bandwidth_of, modulation_of, label_bits_of, data_carriers_of, stream_bits_of, axis_bits_of}
use Rattle.ht_rate.proofs.AllRates.{each_bandwidth, each_scheme}
use Rattle.ht_interleave.specs.Steps.{columns_of, rows_of, first, second, first_back, second_back}
use Rattle.ht_interleave.proofs.Shapes.{each_shape, each_place, at_place}

-- each step stays among the places
pub first-bound : (rate : Rate) (x : ℕ) → x < stream_bits_of rate → first rate x < stream_bits_of rate
unfolding each_place each_shape each_bandwidth each_scheme bandwidth_of modulation_of label_bits_of data_carriers_of stream_bits_of columns_of rows_of first
first-bound rate x lt = ltb-true (first rate x) (stream_bits_of rate) (at_place (λ rate x. nat_lt (first rate x) (stream_bits_of rate)) (λ n. refl) rate x lt)

pub second-bound : (rate : Rate) (x : ℕ) → x < stream_bits_of rate → second rate x < stream_bits_of rate
unfolding each_place each_shape each_bandwidth each_scheme bandwidth_of modulation_of label_bits_of data_carriers_of stream_bits_of columns_of
    axis_bits_of second
second-bound rate x lt =
    ltb-true (second rate x) (stream_bits_of rate) (at_place (λ rate x. nat_lt (second rate x) (stream_bits_of rate)) (λ n. refl) rate x lt)

pub second_back-bound : (rate : Rate) (x : ℕ) → x < stream_bits_of rate → second_back rate x < stream_bits_of rate
unfolding each_place each_shape each_bandwidth each_scheme bandwidth_of modulation_of label_bits_of data_carriers_of stream_bits_of columns_of
    axis_bits_of second_back
second_back-bound rate x lt =
    ltb-true (second_back rate x) (stream_bits_of rate) (at_place (λ rate x. nat_lt (second_back rate x) (stream_bits_of rate)) (λ n. refl) rate x lt)

pub first_back-bound : (rate : Rate) (x : ℕ) → x < stream_bits_of rate → first_back rate x < stream_bits_of rate
unfolding each_place each_shape each_bandwidth each_scheme bandwidth_of modulation_of label_bits_of data_carriers_of stream_bits_of columns_of rows_of
    first_back
first_back-bound rate x lt =
    ltb-true (first_back rate x) (stream_bits_of rate) (at_place (λ rate x. nat_lt (first_back rate x) (stream_bits_of rate)) (λ n. refl) rate x lt)

-- the two steps and back, and the other way round
pub back-there : (rate : Rate) (x : ℕ) → x < stream_bits_of rate → first_back rate (second_back rate (second rate (first rate x))) ≡ x
unfolding each_place each_shape each_bandwidth each_scheme bandwidth_of modulation_of label_bits_of data_carriers_of stream_bits_of columns_of rows_of
    axis_bits_of first second first_back second_back
back-there rate x lt = eqb-true (first_back rate (second_back rate (second rate (first rate x)))) (x)
    (at_place (λ rate x. nat_eq (first_back rate (second_back rate (second rate (first rate x)))) (x)) (λ n. refl) rate x lt)

pub there-back : (rate : Rate) (x : ℕ) → x < stream_bits_of rate → second rate (first rate (first_back rate (second_back rate x))) ≡ x
unfolding each_place each_shape each_bandwidth each_scheme bandwidth_of modulation_of label_bits_of data_carriers_of stream_bits_of columns_of rows_of
    axis_bits_of first second first_back second_back
there-back rate x lt = eqb-true (second rate (first rate (first_back rate (second_back rate x)))) (x)
    (at_place (λ rate x. nat_eq (second rate (first rate (first_back rate (second_back rate x)))) (x)) (λ n. refl) rate x lt)

-- the column of a place, and how far the numbers in between go
pub column-small : (rate : Rate) (x : ℕ) → x < stream_bits_of rate → columns_of rate * x / stream_bits_of rate ≤ x
unfolding each_place each_shape each_bandwidth each_scheme bandwidth_of modulation_of label_bits_of data_carriers_of stream_bits_of columns_of
column-small rate x lt = leb-true (columns_of rate * x / stream_bits_of rate) (x)
    (at_place (λ rate x. nat_le (columns_of rate * x / stream_bits_of rate) (x)) (λ n. refl) rate x lt)

pub column-fits : (rate : Rate) (x : ℕ) → x < stream_bits_of rate → columns_of rate * x < 65536
unfolding each_place each_shape each_bandwidth each_scheme bandwidth_of modulation_of label_bits_of data_carriers_of stream_bits_of columns_of
column-fits rate x lt = ltb-true (columns_of rate * x) (65536) (at_place (λ rate x. nat_lt (columns_of rate * x) (65536)) (λ n. refl) rate x lt)

pub row-fits : (rate : Rate) (x : ℕ) → x < stream_bits_of rate → (stream_bits_of rate - 1) * (x / rows_of rate) ≤ columns_of rate * x
unfolding each_place each_shape each_bandwidth each_scheme bandwidth_of modulation_of label_bits_of data_carriers_of stream_bits_of columns_of rows_of
row-fits rate x lt = leb-true ((stream_bits_of rate - 1) * (x / rows_of rate)) (columns_of rate * x)
    (at_place (λ rate x. nat_le ((stream_bits_of rate - 1) * (x / rows_of rate)) (columns_of rate * x)) (λ n. refl) rate x lt)
