-- Facts of all rates, each by a test of the 64.
use Rattle.std.proofs.Common.{◌≡◌, ◌*◌, ◌/◌, ◌≤◌, nat_eq, refl}
use Rattle.std.proofs.lemmas.Bool.{eqb-true}
use Rattle.ht_rate.specs.declared.rates.Rate.{Rate}
use Rattle.ht_rate.specs.Rates.{bandwidth_of, streams_of, mcs_of, data_carriers_of, pilots_of, carriers_of, label_bits_of}
use Rattle.ht_rate.specs.Rates.{axis_bits_of, stream_bits_of, coded_bits_of, data_bits_of, encoders_of, modulation_of, pattern_of}
use Rattle.ht_rate.specs.Schemes.{numerator_of, denominator_of}
use Rattle.ht_rate.proofs.AllRates.{each_bandwidth, each_streams, each_scheme, each_rate, at_rate, is_within, is_within-true}

-- the range of each parameter
pub streams_of-range : (r : Rate) → (1 ≤ streams_of r) × (streams_of r ≤ 4)
unfolding streams_of is_within each_bandwidth each_streams each_scheme each_rate
streams_of-range r = is_within-true 1 4 (streams_of r) (at_rate (λ r. is_within 1 4 (streams_of r)) refl r)

pub mcs_of-range : (r : Rate) → mcs_of r ≤ 31
unfolding mcs_of streams_of is_within each_bandwidth each_streams each_scheme each_rate
mcs_of-range r = (is_within-true 0 31 (mcs_of r) (at_rate (λ r. is_within 0 31 (mcs_of r)) refl r)).1

pub data_carriers_of-range : (r : Rate) → (52 ≤ data_carriers_of r) × (data_carriers_of r ≤ 108)
unfolding data_carriers_of is_within each_bandwidth each_streams each_scheme each_rate
data_carriers_of-range r = is_within-true 52 108 (data_carriers_of r) (at_rate (λ r. is_within 52 108 (data_carriers_of r)) refl r)

pub pilots_of-range : (r : Rate) → (4 ≤ pilots_of r) × (pilots_of r ≤ 6)
unfolding pilots_of is_within each_bandwidth each_streams each_scheme each_rate
pilots_of-range r = is_within-true 4 6 (pilots_of r) (at_rate (λ r. is_within 4 6 (pilots_of r)) refl r)

pub carriers_of-range : (r : Rate) → (56 ≤ carriers_of r) × (carriers_of r ≤ 114)
unfolding carriers_of data_carriers_of pilots_of is_within each_bandwidth each_streams each_scheme each_rate
carriers_of-range r = is_within-true 56 114 (carriers_of r) (at_rate (λ r. is_within 56 114 (carriers_of r)) refl r)

pub label_bits_of-range : (r : Rate) → (1 ≤ label_bits_of r) × (label_bits_of r ≤ 6)
unfolding label_bits_of modulation_of is_within each_bandwidth each_streams each_scheme each_rate
label_bits_of-range r = is_within-true 1 6 (label_bits_of r) (at_rate (λ r. is_within 1 6 (label_bits_of r)) refl r)

pub axis_bits_of-range : (r : Rate) → (1 ≤ axis_bits_of r) × (axis_bits_of r ≤ 3)
unfolding axis_bits_of label_bits_of modulation_of is_within each_bandwidth each_streams each_scheme each_rate
axis_bits_of-range r = is_within-true 1 3 (axis_bits_of r) (at_rate (λ r. is_within 1 3 (axis_bits_of r)) refl r)

pub stream_bits_of-range : (r : Rate) → (52 ≤ stream_bits_of r) × (stream_bits_of r ≤ 648)
unfolding stream_bits_of data_carriers_of label_bits_of modulation_of is_within each_bandwidth each_streams each_scheme each_rate
stream_bits_of-range r = is_within-true 52 648 (stream_bits_of r) (at_rate (λ r. is_within 52 648 (stream_bits_of r)) refl r)

pub coded_bits_of-range : (r : Rate) → (52 ≤ coded_bits_of r) × (coded_bits_of r ≤ 2592)
unfolding coded_bits_of streams_of stream_bits_of data_carriers_of label_bits_of modulation_of is_within each_bandwidth each_streams each_scheme each_rate
coded_bits_of-range r = is_within-true 52 2592 (coded_bits_of r) (at_rate (λ r. is_within 52 2592 (coded_bits_of r)) refl r)

pub data_bits_of-range : (r : Rate) → (26 ≤ data_bits_of r) × (data_bits_of r ≤ 2160)
unfolding data_bits_of pattern_of coded_bits_of streams_of stream_bits_of data_carriers_of label_bits_of modulation_of is_within each_bandwidth
    each_streams each_scheme each_rate
data_bits_of-range r = is_within-true 26 2160 (data_bits_of r) (at_rate (λ r. is_within 26 2160 (data_bits_of r)) refl r)

pub encoders_of-range : (r : Rate) → (1 ≤ encoders_of r) × (encoders_of r ≤ 2)
unfolding encoders_of bandwidth_of mcs_of streams_of is_within each_bandwidth each_streams each_scheme each_rate
encoders_of-range r = is_within-true 1 2 (encoders_of r) (at_rate (λ r. is_within 1 2 (encoders_of r)) refl r)

-- the products that define the bits of a symbol
pub stream_bits_of-is : (r : Rate) → stream_bits_of r ≡ data_carriers_of r * label_bits_of r
unfolding stream_bits_of
stream_bits_of-is r = refl

pub coded_bits_of-is : (r : Rate) → coded_bits_of r ≡ streams_of r * stream_bits_of r
unfolding coded_bits_of
coded_bits_of-is r = refl

-- the data bits are the coded bits times the coding rate, with no rest
pub data_bits_of-whole : (r : Rate) → data_bits_of r * denominator_of (pattern_of r) ≡ coded_bits_of r * numerator_of (pattern_of r)
unfolding data_bits_of pattern_of coded_bits_of streams_of stream_bits_of data_carriers_of label_bits_of modulation_of each_bandwidth each_streams
    each_scheme each_rate
data_bits_of-whole r =
    eqb-true _ _
    (at_rate (λ r. nat_eq (data_bits_of r * denominator_of (pattern_of r)) (coded_bits_of r * numerator_of (pattern_of r))) refl r)

-- each encoder has the same share of a symbol's coded bits, of its data bits, and of SERVICE and octets
pub coded_bits_of-shared : (r : Rate) → encoders_of r * (coded_bits_of r / encoders_of r) ≡ coded_bits_of r
unfolding encoders_of bandwidth_of mcs_of coded_bits_of streams_of stream_bits_of data_carriers_of label_bits_of modulation_of each_bandwidth
    each_streams each_scheme each_rate
coded_bits_of-shared r =
    eqb-true _ _
    (at_rate (λ r. nat_eq (encoders_of r * (coded_bits_of r / encoders_of r)) (coded_bits_of r)) refl r)

pub data_bits_of-shared : (r : Rate) → encoders_of r * (data_bits_of r / encoders_of r) ≡ data_bits_of r
unfolding encoders_of bandwidth_of mcs_of data_bits_of pattern_of coded_bits_of streams_of stream_bits_of data_carriers_of label_bits_of modulation_of
    each_bandwidth each_streams each_scheme each_rate
data_bits_of-shared r =
    eqb-true _ _
    (at_rate (λ r. nat_eq (encoders_of r * (data_bits_of r / encoders_of r)) (data_bits_of r)) refl r)
