-- How the numbers of bits, symbols, pads and steps of a PSDU depend on one another.
use Rattle.std.proofs.Common.{◌≡◌, ℕ, zero, suc, ◌+◌, ◌*◌, ◌/◌, ◌<◌, ◌≤◌, Bool, true, nat_eq, nat_le, refl, arith}
use Rattle.std.proofs.lemmas.Bool.{eqb-true, leb-true}
use Rattle.std.proofs.Math.Nat.{le_trans, lt_of_mul-lt-mul_right, mul-le-mul_right}
use Rattle.std.proofs.lemmas.Grind.{div_ceil_times}
use Rattle.ht_rate.specs.declared.rates.Rate.{Rate}
use Rattle.ht_rate.specs.Rates.{bandwidth_of, streams_of, mcs_of, data_carriers_of, label_bits_of, stream_bits_of, coded_bits_of, data_bits_of}
use Rattle.ht_rate.specs.Rates.{encoders_of, modulation_of, pattern_of, needed_bits_of, symbols_of, pads_of, labels_of, steps_of}
use Rattle.ht_rate.specs.Schemes.{numerator_of, denominator_of}
use Rattle.ht_rate.proofs.AllRates.{each_bandwidth, each_streams, each_scheme, each_rate, at_rate}
use Rattle.ht_rate.proofs.RateFacts.{data_bits_of-range, data_bits_of-shared, encoders_of-range}

-- the symbols hold the bits, and one symbol less does not
pub symbols_of-holds : (r : Rate) (length : ℕ) → (needed_bits_of r length ≤ symbols_of r length * data_bits_of r)
    × (symbols_of r length * data_bits_of r < needed_bits_of r length + data_bits_of r)
unfolding symbols_of
symbols_of-holds r length = div_ceil_times (needed_bits_of r length) (data_bits_of r) (omega (arith, data_bits_of-range r))

-- more octets take no fewer symbols
fewer : (a b d m n : ℕ) → a * d < n + d → m ≤ b * d → n ≤ m → a ≤ b
fewer a b d m n below enough le =
    let next : (b + 1) * d ≡ b * d + d = grind arith in
    let less : a < b + 1 = lt_of_mul-lt-mul_right d (omega arith) in
    omega arith

pub symbols_of-monotone : (r : Rate) (short long : ℕ) → short ≤ long → symbols_of r short ≤ symbols_of r long
unfolding needed_bits_of
symbols_of-monotone r short long le =
    fewer (symbols_of r short) (symbols_of r long) (data_bits_of r) (needed_bits_of r long) (needed_bits_of r short)
    (symbols_of-holds r short).1 (symbols_of-holds r long).0 (omega arith)

-- the most labels of a frame, by a test of the longest at each rate
few : Rate → Bool
few r = nat_le (labels_of r 65535) 1048896

few_tests : each_rate few ≡ true
unfolding few labels_of symbols_of needed_bits_of encoders_of bandwidth_of mcs_of data_bits_of pattern_of coded_bits_of streams_of stream_bits_of
    data_carriers_of label_bits_of modulation_of each_bandwidth each_streams each_scheme each_rate
few_tests = refl

pub labels_of-bound : (r : Rate) (length : ℕ) → length ≤ 65535 → labels_of r length ≤ 1048896
unfolding few labels_of
labels_of-bound r length le =
    le_trans (mul-le-mul_right (data_carriers_of r * streams_of r) (symbols_of-monotone r length 65535 le)) (leb-true _ _ (at_rate few few_tests r))

-- the pads fill the last symbol
pub pads_of-fills : (r : Rate) (length : ℕ) → needed_bits_of r length + pads_of r length ≡ symbols_of r length * data_bits_of r
unfolding pads_of
pads_of-fills r length = omega (arith, symbols_of-holds r length)

shared : (encoders length : ℕ) → 1 ≤ encoders → encoders ≤ 2 → encoders * ((8 * length + 16) / encoders + 6) ≡ 16 + 8 * length + 6 * encoders
shared zero length low high = absurd (omega arith)
shared (suc zero) length low high = omega arith
shared (suc (suc zero)) length low high = omega arith
shared (suc (suc (suc n))) length low high = absurd (omega arith)

-- the encoders' codewords are the needed bits
pub steps_of-shared : (r : Rate) (length : ℕ) → encoders_of r * steps_of r length ≡ needed_bits_of r length
unfolding steps_of needed_bits_of
steps_of-shared r length = shared (encoders_of r) length (encoders_of-range r).0 (encoders_of-range r).1

share_fits : (encoders steps share symbols : ℕ) → 1 ≤ encoders → encoders ≤ 2 → encoders * steps ≤ symbols * (encoders * share) → steps ≤ symbols * share
share_fits zero steps share symbols low high le = absurd (omega arith)
share_fits (suc zero) steps share symbols low high le = omega arith
share_fits (suc (suc zero)) steps share symbols low high le = omega arith
share_fits (suc (suc (suc n))) steps share symbols low high le = absurd (omega arith)

-- and each fits into its encoder's share of the symbols
pub steps_of-within : (r : Rate) (length : ℕ) → steps_of r length ≤ symbols_of r length * (data_bits_of r / encoders_of r)
steps_of-within r length =
    let holds : encoders_of r * steps_of r length ≤ symbols_of r length * (encoders_of r * (data_bits_of r / encoders_of r)) =
    rw (steps_of-shared r length, data_bits_of-shared r) (symbols_of-holds r length).0 in
    share_fits (encoders_of r) (steps_of r length) (data_bits_of r / encoders_of r) (symbols_of r length) (encoders_of-range r).0 (encoders_of-range r).1 holds

-- a symbol's data bits of an encoder are whole periods of the puncturing pattern, and are coded into its share
pub data_share-periods : (r : Rate)
    → numerator_of (pattern_of r) * (data_bits_of r / encoders_of r / numerator_of (pattern_of r)) ≡ data_bits_of r / encoders_of r
unfolding encoders_of bandwidth_of mcs_of data_bits_of pattern_of coded_bits_of streams_of stream_bits_of data_carriers_of label_bits_of modulation_of
    each_bandwidth each_streams each_scheme each_rate
data_share-periods r =
    eqb-true _ _
    (at_rate (λ r. nat_eq (numerator_of (pattern_of r) * (data_bits_of r / encoders_of r / numerator_of (pattern_of r)))
    (data_bits_of r / encoders_of r)) refl r)

pub data_share-coded : (r : Rate)
    → data_bits_of r / encoders_of r * denominator_of (pattern_of r) ≡ coded_bits_of r / encoders_of r * numerator_of (pattern_of r)
unfolding encoders_of bandwidth_of mcs_of data_bits_of pattern_of coded_bits_of streams_of stream_bits_of data_carriers_of label_bits_of modulation_of
    each_bandwidth each_streams each_scheme each_rate
data_share-coded r =
    eqb-true _ _
    (at_rate (λ r. nat_eq (data_bits_of r / encoders_of r * denominator_of (pattern_of r))
    (coded_bits_of r / encoders_of r * numerator_of (pattern_of r))) refl r)
