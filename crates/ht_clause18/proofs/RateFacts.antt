-- Facts of the eight rates, each by a test of all.
use Rattle.std.proofs.Common.{◌≡◌, ℕ, ◌+◌, ◌*◌, ◌/◌, ◌≤◌, Bool, true, nat_eq, nat_le, ◌&&◌, Some, refl, arith}
use Rattle.std.proofs.lemmas.Bool.{and_parts, eqb-true, leb-true}
use Rattle.std.proofs.lemmas.Grind.{div_ceil_times}
use Rattle.ht_rate.specs.Schemes.{bits_of, denominator_of, numerator_of}
use Rattle.ht_clause18.specs.declared.rates.LegacyRate.{LegacyRate}
use Rattle.ht_clause18.specs.declared.rates.LegacyRate.TheVariants.{Mbit6, Mbit9, Mbit12, Mbit18, Mbit24, Mbit36, Mbit48, Mbit54}
use Rattle.ht_clause18.specs.Rates.{modulation_of, pattern_of, label_bits_of, coded_bits_of, data_bits_of, index_of, rate_of}
use Rattle.ht_clause18.specs.Rates.{needed_bits, symbols_of, pads_of}
use Rattle.ht_clause18.proofs.AllRates.{each_rate, at_rate}

-- the constellation's bits
pub label_bits_of-is : (r : LegacyRate) → label_bits_of r ≡ bits_of (modulation_of r)
unfolding each_rate modulation_of label_bits_of
label_bits_of-is r = eqb-true _ _ (at_rate (λ r. nat_eq (label_bits_of r) (bits_of (modulation_of r))) refl r)

-- 48 labels make the coded bits of a symbol
pub coded_bits_of-is : (r : LegacyRate) → coded_bits_of r ≡ 48 * label_bits_of r
unfolding each_rate label_bits_of coded_bits_of
coded_bits_of-is r = eqb-true _ _ (at_rate (λ r. nat_eq (coded_bits_of r) (48 * label_bits_of r)) refl r)

-- the data bits are the coded bits times R
pub data_bits_of-coded : (r : LegacyRate) → data_bits_of r * denominator_of (pattern_of r) ≡ coded_bits_of r * numerator_of (pattern_of r)
unfolding each_rate data_bits_of coded_bits_of pattern_of
data_bits_of-coded r =
    eqb-true _ _ (at_rate (λ r. nat_eq (data_bits_of r * denominator_of (pattern_of r)) (coded_bits_of r * numerator_of (pattern_of r))) refl r)

pub data_bits_of-is : (r : LegacyRate) → data_bits_of r ≡ coded_bits_of r * numerator_of (pattern_of r) / denominator_of (pattern_of r)
unfolding each_rate data_bits_of coded_bits_of pattern_of
data_bits_of-is r =
    eqb-true _ _ (at_rate (λ r. nat_eq (data_bits_of r) (coded_bits_of r * numerator_of (pattern_of r) / denominator_of (pattern_of r))) refl r)

-- and whole periods of the pattern
pub data_bits_of-periods : (r : LegacyRate) → numerator_of (pattern_of r) * (data_bits_of r / numerator_of (pattern_of r)) ≡ data_bits_of r
unfolding each_rate data_bits_of pattern_of
data_bits_of-periods r =
    eqb-true _ _ (at_rate (λ r. nat_eq (numerator_of (pattern_of r) * (data_bits_of r / numerator_of (pattern_of r))) (data_bits_of r)) refl r)

-- the rate of an index
pub rate_of-index : (r : LegacyRate) → rate_of (index_of r) ≡ Some r
unfolding rate_of
rate_of-index Mbit6 = refl
rate_of-index Mbit9 = refl
rate_of-index Mbit12 = refl
rate_of-index Mbit18 = refl
rate_of-index Mbit24 = refl
rate_of-index Mbit36 = refl
rate_of-index Mbit48 = refl
rate_of-index Mbit54 = refl

-- the ranges
unfoldable is_within : ℕ → ℕ → ℕ → Bool
is_within low high n = nat_le low n && nat_le n high

within : (low high n : ℕ) → is_within low high n ≡ true → (low ≤ n) × (n ≤ high)
unfolding is_within
within low high n e = let parts = and_parts _ _ e in (leb-true low n parts.0, leb-true n high parts.1)

pub label_bits_of-range : (r : LegacyRate) → (1 ≤ label_bits_of r) × (label_bits_of r ≤ 6)
unfolding each_rate is_within label_bits_of
label_bits_of-range r = within 1 6 (label_bits_of r) (at_rate (λ r. is_within 1 6 (label_bits_of r)) refl r)

pub coded_bits_of-range : (r : LegacyRate) → (48 ≤ coded_bits_of r) × (coded_bits_of r ≤ 288)
unfolding each_rate is_within coded_bits_of
coded_bits_of-range r = within 48 288 (coded_bits_of r) (at_rate (λ r. is_within 48 288 (coded_bits_of r)) refl r)

pub data_bits_of-range : (r : LegacyRate) → (24 ≤ data_bits_of r) × (data_bits_of r ≤ 216)
unfolding each_rate is_within data_bits_of
data_bits_of-range r = within 24 216 (data_bits_of r) (at_rate (λ r. is_within 24 216 (data_bits_of r)) refl r)

-- the pads fill the last symbol
pub pads_of-fills : (r : LegacyRate) (length : ℕ) → needed_bits length + pads_of r length ≡ symbols_of r length * data_bits_of r
unfolding pads_of symbols_of
pads_of-fills r length = omega (arith, div_ceil_times (needed_bits length) (data_bits_of r) (omega (arith, data_bits_of-range r)))
