-- How many heads and jobs come at most.
use Rattle.std.proofs.Common.{◌≡◌, ◌⊎◌, ℕ, zero, suc, ◌+◌, ◌-◌, ◌*◌, ◌<◌, ◌≤◌, true, ◌||◌, nat_lt, refl, ap, ◌∙◌, inl, inr, arith}
use Rattle.std.proofs.lemmas.Bool.{or_cases}
use Rattle.std.proofs.lemmas.Bool.Decides.{nat_tests}
use Rattle.std.proofs.Math.Nat.{mul-le-mul_left, mul-le-mul_right}
use Rattle.ht_rate.specs.declared.rates.Rate.{Rate}
use Rattle.ht_rate.specs.Rates.{streams_of, data_carriers_of, pilots_of, carriers_of, label_bits_of, stream_bits_of}
use Rattle.ht_rate.specs.Rates.{coded_bits_of, data_bits_of, modulation_of, pattern_of, needed_bits_of}
use Rattle.ht_rate.proofs.AllRates.{each_bandwidth, each_streams, each_scheme, each_rate, at_rate}
use Rattle.ht_rate.proofs.RateFacts.{encoders_of-range, carriers_of-range}

less : (x y : ℕ) → nat_lt x y ≡ true → x < y
less x y e = grind (arith, nat_tests)

-- a rate has 56 subcarriers, or 54 data bits a symbol and more
few_or_fast : (r : Rate) → (carriers_of r < 57) ⊎ (53 < data_bits_of r)
unfolding carriers_of pilots_of data_bits_of pattern_of coded_bits_of streams_of stream_bits_of data_carriers_of label_bits_of modulation_of
    each_bandwidth each_streams each_scheme each_rate
few_or_fast r =
    elim (or_cases (nat_lt (carriers_of r) 57) (nat_lt 53 (data_bits_of r)) (at_rate (λ r. nat_lt (carriers_of r) 57 || nat_lt 53 (data_bits_of r)) refl r)) [
      | inl e ↦ inl (less (carriers_of r) 57 e)
      | inr e ↦ inr (less 53 (data_bits_of r) e)
    ]

needed_few : (r : Rate) (length : ℕ) → length ≤ 65535 → needed_bits_of r length ≤ 524308
unfolding needed_bits_of
needed_few r length le = omega (arith, encoders_of-range r)

few_symbols : (n bits needed : ℕ) → 53 < bits → needed ≤ 524308 → n * bits < needed + bits → n ≤ 9710
few_symbols zero bits needed fast le lt = omega arith
few_symbols (suc m) bits needed fast le lt =
    let times : (suc m) * bits ≡ m * bits + bits = omega arith in
    let low : m * 54 ≤ m * bits = mul-le-mul_left m (omega (arith, fast)) in
    omega (arith, times, low)

product : (n most count wide : ℕ) → n ≤ most → count ≤ wide → n * count ≤ most * wide
product n most count wide a b =
    let one : n * count ≤ most * count = mul-le-mul_right count a in
    let two : most * count ≤ most * wide = mul-le-mul_left most b in
    omega (arith, one, two)

-- the jobs of a frame
pub jobs_few : (r : Rate) (length n count : ℕ) → length ≤ 65535 → n ≤ 20166
    → n * data_bits_of r < needed_bits_of r length + data_bits_of r → count ≤ carriers_of r
    → n * count ≤ 1129296
jobs_few r length n count le most lt few =
    elim (few_or_fast r) [
      | inl narrow ↦ product n 20166 count 56 most (omega (arith, few, narrow))
      | inr fast ↦
          let symbols : n ≤ 9710 = few_symbols n (data_bits_of r) (needed_bits_of r length) fast (needed_few r length le) lt in
          omega (arith, product n 9710 count 114 symbols (omega (arith, few, carriers_of-range r)))
    ]

-- the jobs of a symbol and those of the symbols behind it
pub jobs_parted : (symbols symbol count : ℕ) → symbol < symbols → (symbols - symbol) * count ≡ count + (symbols - symbol - 1) * count
jobs_parted symbols symbol count lt =
    let one : symbols - symbol ≡ (symbols - symbol - 1) + 1 = omega arith in
    let times : ((symbols - symbol - 1) + 1) * count ≡ count + (symbols - symbol - 1) * count = omega arith in
    ap (λ n. n * count) one ∙ times
