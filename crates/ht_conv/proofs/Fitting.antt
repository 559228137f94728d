-- A codeword's coded bits fit into the shares of the frame's symbols.
use Rattle.std.proofs.Common.{◌≡◌, ℕ, ◌*◌, ◌/◌, ◌<◌, ◌≤◌, sym, ap, ◌∙◌, subst, arith}
use Rattle.std.proofs.Math.Nat.{eq_of_mul-eq-mul_left, mul_comm, mul_assoc}
use Rattle.std.proofs.lemmas.Grind.{div_ceil_times}
use Rattle.ht_rate.specs.declared.rates.Rate.{Rate}
use Rattle.ht_rate.specs.declared.kinds.Pattern.{Pattern}
use Rattle.ht_rate.specs.declared.kinds.Pattern.TheVariants.{Half, TwoThirds, ThreeQuarters, FiveSixths}
use Rattle.ht_rate.specs.Rates.{coded_bits_of, data_bits_of, encoders_of, pattern_of, steps_of, symbols_of}
use Rattle.ht_rate.specs.Schemes.{denominator_of, numerator_of}
use Rattle.ht_rate.proofs.LengthFacts.{data_share-coded, data_share-periods, steps_of-within}
use Rattle.ht_conv.specs.Puncturing.{sent_count}
use Rattle.ht_conv.proofs.Counts.{sent_count-ceil}

-- whole periods keep the denominator of the rate for each numerator of steps, and fewer steps keep no more
periods_keep : (p : Pattern) (steps k : ℕ) → steps ≤ numerator_of p * k → sent_count p steps ≤ denominator_of p * k
periods_keep Half steps k within = omega (arith, (div_ceil_times steps 1 (omega arith)).1, sent_count-ceil Half steps)
periods_keep TwoThirds steps k within = omega (arith, (div_ceil_times steps 2 (omega arith)).1, sent_count-ceil TwoThirds steps)
periods_keep ThreeQuarters steps k within = omega (arith, (div_ceil_times steps 3 (omega arith)).1, sent_count-ceil ThreeQuarters steps)
periods_keep FiveSixths steps k within = omega (arith, (div_ceil_times steps 5 (omega arith)).1, sent_count-ceil FiveSixths steps)

pub some_numerator : (p : Pattern) → 0 < numerator_of p
some_numerator Half = omega arith
some_numerator TwoThirds = omega arith
some_numerator ThreeQuarters = omega arith
some_numerator FiveSixths = omega arith

pub products : (n w d share part : ℕ) → 0 < n → n * w ≡ part → part * d ≡ share * n → w * d ≡ share
products n w d share part some a b =
    eq_of_mul-eq-mul_left n some (w * d) share (sym (mul_assoc n w d) ∙ (ap (λ k. k * d) a ∙ (b ∙ mul_comm share n)))

pub moved : (d symbols w share : ℕ) → w * d ≡ share → d * (symbols * w) ≡ symbols * share
moved d symbols w share e = mul_comm d (symbols * w) ∙ (mul_assoc symbols w d ∙ ap (λ k. symbols * k) e)

pub sent_fits : (r : Rate) (octets : ℕ) → sent_count (pattern_of r) (steps_of r octets) ≤ symbols_of r octets * (coded_bits_of r / encoders_of r)
sent_fits r octets =
    let p = pattern_of r in
    let n = numerator_of p in
    let d = denominator_of p in
    let part = data_bits_of r / encoders_of r in
    let w = part / n in
    let share = coded_bits_of r / encoders_of r in
    let symbols = symbols_of r octets in
    let steps = steps_of r octets in
    let whole : n * w ≡ part = data_share-periods r in
    let regrouped : symbols * part ≡ n * (symbols * w) =
    ap (λ k. symbols * k) (sym whole)
    ∙ (sym (mul_assoc symbols n w) ∙ (ap (λ k. k * w) (mul_comm symbols n) ∙ mul_assoc n symbols w)) in
    let inside : steps ≤ n * (symbols * w) = subst (λ k. steps ≤ k) regrouped (steps_of-within r octets) in
    let coded : w * d ≡ share = products n w d share part (some_numerator p) whole (data_share-coded r) in
    subst (λ k. sent_count p steps ≤ k) (moved d symbols w share coded) (periods_keep p steps (symbols * w) inside)
