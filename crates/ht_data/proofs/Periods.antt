-- Whole periods of a puncturing pattern fill symbols.
use Rattle.std.proofs.Common.{◌≡◌, ℕ, ◌*◌, ◌/◌, ap, sym, ◌∙◌, arith}
use Rattle.std.proofs.Math.Nat.{mul_comm, mul_assoc}
use Rattle.std.proofs.lemmas.Grind.{div_ceil_times}
use Rattle.ht_rate.specs.declared.kinds.Pattern.{Pattern}
use Rattle.ht_rate.specs.declared.kinds.Pattern.TheVariants.{Half, TwoThirds, ThreeQuarters, FiveSixths}
use Rattle.ht_rate.specs.Schemes.{denominator_of, numerator_of}
use Rattle.ht_conv.specs.Puncturing.{sent_count}
use Rattle.ht_conv.proofs.Counts.{sent_count-ceil}
use Rattle.ht_conv.proofs.Fitting.{moved, products, some_numerator}

-- whole periods send the denominator of the coding rate for each numerator of steps
periods_keep : (p : Pattern) (k : ℕ) → sent_count p (numerator_of p * k) ≡ denominator_of p * k
periods_keep Half k = omega (arith, (div_ceil_times (1 * k) 1 (omega arith)).0, (div_ceil_times (1 * k) 1 (omega arith)).1, sent_count-ceil Half (1 * k))
periods_keep TwoThirds k =
    omega (arith, (div_ceil_times (2 * k) 2 (omega arith)).0, (div_ceil_times (2 * k) 2 (omega arith)).1, sent_count-ceil TwoThirds (2 * k))
periods_keep ThreeQuarters k =
    omega (arith, (div_ceil_times (3 * k) 3 (omega arith)).0, (div_ceil_times (3 * k) 3 (omega arith)).1, sent_count-ceil ThreeQuarters (3 * k))
periods_keep FiveSixths k =
    omega (arith, (div_ceil_times (5 * k) 5 (omega arith)).0, (div_ceil_times (5 * k) 5 (omega arith)).1, sent_count-ceil FiveSixths (5 * k))

-- equal parts of a whole, and those of as many symbols
pub part-whole : (symbols e part all : ℕ) → e * part ≡ all → symbols * all ≡ e * (symbols * part)
part-whole symbols e part all h =
    ap (λ (x : ℕ). symbols * x) (sym h) ∙ sym (mul_assoc symbols e part) ∙ ap (λ (x : ℕ). x * part) (mul_comm symbols e) ∙ mul_assoc e symbols part

-- symbols whose data bits are whole periods send their coded bits
pub sent_symbols : (p : Pattern) (symbols part coded : ℕ) → numerator_of p * (part / numerator_of p) ≡ part → part * denominator_of p ≡ coded * numerator_of p
    → sent_count p (symbols * part) ≡ symbols * coded
sent_symbols p symbols part coded whole rate =
    let n = numerator_of p in
    let d = denominator_of p in
    let w = part / n in
    let kept : w * d ≡ coded = products n w d coded part (some_numerator p) whole rate in
    ap (sent_count p) (part-whole symbols n w part whole) ∙ (periods_keep p (symbols * w) ∙ moved d symbols w coded kept)
