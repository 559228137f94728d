-- How many bits each encoder has.
use Rattle.std.proofs.Common.{◌≡◌, ℕ, ◌*◌, ◌/◌, ◌%◌, ◌<◌, ◌≤◌, List, length, Bool, ap, sym, ◌∙◌, arith}
use Rattle.std.proofs.Math.Nat.{mul-mod_right, mul-div_cancel_left}
use Rattle.ht_rate.specs.declared.rates.Rate.{Rate}
use Rattle.ht_rate.specs.Rates.{encoders_of}
use Rattle.ht_rate.proofs.RateFacts.{encoders_of-range}
use Rattle.ht_parse.specs.Encoders.{IsParsed}
use Rattle.ht_library.specs.Mapped.{AreShared}

-- they share the bits evenly
pub shared-even : (r : Rate) (bits first second : ℕ) → AreShared r bits first second → bits % encoders_of r ≡ 0
shared-even r bits first second are = ap (λ (n : ℕ). n % encoders_of r) are.whole ∙ mul-mod_right (encoders_of r) first

same_factor : (e a b : ℕ) → 1 ≤ e → e * a ≡ e * b → a ≡ b
same_factor e a b some same =
    let some_too : 0 < e = omega (arith, some) in
    sym (mul-div_cancel_left a some_too) ∙ (ap (λ (n : ℕ). n / e) same ∙ mul-div_cancel_left b some_too)

-- the first list that is shared out has as many bits as there is room for
pub parsed-first : (r : Rate) (bits a b : List Bool) (first second : ℕ) → IsParsed r bits a b → AreShared r (length bits) first second
    → first ≡ length a
parsed-first r bits a b first second parsed are =
    same_factor (encoders_of r) first (length a) (encoders_of-range r).0 (sym are.whole ∙ parsed.whole)
