-- A fact of all eight rates, by one test that computes.
use Rattle.std.proofs.Common.{◌≡◌, ℕ, ◌<◌, Bool, true, ◌&&◌}
use Rattle.std.proofs.lemmas.Bool.{agree_below, agree_below_at, and_parts}
use Rattle.ht_clause18.specs.declared.rates.LegacyRate.{LegacyRate}
use Rattle.ht_clause18.specs.declared.rates.LegacyRate.TheVariants.{Mbit6, Mbit9, Mbit12, Mbit18, Mbit24, Mbit36, Mbit48, Mbit54}
use Rattle.ht_clause18.specs.Rates.{coded_bits_of}

unfoldable pub each_rate : (LegacyRate → Bool) → Bool
each_rate p = ((p Mbit6 && p Mbit9) && (p Mbit12 && p Mbit18)) && ((p Mbit24 && p Mbit36) && (p Mbit48 && p Mbit54))

halves : (p : LegacyRate → Bool) → each_rate p ≡ true →
    (((p Mbit6 && p Mbit9) ≡ true) × ((p Mbit12 && p Mbit18) ≡ true))
    × (((p Mbit24 && p Mbit36) ≡ true) × ((p Mbit48 && p Mbit54) ≡ true))
unfolding each_rate
halves p e =
    let whole =
    and_parts ((p Mbit6 && p Mbit9) && (p Mbit12 && p Mbit18)) ((p Mbit24 && p Mbit36) && (p Mbit48 && p Mbit54)) e in (
      and_parts (p Mbit6 && p Mbit9) (p Mbit12 && p Mbit18) whole.0,
      and_parts (p Mbit24 && p Mbit36) (p Mbit48 && p Mbit54) whole.1,
    )

pub at_rate : (p : LegacyRate → Bool) → each_rate p ≡ true → (r : LegacyRate) → p r ≡ true
at_rate p e Mbit6 = (and_parts _ (p Mbit9) (halves p e).0.0).0
at_rate p e Mbit9 = (and_parts (p Mbit6) _ (halves p e).0.0).1
at_rate p e Mbit12 = (and_parts _ (p Mbit18) (halves p e).0.1).0
at_rate p e Mbit18 = (and_parts (p Mbit12) _ (halves p e).0.1).1
at_rate p e Mbit24 = (and_parts _ (p Mbit36) (halves p e).1.0).0
at_rate p e Mbit36 = (and_parts (p Mbit24) _ (halves p e).1.0).1
at_rate p e Mbit48 = (and_parts _ (p Mbit54) (halves p e).1.1).0
at_rate p e Mbit54 = (and_parts (p Mbit48) _ (halves p e).1.1).1

-- and of each bit of their symbols
unfoldable pub each_place : (LegacyRate → ℕ → Bool) → Bool
each_place p = each_rate (λ r. agree_below (p r) (λ _. true) (coded_bits_of r))

pub at_place : (p : LegacyRate → ℕ → Bool) → each_place p ≡ true → (r : LegacyRate) (x : ℕ) → x < coded_bits_of r → p r x ≡ true
unfolding each_place
at_place p test r x lt =
    agree_below_at (p r) (λ _. true) (coded_bits_of r) x (at_rate (λ r. agree_below (p r) (λ _. true) (coded_bits_of r)) test r) lt
