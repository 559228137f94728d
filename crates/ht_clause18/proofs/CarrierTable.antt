-- The table of what subcarriers carry, by a test of each.
use Rattle.std.proofs.Common.{◌≡◌, ℕ, ◌+◌, ◌*◌, ◌^◌, ◌%◌, ◌<◌, List, [], ◌∷◌, Bool, true, false, nat_eq, slice_index_or, refl, ap, subst, arith}
use Rattle.std.specs.Prelude.{bit_and}
use Rattle.std.proofs.lemmas.Bool.{agree_below, agree_below_at, eqb-true, eq-eqb, ne_eqb}
use Rattle.ht_rate.specs.declared.kinds.Carrier.{Carrier}
use Rattle.ht_rate.specs.declared.kinds.Carrier.TheVariants.{Data, Pilot}
use Rattle.ht_clause18.specs.Carriers.{carriers, carrier_of}

-- the bit of an index among those of the pilots
abbrev pub pilot_bit : ℕ → ℕ
pilot_bit index = bit_and 70373039669280 (1 * 2 ^ index % 2 ^ 64)

-- the number of each subcarrier among those of its kind
abbrev pub numbers : List ℕ
numbers =
    0 ∷ 1 ∷ 2 ∷ 3 ∷ 4 ∷ 0 ∷ 5 ∷ 6 ∷ 7 ∷ 8 ∷ 9 ∷ 10 ∷ 11 ∷ 12 ∷ 13 ∷ 14 ∷ 15 ∷ 16 ∷ 17 ∷ 1 ∷ 18 ∷ 19 ∷ 20 ∷ 21 ∷ 22 ∷
    23 ∷ 24 ∷ 25 ∷ 26 ∷ 27 ∷ 28 ∷ 29 ∷ 2 ∷ 30 ∷ 31 ∷ 32 ∷ 33 ∷ 34 ∷ 35 ∷ 36 ∷ 37 ∷ 38 ∷ 39 ∷ 40 ∷ 41 ∷ 42 ∷ 3 ∷ 43 ∷
    44 ∷ 45 ∷ 46 ∷ 47 ∷ []

abbrev pub number_at : ℕ → ℕ
number_at index = slice_index_or numbers index 0

-- a number for each thing that a subcarrier may carry
code : Carrier → ℕ
code (Data m) = 2 * m
code (Pilot k) = 2 * k + 1

code_found : Bool → ℕ → ℕ
code_found true number = 2 * number
code_found false number = 2 * number + 1

same_code : ℕ → Bool
same_code i = nat_eq (code_found (nat_eq (pilot_bit i) 0) (number_at i)) (code (carrier_of i))

tests : agree_below same_code (λ _. true) 52 ≡ true
unfolding code code_found same_code carrier_of
tests = refl

found : (index : ℕ) → index < carriers → code_found (nat_eq (pilot_bit index) 0) (number_at index) ≡ code (carrier_of index)
unfolding same_code
found index lt = eqb-true _ _ (agree_below_at same_code (λ _. true) 52 index tests lt)

data_by : (c : Carrier) (m : ℕ) → 2 * m ≡ code c → Data m ≡ c
unfolding code
data_by (Data n) m e = ap (λ k. Data k) (omega (arith, e))
data_by (Pilot n) m e = absurd (omega (arith, e))

pilot_by : (c : Carrier) (k : ℕ) → 2 * k + 1 ≡ code c → Pilot k ≡ c
unfolding code
pilot_by (Data n) k e = absurd (omega (arith, e))
pilot_by (Pilot n) k e = ap (λ m. Pilot m) (omega (arith, e))

-- where no pilot has the bit of an index there is data, and else a pilot
pub data_at : (index : ℕ) → index < carriers → pilot_bit index ≡ 0 → Data (number_at index) ≡ carrier_of index
unfolding code_found
data_at index lt none =
    data_by (carrier_of index) (number_at index)
    (subst (λ b. code_found b (number_at index) ≡ code (carrier_of index)) (eq-eqb _ _ none) (found index lt))

pub pilot_at : (index : ℕ) → index < carriers → (pilot_bit index ≡ 0 → ⊥) → Pilot (number_at index) ≡ carrier_of index
unfolding code_found
pilot_at index lt some =
    pilot_by (carrier_of index) (number_at index)
    (subst (λ b. code_found b (number_at index) ≡ code (carrier_of index)) (ne_eqb _ _ some) (found index lt))
