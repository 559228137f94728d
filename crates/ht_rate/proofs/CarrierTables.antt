-- The tables of what subcarriers carry, by a test of each entry.
use Rattle.std.proofs.Common.{◌≡◌, ℕ, ◌+◌, ◌*◌, ◌<◌, List, [], ◌∷◌, Bool, true, nat_eq, slice_index_or, refl, ap, ◌∙◌, arith}
use Rattle.std.proofs.lemmas.Bool.{agree_below, agree_below_at, eqb-true}
use Rattle.ht_rate.specs.declared.kinds.Bandwidth.{Bandwidth}
use Rattle.ht_rate.specs.declared.kinds.Bandwidth.TheVariants.{Mhz20, Mhz40}
use Rattle.ht_rate.specs.declared.kinds.Carrier.{Carrier}
use Rattle.ht_rate.specs.declared.kinds.Carrier.TheVariants.{Data, Pilot}
use Rattle.ht_rate.specs.Schemes.{data_count, pilot_count}
use Rattle.ht_rate.specs.Carriers.{carrier_at}

-- a number for each thing that a subcarrier may carry
code : Carrier → ℕ
code (Data m) = 2 * m
code (Pilot k) = 2 * k + 1

by_code : (c d : Carrier) → code c ≡ code d → c ≡ d
unfolding code
by_code (Data m) (Data n) e = ap (λ k. Data k) (omega (arith, e))
by_code (Data m) (Pilot n) e = absurd (omega (arith, e))
by_code (Pilot m) (Data n) e = absurd (omega (arith, e))
by_code (Pilot m) (Pilot n) e = ap (λ k. Pilot k) (omega (arith, e))

same_code : List Carrier → Bandwidth → ℕ → Bool
same_code table b i = nat_eq (code (slice_index_or table i (Data 0))) (code (carrier_at b i))

-- the table at 20 MHz
abbrev pub table_20 : List Carrier
table_20 =
    Data 0 ∷ Data 1 ∷ Data 2 ∷ Data 3 ∷ Data 4 ∷ Data 5 ∷ Data 6 ∷ Pilot 0 ∷ Data 7 ∷ Data 8 ∷ Data 9 ∷ Data 10 ∷ Data 11 ∷ Data 12 ∷ Data 13 ∷
    Data 14 ∷ Data 15 ∷ Data 16 ∷ Data 17 ∷ Data 18 ∷ Data 19 ∷ Pilot 1 ∷ Data 20 ∷ Data 21 ∷ Data 22 ∷ Data 23 ∷ Data 24 ∷ Data 25 ∷ Data 26 ∷
    Data 27 ∷ Data 28 ∷ Data 29 ∷ Data 30 ∷ Data 31 ∷ Pilot 2 ∷ Data 32 ∷ Data 33 ∷ Data 34 ∷ Data 35 ∷ Data 36 ∷ Data 37 ∷ Data 38 ∷ Data 39 ∷
    Data 40 ∷ Data 41 ∷ Data 42 ∷ Data 43 ∷ Data 44 ∷ Pilot 3 ∷ Data 45 ∷ Data 46 ∷ Data 47 ∷ Data 48 ∷ Data 49 ∷ Data 50 ∷ Data 51 ∷ []

-- the table at 40 MHz
abbrev pub table_40 : List Carrier
table_40 =
    Data 0 ∷ Data 1 ∷ Data 2 ∷ Data 3 ∷ Data 4 ∷ Pilot 0 ∷ Data 5 ∷ Data 6 ∷ Data 7 ∷ Data 8 ∷ Data 9 ∷ Data 10 ∷ Data 11 ∷ Data 12 ∷ Data 13 ∷
    Data 14 ∷ Data 15 ∷ Data 16 ∷ Data 17 ∷ Data 18 ∷ Data 19 ∷ Data 20 ∷ Data 21 ∷ Data 22 ∷ Data 23 ∷ Data 24 ∷ Data 25 ∷ Data 26 ∷ Data 27 ∷
    Data 28 ∷ Data 29 ∷ Data 30 ∷ Data 31 ∷ Pilot 1 ∷ Data 32 ∷ Data 33 ∷ Data 34 ∷ Data 35 ∷ Data 36 ∷ Data 37 ∷ Data 38 ∷ Data 39 ∷ Data 40 ∷
    Data 41 ∷ Data 42 ∷ Data 43 ∷ Data 44 ∷ Pilot 2 ∷ Data 45 ∷ Data 46 ∷ Data 47 ∷ Data 48 ∷ Data 49 ∷ Data 50 ∷ Data 51 ∷ Data 52 ∷ Data 53 ∷
    Data 54 ∷ Data 55 ∷ Data 56 ∷ Data 57 ∷ Data 58 ∷ Data 59 ∷ Data 60 ∷ Data 61 ∷ Data 62 ∷ Pilot 3 ∷ Data 63 ∷ Data 64 ∷ Data 65 ∷ Data 66 ∷
    Data 67 ∷ Data 68 ∷ Data 69 ∷ Data 70 ∷ Data 71 ∷ Data 72 ∷ Data 73 ∷ Data 74 ∷ Data 75 ∷ Pilot 4 ∷ Data 76 ∷ Data 77 ∷ Data 78 ∷ Data 79 ∷
    Data 80 ∷ Data 81 ∷ Data 82 ∷ Data 83 ∷ Data 84 ∷ Data 85 ∷ Data 86 ∷ Data 87 ∷ Data 88 ∷ Data 89 ∷ Data 90 ∷ Data 91 ∷ Data 92 ∷ Data 93 ∷
    Data 94 ∷ Data 95 ∷ Data 96 ∷ Data 97 ∷ Data 98 ∷ Data 99 ∷ Data 100 ∷ Data 101 ∷ Data 102 ∷ Pilot 5 ∷ Data 103 ∷ Data 104 ∷ Data 105 ∷ Data 106 ∷
    Data 107 ∷ []

-- the table of a bandwidth
abbrev pub table_of : Bandwidth → List Carrier
table_of Mhz20 = table_20
table_of Mhz40 = table_40

tests : (b : Bandwidth) → agree_below (same_code (table_of b) b) (λ _. true) (data_count b + pilot_count b) ≡ true
unfolding code same_code carrier_at
tests Mhz20 = refl
tests Mhz40 = refl

-- each entry that the code looks up is what the standard says
pub stands : (b : Bandwidth) (index at : ℕ) → at ≡ index → index < data_count b + pilot_count b → slice_index_or (table_of b) at (Data 0) ≡ carrier_at b index
unfolding same_code
stands b index at e lt =
    ap (λ i. slice_index_or (table_of b) i (Data 0)) e
    ∙ by_code _ _ (eqb-true _ _ (agree_below_at (same_code (table_of b) b) (λ _. true) (data_count b + pilot_count b) index (tests b) lt))
