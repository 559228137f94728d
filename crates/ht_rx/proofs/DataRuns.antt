-- Runs of data subcarriers, by a test of each entry of the tables.
use Rattle.std.proofs.Common.{◌≡◌, ℕ, ◌+◌, ◌<◌, ◌≤◌, List, [], ◌∷◌, Bool, true, false}
use Rattle.std.proofs.Common.{◌&&◌, if◌then◌else◌, nat_eq, nat_le, nat_lt, slice_index_or, ap, refl, subst, sym, ◌∙◌, arith}
use Rattle.std.proofs.lemmas.Bool.{agree_below, agree_below_at, and_parts, eqb-true, leb-true, lt-ltb}
use Rattle.ht_rate.specs.declared.kinds.Bandwidth.{Bandwidth}
use Rattle.ht_rate.specs.declared.kinds.Bandwidth.TheVariants.{Mhz20, Mhz40}
use Rattle.ht_rate.specs.declared.kinds.Carrier.{Carrier}
use Rattle.ht_rate.specs.declared.kinds.Carrier.TheVariants.{Data, Pilot}
use Rattle.ht_rate.specs.declared.rates.Rate.{Rate}
use Rattle.ht_rate.specs.Carriers.{carrier_at, carrier_of}
use Rattle.ht_rate.specs.Rates.{bandwidth_of, carriers_of, data_carriers_of, pilots_of}
use Rattle.ht_rate.specs.Schemes.{data_count, pilot_count}
use Rattle.ht_results.specs.Captured.{kind_of}
use Rattle.ht_eights.specs.DataRuns.{IsDataRun}

-- the table at 20 MHz
abbrev pub runs_20 : List ℕ
runs_20 =
    7 ∷ 6 ∷ 5 ∷ 4 ∷ 3 ∷ 2 ∷ 1 ∷ 0 ∷ 13 ∷ 12 ∷ 11 ∷ 10 ∷ 9 ∷ 8 ∷ 7 ∷ 6 ∷ 5 ∷ 4 ∷ 3 ∷ 2 ∷ 1 ∷ 0 ∷ 12 ∷ 11 ∷ 10 ∷ 9 ∷ 8 ∷ 7 ∷ 6 ∷ 5 ∷ 4 ∷ 3 ∷
    2 ∷ 1 ∷ 0 ∷ 13 ∷ 12 ∷ 11 ∷ 10 ∷ 9 ∷ 8 ∷ 7 ∷ 6 ∷ 5 ∷ 4 ∷ 3 ∷ 2 ∷ 1 ∷ 0 ∷ 7 ∷ 6 ∷ 5 ∷ 4 ∷ 3 ∷ 2 ∷ 1 ∷ []

-- the table at 40 MHz
abbrev pub runs_40 : List ℕ
runs_40 =
    5 ∷ 4 ∷ 3 ∷ 2 ∷ 1 ∷ 0 ∷ 27 ∷ 26 ∷ 25 ∷ 24 ∷ 23 ∷ 22 ∷ 21 ∷ 20 ∷ 19 ∷ 18 ∷ 17 ∷ 16 ∷ 15 ∷ 14 ∷ 13 ∷ 12 ∷ 11 ∷ 10 ∷ 9 ∷ 8 ∷ 7 ∷ 6 ∷ 5 ∷
    4 ∷ 3 ∷ 2 ∷ 1 ∷ 0 ∷ 13 ∷ 12 ∷ 11 ∷ 10 ∷ 9 ∷ 8 ∷ 7 ∷ 6 ∷ 5 ∷ 4 ∷ 3 ∷ 2 ∷ 1 ∷ 0 ∷ 18 ∷ 17 ∷ 16 ∷ 15 ∷ 14 ∷ 13 ∷ 12 ∷ 11 ∷ 10 ∷ 9 ∷ 8 ∷
    7 ∷ 6 ∷ 5 ∷ 4 ∷ 3 ∷ 2 ∷ 1 ∷ 0 ∷ 13 ∷ 12 ∷ 11 ∷ 10 ∷ 9 ∷ 8 ∷ 7 ∷ 6 ∷ 5 ∷ 4 ∷ 3 ∷ 2 ∷ 1 ∷ 0 ∷ 27 ∷ 26 ∷ 25 ∷ 24 ∷ 23 ∷ 22 ∷ 21 ∷ 20 ∷
    19 ∷ 18 ∷ 17 ∷ 16 ∷ 15 ∷ 14 ∷ 13 ∷ 12 ∷ 11 ∷ 10 ∷ 9 ∷ 8 ∷ 7 ∷ 6 ∷ 5 ∷ 4 ∷ 3 ∷ 2 ∷ 1 ∷ 0 ∷ 5 ∷ 4 ∷ 3 ∷ 2 ∷ 1 ∷ []

abbrev pub runs_of : Bandwidth → List ℕ
runs_of Mhz20 = runs_20
runs_of Mhz40 = runs_40

abbrev pub count_of : Bandwidth → ℕ
count_of b = data_count b + pilot_count b

-- where the first carries data, the other is the data subcarrier that is so many further on
follows : Carrier → ℕ → Carrier → Bool
follows (Data m) k (Data n) = nat_eq n (m + k)
follows (Data m) k (Pilot l) = false
follows (Pilot l) k c = true

is_run : Bandwidth → ℕ → ℕ → Bool
is_run b c n = agree_below (λ k. follows (carrier_at b c) k (carrier_at b (c + k))) (λ _. true) n && nat_le (c + n) (count_of b)

tests : (b : Bandwidth) → agree_below (λ c. is_run b c (slice_index_or (runs_of b) c 0)) (λ _. true) (count_of b) ≡ true
unfolding follows is_run carrier_at
tests Mhz20 = refl
tests Mhz40 = refl

is_that : (m k : ℕ) (c d : Carrier) → c ≡ Data m → follows c k d ≡ true → d ≡ Data (m + k)
unfolding follows
is_that m k c (Data n) is e = ap (λ (i : ℕ). Data i) (eqb-true n (m + k) (subst (λ (x : Carrier). follows x k (Data n) ≡ true) is e))
is_that m k c (Pilot l) is e = absurd_test (subst (λ (x : Carrier). follows x k (Pilot l) ≡ true) is e)
  where
    absurd_test : {P : Type 0} → false ≡ true → P
    absurd_test e = cc

module _ (b : Bandwidth) (c at : ℕ) (is : at ≡ c) (lt : c < count_of b) where
  tested : is_run b c (slice_index_or (runs_of b) at 0) ≡ true
  tested =
      ap (λ (i : ℕ). is_run b c (slice_index_or (runs_of b) i 0)) is
      ∙ agree_below_at (λ i. is_run b i (slice_index_or (runs_of b) i 0)) (λ _. true) (count_of b) c (tests b) lt

  -- each entry is a run
  pub runs : IsDataRun (carrier_at b) c (slice_index_or (runs_of b) at 0)
  unfolding is_run
  runs m k here below =
      let n = slice_index_or (runs_of b) at 0 in
      let parts = and_parts (agree_below (λ j. follows (carrier_at b c) j (carrier_at b (c + j))) (λ _. true) n) (nat_le (c + n) (count_of b)) tested in
      is_that m k (carrier_at b c) (carrier_at b (c + k)) here
      (agree_below_at (λ j. follows (carrier_at b c) j (carrier_at b (c + j))) (λ _. true) n k parts.0 below)

  -- and ends with the last subcarrier, or before it
  pub ends : c + slice_index_or (runs_of b) at 0 ≤ count_of b
  unfolding is_run
  ends =
      let n = slice_index_or (runs_of b) at 0 in
      leb-true (c + n) (count_of b)
      (and_parts (agree_below (λ j. follows (carrier_at b c) j (carrier_at b (c + j))) (λ _. true) n) (nat_le (c + n) (count_of b)) tested).1

-- a subcarrier that the rate has carries what it carries at the rate's bandwidth
kind_within : (r : Rate) (b : Bandwidth) (c : ℕ) → b ≡ bandwidth_of r → c < carriers_of r → kind_of r c ≡ carrier_at b c
unfolding carrier_of
kind_within r b c is lt =
    ap (λ (t : Bool). if t then carrier_of r c else Data c) (lt-ltb c (carriers_of r) lt) ∙ ap (λ (w : Bandwidth). carrier_at w c) (sym is)

count_is : (r : Rate) (b : Bandwidth) → b ≡ bandwidth_of r → carriers_of r ≡ count_of b
unfolding carriers_of data_carriers_of pilots_of bandwidth_of
count_is r b is = ap count_of (sym is)

-- a run at the bandwidth of a rate is one of the rate
pub runs_in : (r : Rate) (b : Bandwidth) (c n : ℕ) → b ≡ bandwidth_of r → c < carriers_of r → IsDataRun (carrier_at b) c n → c + n ≤ count_of b
    → IsDataRun (kind_of r) c n
runs_in r b c n is lt run ends m k here below =
    let count = count_is r b is in
    let inside : c + k < carriers_of r = omega (arith, below, ends, count) in
    kind_within r b (c + k) is inside ∙ run m k (sym (kind_within r b c is lt) ∙ here) below

-- none
pub runs_none : (kind : ℕ → Carrier) (c n : ℕ) → n ≡ 0 → IsDataRun kind c n
runs_none kind c n is m k here below = absurd (omega (arith, is, below))

-- a subcarrier that the rate has is one of its bandwidth
pub below : (r : Rate) (b : Bandwidth) (c : ℕ) → b ≡ bandwidth_of r → c < carriers_of r → c < count_of b
below r b c is lt = subst (λ (n : ℕ). c < n) (count_is r b is) lt
