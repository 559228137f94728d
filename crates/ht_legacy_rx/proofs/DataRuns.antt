-- Runs of data subcarriers, by a test of each entry of the table.
use Rattle.std.proofs.Common.{◌≡◌, ℕ, ◌+◌, ◌<◌, List, [], ◌∷◌, Bool, true, false, nat_eq, slice_index_or, ap, refl, subst, ◌∙◌, arith}
use Rattle.std.proofs.lemmas.Bool.{agree_below, agree_below_at, eqb-true}
use Rattle.ht_rate.specs.declared.kinds.Carrier.{Carrier}
use Rattle.ht_rate.specs.declared.kinds.Carrier.TheVariants.{Data, Pilot}
use Rattle.ht_clause18.specs.Carriers.{carrier_of}
use Rattle.ht_eights.specs.DataRuns.{IsDataRun}

-- the table
abbrev pub table : List ℕ
table =
    5 ∷ 4 ∷ 3 ∷ 2 ∷ 1 ∷ 0 ∷ 13 ∷ 12 ∷ 11 ∷ 10 ∷ 9 ∷ 8 ∷ 7 ∷ 6 ∷ 5 ∷ 4 ∷ 3 ∷ 2 ∷ 1 ∷ 0 ∷ 12 ∷ 11 ∷ 10 ∷ 9 ∷ 8 ∷ 7 ∷ 6 ∷ 5 ∷ 4 ∷ 3 ∷ 2 ∷ 1 ∷
    0 ∷ 13 ∷ 12 ∷ 11 ∷ 10 ∷ 9 ∷ 8 ∷ 7 ∷ 6 ∷ 5 ∷ 4 ∷ 3 ∷ 2 ∷ 1 ∷ 0 ∷ 5 ∷ 4 ∷ 3 ∷ 2 ∷ 1 ∷ []

-- where the first carries data, the other is the data subcarrier that is so many further on
follows : Carrier → ℕ → Carrier → Bool
follows (Data m) k (Data n) = nat_eq n (m + k)
follows (Data m) k (Pilot l) = false
follows (Pilot l) k c = true

is_run : ℕ → ℕ → Bool
is_run c n = agree_below (λ k. follows (carrier_of c) k (carrier_of (c + k))) (λ _. true) n

tests : agree_below (λ c. is_run c (slice_index_or table c 0)) (λ _. true) 52 ≡ true
unfolding follows is_run carrier_of
tests = refl

is_that : (m k : ℕ) (c d : Carrier) → c ≡ Data m → follows c k d ≡ true → d ≡ Data (m + k)
unfolding follows
is_that m k c (Data n) is e = ap (λ (i : ℕ). Data i) (eqb-true n (m + k) (subst (λ (x : Carrier). follows x k (Data n) ≡ true) is e))
is_that m k c (Pilot l) is e = absurd_test (subst (λ (x : Carrier). follows x k (Pilot l) ≡ true) is e)
  where
    absurd_test : {P : Type 0} → false ≡ true → P
    absurd_test e = cc

-- each entry is a run
pub runs : (c at : ℕ) → at ≡ c → c < 52 → IsDataRun carrier_of c (slice_index_or table at 0)
unfolding is_run
runs c at is lt m k here below =
    let n = slice_index_or table at 0 in
    let test : is_run c n ≡ true =
    ap (λ (i : ℕ). is_run c (slice_index_or table i 0)) is
    ∙ agree_below_at (λ i. is_run i (slice_index_or table i 0)) (λ _. true) 52 c tests lt in
    is_that m k (carrier_of c) (carrier_of (c + k)) here (agree_below_at (λ j. follows (carrier_of c) j (carrier_of (c + j))) (λ _. true) n k test below)

-- none
pub runs_none : (c n : ℕ) → n ≡ 0 → IsDataRun carrier_of c n
runs_none c n is m k here below = absurd (omega (arith, is, below))
