-- What holds of the one element of a list that may change, and of each of the others as it was, holds of each.
use Rattle.std.proofs.Common.{◌≡◌, ◌≢◌, ℕ, List, get_or, Bool, true, false, nat_eq, refl, sym, subst, arith}
use Rattle.std.proofs.lemmas.Bool.Decides.{nat_tests}
use Rattle.ht_feed.specs.Others.{OthersStay}

pub same_number : (i k : ℕ) → nat_eq k i ≡ true → k ≡ i
same_number i k e = grind (arith, nat_tests)

pub other_number : (i k : ℕ) → nat_eq k i ≡ false → k ≢ i
other_number i k e = grind (arith, nat_tests)

module _ {X : Type 0} {before after : List X} {at : ℕ} (stay : OthersStay before after at) (P : ℕ → X → Type 0) (x : X)
    (here : P at (get_or after at x)) (others : (k : ℕ) → k ≢ at → P k (get_or before k x)) where
  each_as : (t : Bool) (k : ℕ) → nat_eq k at ≡ t → P k (get_or after k x)
  each_as true k e = subst (λ (n : ℕ). P n (get_or after n x)) (sym (same_number at k e)) here
  each_as false k e =
      let far = other_number at k e in
      subst (λ (z : X). P k z) (sym (stay.others x k far)) (others k far)

  pub each_of : (k : ℕ) → P k (get_or after k x)
  each_of k = each_as (nat_eq k at) k refl
