-- Lanes are asked, one after another.
use Rattle.std.proofs.Common.{◌≡◌, ℕ, ◌+◌, ◌<◌, ◌≤◌, List, [], ◌∷◌, ◌++◌, length, get_or, Option, Some, None, Bool, true, false}
use Rattle.std.specs.Prelude.{IfNone, IfSome}
use Rattle.std.proofs.Common.{ap, ◌∙◌, sym, subst, arith}
use Rattle.std.proofs.lemmas.Bool.{false≢true}
use Rattle.ht_metric.specs.Jobs.{JobView}
use Rattle.ht_feed.specs.Others.{OthersStay}
use Rattle.ht_feed.proofs.Others.{each_of}
use Rattle.ht_lanes.specs.Lanes.{AreOver, HasFewDue, HaveFewDue, OneLeads, OneMoreAt, SameBook, SameBooks, Side, Sides}

-- what is said of an answer that is there, and of one that isn't
pub some_so : {X : Type 0} (o : Option X) (x : X) (P : X → Type 0) → o ≡ Some x → IfSome o P → P x
some_so o x P is so = subst (λ z. IfSome z P) is so

pub none_so : {X : Type 0} (o : Option X) (P : Type 0) → o ≡ None → IfNone o P → P
none_so o P is so = subst (λ z. IfNone z P) is so

-- the lane with this number alone was asked
module _ {L : Type 0} (b c : List L) (at : ℕ) (one : OthersStay b c at) where
  module _ (due : L → List (List JobView)) (rests : L → Bool) (a : List L) (same : SameBooks due rests a b)
      (rest : (l : L) → rests (get_or c at l) ≡ rests (get_or b at l)) where
    -- it waits for no block more
    pub same_none : ((l : L) → due (get_or c at l) ≡ due (get_or b at l)) → SameBooks due rests a c
    same_none is l =
        each_of one (λ k x. k < length a → SameBook due rests (get_or a k l) x) l
        (λ few.
        let s = same l at few in
        (rest l ∙ s.0, is l ∙ s.1)) (λ k far. same l k)

    -- it waits for one block more
    pub one_more : (jobs : List JobView) → at < length a → ((l : L) → due (get_or c at l) ≡ due (get_or b at l) ++ jobs ∷ []) → OneMoreAt due rests a c at jobs
    one_more jobs low is = record {
      here = λ l.
          let s = same l at low in
          (rest l ∙ s.0, is l ∙ ap (λ (bs : List (List JobView)). bs ++ jobs ∷ []) s.1);
      others = λ l k far few. subst (λ (x : L). SameBook due rests (get_or a k l) x) (sym (one.others l k far)) (same l k few);
    }

  module _ (over : L → Bool) (ended : (l : L) → over (get_or c at l) ≡ true) where
    pub few_due_none : (due : L → List (List JobView)) (most : ℕ) → HaveFewDue due over most b → HaveFewDue due over most c
    few_due_none due most room l k few =
        each_of one (λ n x. n < length b → HasFewDue due over most x) l (λ low going. absurd (false≢true (sym going ∙ ended l))) (λ n far. room l n)
        k (subst (λ (n : ℕ). k < n) one.as_many few)

    pub over_none : (from : ℕ) → ((l : L) (k : ℕ) → from ≤ k → k < at → over (get_or b k l) ≡ true)
        → (l : L) (k : ℕ) → from ≤ k → k < at + 1 → over (get_or c k l) ≡ true
    over_none from before l =
        each_of one (λ k x. from ≤ k → k < at + 1 → over x ≡ true) l (λ high low. ended l)
        (λ k far high low. before l k high (omega (arith, low, far)))

-- lanes that were over still are where one of them did something
pub over_settled : {L S K : Type 0} {does : Side L S K → Side L S K → Type 0} (over : L → Bool) {b c : Sides L S K} {at : ℕ} → OneLeads does b c at
    → ((l : L) → over (get_or b.lanes at l) ≡ true → over (get_or c.lanes at l) ≡ true) → AreOver over 0 b.lanes → AreOver over 0 c.lanes
over_settled over {b = b} one here all l k high low =
    each_of one.lanes (λ n x. over (get_or b.lanes n l) ≡ true → over x ≡ true) l (here l) (λ n far was. was)
    k (all l k high (subst (λ (n : ℕ). k < n) one.lanes.as_many low))
