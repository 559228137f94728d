-- Eight jobs of a block that are found together.
use Rattle.std.proofs.Common.{◌≡◌, ℕ, zero, suc, ◌+◌, ◌%◌, ◌≤◌, List, [], ◌∷◌, ◌++◌, Some, length, length-append, take}
use Rattle.std.proofs.Common.{slice_get, slice_index, arith, ap, refl, subst, sym, ◌∙◌}
use Rattle.std.proofs.Common.{Result, Ok, Err, OnOk}
use Rattle.ht_metric.specs.Jobs.{JobView}
use Rattle.ht_frames.specs.Tallies.{IsTally}
use Rattle.ht_frames.proofs.Tallying.{take_one}
use Rattle.ht_results.specs.Plans.{Plan}
use Rattle.ht_rounding.specs.declared.eight.Labelled.{Labelled}
use Rattle.ht_rounding.specs.Labels.{labels_in}
use Rattle.ht_eights.specs.InLanes.{HasFirst}

-- what follows from three facts of what is answered
pub all-three : {T E : Type 0} (r : Result T E) (P Q R S : Type 0) → (P → Q → R → S) → OnOk r P → OnOk r Q → OnOk r R → OnOk r S
all-three (Ok x) P Q R S both p q r = both p q r
all-three (Err e) P Q R S both p q r = tt

-- one more job of a block
pub first_more : {H : Type 0} (plan : Plan H ℕ) (jobs : List JobView) (n : ℕ) (job : JobView) (head own own' : H) (c d p c' d' p' : ℕ) (ps ls ps' ls' : List ℕ)
    → Some job ≡ slice_get jobs n → HasFirst plan jobs n head own c d p ps ls → own' ≡ own → length ps' ≡ length ls'
    → ((js : List JobView) → IsTally plan own js c d p ps ls → IsTally plan own (js ++ job ∷ []) c' d' p' ps' ls')
    → HasFirst plan jobs (n + 1) head own' c' d' p' ps' ls'
first_more {H} plan jobs n job head own own' c d p c' d' p' ps ls ps' ls' is has kept long added =
    let was : IsTally plan own (take n jobs) c d p ps ls = subst (λ (h : H). IsTally plan h (take n jobs) c d p ps ls)
    (sym has.same) has.is in
    let now : IsTally plan own (take n jobs ++ job ∷ []) c' d' p' ps' ls' = added (take n jobs) was in
    let one = length-append (take n jobs) (job ∷ []) in
    let before = has.is.count in
    let after = now.count in
    let counted = has.counted in
    record {
      counted = omega (arith, one, before, after, counted);
      same = kept ∙ has.same;
      long = long;
      is = subst (λ (js : List JobView). IsTally plan head js c' d' p' ps' ls') (sym (take_one jobs n job is))
          (subst (λ (h : H). IsTally plan h (take n jobs ++ job ∷ []) c' d' p' ps' ls') has.same now);
    }

-- a lane has a label of each stream
pub as_many : (lanes : Labelled) (k n : ℕ) → n ≡ lanes.streams → n ≤ 4 → length (labels_in lanes k) ≡ n
as_many lanes k n e few =
    let all : List ℕ = slice_index lanes.first k % 256 ∷ slice_index lanes.second k % 256 ∷ slice_index lanes.third k % 256 ∷ slice_index lanes.fourth k %
    256 ∷ [] in
    ap (λ (m : ℕ). length (take m all)) (sym e) ∙ of_four n _ _ _ _ few
  where
    of_four : (n a b c d : ℕ) → n ≤ 4 → length (take n (a ∷ b ∷ c ∷ d ∷ [])) ≡ n
    of_four zero a b c d few = refl
    of_four (suc zero) a b c d few = refl
    of_four (suc (suc zero)) a b c d few = refl
    of_four (suc (suc (suc zero))) a b c d few = refl
    of_four (suc (suc (suc (suc zero)))) a b c d few = refl
    of_four (suc (suc (suc (suc (suc n))))) a b c d few = absurd (omega (arith, few))
