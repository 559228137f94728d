-- Lanes that were opened one after another.
use Rattle.std.proofs.Common.{◌≡◌, ℕ, ◌+◌, ◌<◌, List, [], ◌∷◌, ◌++◌, length, get_or, Bool, true, false, nat_eq, refl, ap, ◌∙◌, sym, subst, arith}
use Rattle.std.proofs.lemmas.Bool.Decides.{nat_tests}
use Rattle.std.proofs.lemmas.List.{get_or_append_left, get_or_push, length_push}
use Rattle.ht_feed.proofs.Others.{same_number}
use Rattle.ht_many.specs.CaptureLanes.{AreNew, AreNewLanes, IsNew, Lane}

all_new : (lanes more : List Lane) (lane : Lane) → more ≡ lanes ++ lane ∷ [] → AreNew lanes → IsNew lane → AreNew more
all_new lanes more lane is new one = λ l k few. subst IsNew (sym (ap (λ (z : List Lane). get_or z k l) is))
    (here (nat_eq k (length lanes)) l k (subst (λ (n : ℕ). k < n) (ap (λ (z : List Lane). length z) is ∙ length_push lanes lane) few) refl)
  where
    here : (t : Bool) (l : Lane) (k : ℕ) → k < length lanes + 1 → nat_eq k (length lanes) ≡ t → IsNew (get_or (lanes ++ lane ∷ []) k l)
    here true l k few e = subst IsNew (sym (get_or_push lanes lane l k (sym (same_number (length lanes) k e)))) one
    here false l k few e =
        let low : k < length lanes = grind (arith, nat_tests, few, e) in
        subst IsNew (sym (get_or_append_left lanes (lane ∷ []) l k low)) (new l k low)

pub one_more : (count : ℕ) (lanes more : List Lane) (lane : Lane) → more ≡ lanes ++ lane ∷ [] → AreNewLanes count lanes → IsNew lane
    → AreNewLanes (count + 1) more
one_more count lanes more lane is opened one = record {
  as_many = ap (λ (z : List Lane). length z) is ∙ (length_push lanes lane ∙ ap (λ (n : ℕ). n + 1) opened.as_many);
  new = all_new lanes more lane is opened.new one;
}
