-- The walk over the levels of a coordinate: what is left of it still gives the best of all, in as many steps as are left.
use Rattle.std.proofs.Common.{◌≡◌, ℕ, ◌+◌, ◌*◌, ◌<◌, ◌≤◌, ℤ, unsigned_abs, List, [], ◌∷◌, drop, ap, sym, ◌∙◌, subst, arith, refl}
use Rattle.std.specs.List.{All}
use Rattle.ht_pam.specs.Ladders.{Rungs, levels}
use Rattle.ht_pam.specs.Zigzags.{Ascending, gap, nearest_first}
use Rattle.ht_sphere.specs.Coordinates.{Real, cost, order, order_at, target}
use Rattle.ht_sphere.specs.Tree.{Reached, inside, inside_by}
use Rattle.ht_sphere.specs.Searching.{leaves, leaves_by, IsBestOf, IsSearched}
use Rattle.ht_sphere.proofs.Bests.{best-none, best-append, best-cut, steps-on, steps-start, sorted}
use Rattle.ht_sphere.proofs.Steps.{Step}

-- what was found and how many steps were taken, at the start and now
pub record IsLeft (c : Real) (cs : List Real) (s : List ℤ) (p : ℕ) (walk : List ℤ) (old now : Reached) (before after : ℕ) : Type 0 where
  pub less : now.1 ≤ old.1
  pub sorted : Ascending (cost c s) walk
  pub best : (b : Reached) → IsBestOf now (leaves_by (leaves cs) c s p walk) b → IsBestOf old (leaves (c ∷ cs) s p) b
  pub steps : (rho : ℕ) → p ≤ rho → old.1 ≤ rho → after + 2 + 2 * inside_by (inside rho cs) c s p walk ≤ before + 2 * inside rho (c ∷ cs) s p

module _ (c : Real) (cs : List Real) (s : List ℤ) (p : ℕ) where
  -- at the start all levels are left
  pub starts : (t : ℤ) (walk : List ℤ) (old : Reached) (steps : ℕ) → walk ≡ order_at c t → t ≡ target c s → IsLeft c cs s p walk old old steps steps
  starts t walk old steps is at_target =
      let listed : walk ≡ order c s = is ∙ ap (order_at c) at_target in
      record {
        less = omega arith;
        sorted = subst (Ascending (cost c s)) (sym listed) (sorted c (target c s));
        best = λ b h. subst (λ (l : List Reached). IsBestOf old l b) (ap (leaves_by (leaves cs) c s p) listed) h;
        steps = λ rho far _.
            subst (λ (n : ℕ). steps + 2 + 2 * n ≤ steps + 2 * inside rho (c ∷ cs) s p) (sym (ap (inside_by (inside rho cs) c s p) listed))
            (steps-start steps p rho (inside_by (inside rho cs) c s p (order c s)) far);
      }

  -- a walk of no levels has found the best
  best_at_end : (walk : List ℤ) (old now : Reached) (before steps : ℕ) → IsLeft c cs s p walk old now before steps → walk ≡ []
      → IsBestOf old (leaves (c ∷ cs) s p) now
  best_at_end walk old now before steps left none =
      left.best now (subst (λ (l : List ℤ). IsBestOf now (leaves_by (leaves cs) c s p l) now) (sym none) (best-none now))

  module _ (walk xs all : List ℤ) (x : ℤ) (place n : ℕ) (old now : Reached) (before steps : ℕ)
      (left : IsLeft c cs s p walk old now before steps) (first : walk ≡ x ∷ xs) (step : Step c s all place n x) where
    -- and so has one whose next level is too far
    best_where_far : now.1 < p + n → IsBestOf old (leaves (c ∷ cs) s p) now
    best_where_far far =
        left.best now
        (subst (λ (l : List ℤ). IsBestOf now (leaves_by (leaves cs) c s p l) now) (sym first)
        (best-cut now c cs s p x xs (subst (λ (m : ℕ). now.1 < p + m) step.costs far) (subst (Ascending (cost c s)) first left.sorted)))

    -- what is below the next level is searched
    pub goes_on : (new : Reached) (next after : ℕ) → p + n ≤ now.1 → new.1 ≤ now.1 → next ≡ steps + 1
        → IsBestOf now (leaves cs (drop place all) (p + n)) new
        → ((rho : ℕ) → p + n ≤ rho → now.1 ≤ rho → after + 1 ≤ next + 2 * inside rho cs (drop place all) (p + n))
        → IsLeft c cs s p xs old new before after
    goes_on new next after near less one best taken = record {
      less = omega (arith, left.less);
      sorted = (subst (Ascending (cost c s)) first left.sorted).1;
      best = λ b h.
          let below : IsBestOf now (leaves cs (x ∷ s) (p + cost c s x)) new =
          subst (λ (l : List ℤ). IsBestOf now (leaves cs l (p + cost c s x)) new) step.chosen
          (subst (λ (m : ℕ). IsBestOf now (leaves cs (drop place all) (p + m)) new) step.costs best) in
          left.best b
          (subst (λ (l : List ℤ). IsBestOf now (leaves_by (leaves cs) c s p l) b) (sym first)
          (best-append now new b (leaves cs (x ∷ s) (p + cost c s x)) (leaves_by (leaves cs) c s p xs) below h));
      steps = λ rho far close.
          let under = inside rho cs (x ∷ s) (p + cost c s x) in
          let same : inside rho cs (drop place all) (p + n) ≡ under =
          ap (λ (l : List ℤ). inside rho cs l (p + n)) step.chosen ∙ ap (λ (m : ℕ). inside rho cs (x ∷ s) (p + m)) step.costs in
          steps-on steps next after under (inside_by (inside rho cs) c s p xs) _
          (subst (λ (m : ℕ). after + 1 ≤ next + 2 * m) same (taken rho (omega (arith, left.less)) (omega (arith, left.less)))) one
          (subst (λ (l : List ℤ). steps + 2 + 2 * inside_by (inside rho cs) c s p l ≤ before + 2 * inside rho (c ∷ cs) s p) first
          (left.steps rho far close));
    }

-- the search that ends where no level is left, or the next one is too far
module _ (c : Real) (cs : List Real) (place p : ℕ) (start levels walk : List ℤ) (old now : Reached) (before steps after : ℕ)
    (left : IsLeft c cs (drop place start) p walk old now before steps) (small : All (λ x. unsigned_abs x ≤ 7) levels)
    (chosen : drop place levels ≡ drop place start) (one : after ≡ steps + 1) where
  ended : IsBestOf old (leaves (c ∷ cs) (drop place start) p) now → IsSearched (c ∷ cs) place p start old before levels now after
  ended best = record {
    levels = small;
    chosen = chosen;
    best = best;
    less = left.less;
    steps = λ rho far close. omega (arith, left.steps rho far close, one);
  }

  pub ends : walk ≡ [] → IsSearched (c ∷ cs) place p start old before levels now after
  ends none = ended (best_at_end c cs (drop place start) p walk old now before steps left none)

  pub ends_far : (xs all : List ℤ) (x : ℤ) (slot n : ℕ) → walk ≡ x ∷ xs → Step c (drop place start) all slot n x → now.1 < p + n
      → IsSearched (c ∷ cs) place p start old before levels now after
  ends_far xs all x slot n first step far =
      ended (best_where_far c cs (drop place start) p walk xs all x slot n old now before steps left first step far)

-- a whole vector is the best one below itself
pub whole : (p : ℕ) (levels : List ℤ) (old now : Reached) (steps : ℕ) → All (λ x. unsigned_abs x ≤ 7) levels → IsBestOf old ((levels, p) ∷ []) now
    → now.1 ≤ old.1 → IsSearched [] 0 p levels old steps levels now steps
whole p levels old now steps small best less = record {
  levels = small;
  chosen = refl;
  best = best;
  less = less;
  steps = λ rho far close. let start = steps-start steps p rho 0 far in omega (arith, start);
}

-- the levels of a coordinate's ladder, nearest first
pub ordered : (c : Real) (l : Rungs) (d : ℕ) (t : ℤ) (walk : List ℤ) → l ≡ c.ladder → d ≡ c.diagonal → walk ≡ nearest_first (gap t d) (levels l)
    → walk ≡ order_at c t
ordered c l d t walk e f is =
    is ∙ ap (λ (k : Rungs). nearest_first (gap t d) (levels k)) e ∙ ap (λ (n : ℕ). nearest_first (gap t n) (levels c.ladder)) f
