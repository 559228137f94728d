-- The best of a list of candidates.
use Rattle.std.proofs.Common.{◌≡◌, ℕ, zero, suc, ◌<◌, ◌≤◌, List, [], ◌∷◌, length, Bool, false, None, Some, arith, ◌⊎◌, inl, inr, refl, ap, ◌∙◌, subst}
use Rattle.std.specs.Prelude.{if◌then◌else◌}
use Rattle.std.specs.List.{fold, Contains}
use Rattle.std.proofs.lemmas.Bool.{cases_lt, cases_order, cases_Bool, false_from_ne_true, both_ways, cond-true, cond-false}
use Rattle.ht_nearest.specs.Nearest.{IsFirstNearest, IsOrder, Enumerates, is_better, keep, first_nearest}
use Rattle.ht_nearest.proofs.Better.{better_nearer, better_tied, better_apart, better_onward}

-- `Contains` by recursion on the list
abbrev pub Among : {X : Type 0} → List X → X → Type 0
Among [] v = ⊥
Among (x ∷ xs) v = (x ≡ v) ⊎ Among xs v

pub Contains-Among : {X : Type 0} (xs : List X) (v : X) → Among xs v → Contains xs v
Contains-Among [] v h = absurd h
Contains-Among (x ∷ xs) v h = elim h [
  | inl e ↦ (0, omega arith, e)
  | inr among ↦ let c = Contains-Among xs v among in (suc c.0, omega (arith, c.1), c.2)
]

pub Among-Contains : {X : Type 0} (xs : List X) (v : X) → Contains xs v → Among xs v
Among-Contains [] v (k, below, is) = absurd (omega arith)
Among-Contains (x ∷ xs) v (zero, below, is) = inl is
Among-Contains (x ∷ xs) v (suc k, below, is) = inr (Among-Contains xs v (k, omega arith, is))

-- the best of what was seen
pub record IsBest {X : Type 0} (cost : X → ℕ) (before : X → X → Bool) (Seen : X → Type 0) (best : X) : Type 0 where
  pub seen : Seen best
  pub none : (y : X) → Seen y → is_better cost before y best ≡ false

no_nearer : (m n : ℕ) → (n < m → ⊥) → m ≤ n
no_nearer m n not = elim (cases_lt n m) [ inl lt ↦ absurd (not lt) | inr le ↦ le ]

no_tie : (m n : ℕ) → (n < m → ⊥) → (n ≡ m → ⊥) → m < n
no_tie m n less same = elim (cases_order m n) [
  | inl e ↦ absurd (same (omega arith))
  | inr either ↦ elim either [ inl lt ↦ lt | inr gt ↦ absurd (less gt) ]
]

module _ {X : Type 0} (is_member : X → Bool) (cost : X → ℕ) (before : X → X → Bool) (order : IsOrder is_member before) where
  -- the best after one more
  best_keep : (Seen : X → Type 0) (best x : X) → IsBest cost before Seen best
      → IsBest cost before (λ y. Seen y ⊎ (x ≡ y)) (if is_better cost before x best then x else best)
  best_keep Seen best x was = elim (cases_Bool (is_better cost before x best)) [
    | inl taken ↦ rw (cond-true (is_better cost before x best) x best taken) (record {
      seen = inr refl;
      none = λ y h. elim h [
        | inl old ↦ false_from_ne_true _ (λ better. both_ways _ (was.none y old) (better_onward is_member cost before order y x best better taken))
        | inr e ↦ subst (λ (z : X). is_better cost before z x ≡ false) e (better_apart is_member cost before order x)
      ];
    })
    | inr passed ↦ rw (cond-false (is_better cost before x best) x best passed) (record {
      seen = inl was.seen;
      none = λ y h. elim h [
        | inl old ↦ was.none y old
        | inr e ↦ subst (λ (z : X). is_better cost before z best ≡ false) e passed
      ];
    })
  ]

  best_widen : (Seen More : X → Type 0) (best : X) → ((y : X) → Seen y → More y)
      → ((y : X) → More y → Seen y) → IsBest cost before Seen best → IsBest cost before More best
  best_widen Seen More best out back was = record { seen = out best was.seen; none = λ y h. was.none y (back y h) }

  -- the fold keeps the best
  best_fold : (Seen : X → Type 0) (best : X) (xs : List X) → IsBest cost before Seen best
      → (last : X) → fold (keep cost before) (Some best) xs ≡ Some last → IsBest cost before (λ y. Seen y ⊎ Among xs y) last
  best_fold Seen best [] was last e =
      let same : best ≡ last = cc in
      best_widen Seen (λ y. Seen y ⊎ ⊥) last (λ y h. inl h) (λ y h. elim h [ inl seen ↦ seen | inr none ↦ absurd none ])
      (subst (λ (z : X). IsBest cost before Seen z) same was)
  best_fold Seen best (x ∷ xs) was last e =
      let next = if is_better cost before x best then x else best in
      let rest = best_fold (λ y. Seen y ⊎ (x ≡ y)) next xs (best_keep Seen best x was) last e in
      best_widen (λ y. (Seen y ⊎ (x ≡ y)) ⊎ Among xs y) (λ y. Seen y ⊎ ((x ≡ y) ⊎ Among xs y)) last
      (λ y h. elim h [
        | inl either ↦ elim either [ inl seen ↦ inl seen | inr is ↦ inr (inl is) ]
        | inr among ↦ inr (inr among)
      ])
      (λ y h. elim h [
        | inl seen ↦ inl (inl seen)
        | inr either ↦ elim either [ inl is ↦ inl (inr is) | inr among ↦ inr among ]
      ])
      rest

  best_first : (xs : List X) (last : X) → first_nearest cost before xs ≡ Some last → IsBest cost before (Among xs) last
  best_first [] last e = cc
  best_first (x ∷ xs) last e =
      best_widen (λ y. (x ≡ y) ⊎ Among xs y) (Among (x ∷ xs)) last (λ y h. h) (λ y h. h)
      (best_fold (λ y. x ≡ y) x xs (record {
        seen = refl;
        none =
            λ y is. subst (λ (z : X). is_better cost before z x ≡ false) is (better_apart is_member cost before order x);
      }) last e)

  -- a best of all members is first nearest
  pub found : (xs : List X) (x : X) → Enumerates is_member xs → first_nearest cost before xs ≡ Some x → IsFirstNearest is_member cost before x
  found xs x all e =
      let best = best_first xs x e in
      record {
        within = all.sound x (Contains-Among xs x best.seen);
        nearest = λ y h.
            let never = best.none y (Among-Contains xs y (all.whole y h)) in
            no_nearer (cost x) (cost y) (λ lt. both_ways _ never (better_nearer cost before y x lt));
        first = λ y h b.
            let never = best.none y (Among-Contains xs y (all.whole y h)) in
            no_tie (cost x) (cost y) (λ lt. both_ways _ never (better_nearer cost before y x lt)) (λ is. both_ways _ never (better_tied cost before y x is b));
      }

  pub unique : (x y : X) → IsFirstNearest is_member cost before x → IsFirstNearest is_member cost before y → x ≡ y
  unique x y p q =
      let le = p.nearest y q.within in
      let ge = q.nearest x p.within in
      order.decides x y p.within q.within
      (false_from_ne_true _ (λ b. let lt = q.first x p.within b in omega arith))
      (false_from_ne_true _ (λ b. let lt = p.first y q.within b in omega arith))

  -- a list that has a member has a best
  some_best : (best : X) (xs : List X) → (last : X) × (fold (keep cost before) (Some best) xs ≡ Some last)
  some_best best [] = (best, refl)
  some_best best (x ∷ xs) = some_best (if is_better cost before x best then x else best) xs

  pub finds : (xs : List X) (x : X) → Enumerates is_member xs → IsFirstNearest is_member cost before x → first_nearest cost before xs ≡ Some x
  finds [] x all near = absurd (Among-Contains [] x (all.whole x near.within))
  finds (y ∷ ys) x all near =
      let some = some_best y ys in
      let same : some.0 ≡ x = unique some.0 x (found (y ∷ ys) some.0 all some.1) near in
      some.1 ∙ ap (λ (z : X). Some z) same

-- a list that isn't empty has a best
module _ {X : Type 0} (cost : X → ℕ) (order : X → X → Bool) where
  never_none : (best : X) (xs : List X) → fold (keep cost order) (Some best) xs ≡ None → ⊥
  never_none best [] e = cc
  never_none best (x ∷ xs) e = never_none (if is_better cost order x best then x else best) xs e

  pub best_of_some : (xs : List X) → 0 < length xs → first_nearest cost order xs ≡ None → ⊥
  best_of_some [] some e = absurd (omega arith)
  best_of_some (x ∷ xs) some e = never_none x xs e
