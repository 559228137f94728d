-- Ways down the tree.
use Rattle.std.proofs.Common.{◌≡◌, ℕ, ◌+◌, ◌<◌, ℤ, pos, List, [], ◌∷◌, ◌++◌, length, get_or, true, false, arith, inl, inr, refl, sym, subst}
use Rattle.std.specs.List.{list_any}
use Rattle.std.specs.Ordering.{int_eq}
use Rattle.std.proofs.lemmas.Bool.{cases_lt, or_cases, or_left, or_right, both_ways}
use Rattle.std.proofs.lemmas.Bool.Decides.{Decides-int_eq}
use Rattle.ht_nearest.proofs.Bests as bests
use Rattle.ht_pam.specs.Ladders.{IsLadder, Rungs, levels, has}
use Rattle.ht_pam.specs.Zigzags.{gap, put, nearest_first}
use Rattle.ht_pam.proofs.ZigzagLemmas.{put_behind, put_before}
use Rattle.ht_sphere.specs.Coordinates.{Real, target, cost, order}
use Rattle.ht_sphere.specs.Tree.{Reached, rounding}
use Rattle.ht_sphere.specs.Searching.{leaves, leaves_by, Among}
use Rattle.ht_sphere.proofs.Bests.{order_some, among-append, among-left, among-right}

-- what is put among levels, and what stood there
in_put : (f : ℤ → ℕ) (x : ℤ) (ys : List ℤ) (v : ℤ) → bests.Among (put f x ys) v → bests.Among (x ∷ ys) v
in_put f x [] v h = h
in_put f x (y ∷ ys) v h = elim (cases_lt (f y) (f x)) [
  | inl less ↦ elim (subst (λ (l : List ℤ). bests.Among l v) (put_behind f x y ys less) h) [
    | inl e ↦ inr (inl e)
    | inr rest ↦ elim (in_put f x ys v rest) [ inl e ↦ inl e | inr there ↦ inr (inr there) ]
  ]
  | inr more ↦ subst (λ (l : List ℤ). bests.Among l v) (put_before f x y ys more) h
]

among_put : (f : ℤ → ℕ) (x : ℤ) (ys : List ℤ) (v : ℤ) → bests.Among (x ∷ ys) v → bests.Among (put f x ys) v
among_put f x [] v h = h
among_put f x (y ∷ ys) v h = elim (cases_lt (f y) (f x)) [
  | inl less ↦ subst (λ (l : List ℤ). bests.Among l v) (sym (put_behind f x y ys less)) (elim h [
    | inl e ↦ inr (among_put f x ys v (inl e))
    | inr rest ↦ elim rest [ inl e ↦ inl e | inr there ↦ inr (among_put f x ys v (inr there)) ]
  ])
  | inr more ↦ subst (λ (l : List ℤ). bests.Among l v) (sym (put_before f x y ys more)) h
]

pub in_order : (f : ℤ → ℕ) (xs : List ℤ) (v : ℤ) → bests.Among (nearest_first f xs) v → bests.Among xs v
in_order f [] v h = h
in_order f (x ∷ xs) v h = elim (in_put f x (nearest_first f xs) v h) [ inl e ↦ inl e | inr rest ↦ inr (in_order f xs v rest) ]

pub among_order : (f : ℤ → ℕ) (xs : List ℤ) (v : ℤ) → bests.Among xs v → bests.Among (nearest_first f xs) v
among_order f [] v h = h
among_order f (x ∷ xs) v h = among_put f x (nearest_first f xs) v (elim h [ inl e ↦ inl e | inr rest ↦ inr (among_order f xs v rest) ])

among_list : (x : ℤ) (ys : List ℤ) → list_any (λ y. int_eq y x) ys ≡ true → bests.Among ys x
among_list x [] h = absurd (both_ways false refl h)
among_list x (y ∷ ys) h = elim (or_cases (int_eq y x) (list_any (λ y. int_eq y x) ys) h) [
  | inl here ↦ inl ((Decides-int_eq y x).0 here)
  | inr rest ↦ inr (among_list x ys rest)
]

in_list : (x : ℤ) (ys : List ℤ) → bests.Among ys x → list_any (λ y. int_eq y x) ys ≡ true
in_list x [] h = absurd h
in_list x (y ∷ ys) h = elim h [
  | inl e ↦ or_left (int_eq y x) (list_any (λ y. int_eq y x) ys) ((Decides-int_eq y x).1 e)
  | inr rest ↦ or_right (int_eq y x) (list_any (λ y. int_eq y x) ys) (in_list x ys rest)
]

-- the levels that are tried are the allowed ones
pub sorted_has : (l : Rungs) (f : ℤ → ℕ) (x : ℤ) → bests.Among (nearest_first f (levels l)) x → has l x ≡ true
sorted_has l f x h = in_list x (levels l) (in_order f (levels l) x h)

pub has_sorted : (l : Rungs) (f : ℤ → ℕ) (x : ℤ) → has l x ≡ true → bests.Among (nearest_first f (levels l)) x
has_sorted l f x h = among_order f (levels l) x (among_list x (levels l) h)

pub tried_has : (c : Real) (s : List ℤ) (x : ℤ) → bests.Among (order c s) x → has c.ladder x ≡ true
tried_has c s x h = sorted_has c.ladder (gap (target c s) c.diagonal) x h

pub has_tried : (c : Real) (s : List ℤ) (x : ℤ) → has c.ladder x ≡ true → bests.Among (order c s) x
has_tried c s x h = has_sorted c.ladder (gap (target c s) c.diagonal) x h

-- a way from a node down to a leaf
abbrev pub Path : List Real → List ℤ → ℕ → Reached → Type 0
Path [] s p v = v ≡ (s, p)
Path (c ∷ cs) s p v = (x : ℤ) × bests.Among (order c s) x × Path cs (x ∷ s) (p + cost c s x) v

by_path : (cs : List Real) (c : Real) (s : List ℤ) (p : ℕ) (v : Reached) → ((t : List ℤ) (q : ℕ) → Among (leaves cs t q) v → Path cs t q v)
    → (xs : List ℤ) → Among (leaves_by (leaves cs) c s p xs) v → (x : ℤ) × bests.Among xs x × Path cs (x ∷ s) (p + cost c s x) v
by_path cs c s p v under [] h = absurd h
by_path cs c s p v under (x ∷ xs) h = elim (among-append (leaves cs (x ∷ s) (p + cost c s x)) (leaves_by (leaves cs) c s p xs) v h) [
  | inl here ↦ (x, inl refl, under (x ∷ s) (p + cost c s x) here)
  | inr rest ↦ let r = by_path cs c s p v under xs rest in (r.0, inr r.1, r.2)
]

pub leaf_path : (cs : List Real) (s : List ℤ) (p : ℕ) (v : Reached) → Among (leaves cs s p) v → Path cs s p v
leaf_path [] s p v h = elim h [ inl e ↦ e | inr none ↦ absurd none ]
leaf_path (c ∷ cs) s p v h = by_path cs c s p v (λ t q. leaf_path cs t q v) (order c s) h

path_by : (cs : List Real) (c : Real) (s : List ℤ) (p : ℕ) (v : Reached) (x : ℤ) → Among (leaves cs (x ∷ s) (p + cost c s x)) v
    → (xs : List ℤ) → bests.Among xs x → Among (leaves_by (leaves cs) c s p xs) v
path_by cs c s p v x under [] h = absurd h
path_by cs c s p v x under (y ∷ ys) h = elim h [
  | inl e ↦ among-left (leaves cs (y ∷ s) (p + cost c s y)) (leaves_by (leaves cs) c s p ys) v
      (subst (λ (z : ℤ). Among (leaves cs (z ∷ s) (p + cost c s z)) v) (sym e) under)
  | inr rest ↦ among-right (leaves cs (y ∷ s) (p + cost c s y)) (leaves_by (leaves cs) c s p ys) v (path_by cs c s p v x under ys rest)
]

pub path_leaf : (cs : List Real) (s : List ℤ) (p : ℕ) (v : Reached) → Path cs s p v → Among (leaves cs s p) v
path_leaf [] s p v h = inl h
path_leaf (c ∷ cs) s p v h = path_by cs c s p v h.0 (path_leaf cs (h.0 ∷ s) (p + cost c s h.0) v h.2) (order c s) h.1

-- a way through some coordinates and then others
pub path_apart : (cs ds : List Real) (s : List ℤ) (p : ℕ) (v : Reached) → Path (cs ++ ds) s p v → (w : Reached) × Path cs s p w × Path ds w.0 w.1 v
path_apart [] ds s p v h = ((s, p), refl, h)
path_apart (c ∷ cs) ds s p v h = let r = path_apart cs ds (h.0 ∷ s) (p + cost c s h.0) v h.2 in (r.0, (h.0, h.1, r.1), r.2)

pub path_joined : (cs ds : List Real) (s : List ℤ) (p : ℕ) (w v : Reached) → Path cs s p w → Path ds w.0 w.1 v → Path (cs ++ ds) s p v
path_joined [] ds s p w v h g = subst (λ (u : Reached). Path ds u.0 u.1 v) h g
path_joined (c ∷ cs) ds s p w v h g = (h.0, h.1, path_joined cs ds (h.0 ∷ s) (p + cost c s h.0) w v h.2 g)

-- each coordinate has a ladder
abbrev pub AreGood : List Real → Type 0
AreGood [] = Unit {0}
AreGood (c ∷ cs) = IsLadder c.ladder × AreGood cs

pub first_among : (xs : List ℤ) → 0 < length xs → bests.Among xs (get_or xs 0 (pos 0))
first_among [] some = absurd (omega arith)
first_among (x ∷ xs) some = inl refl

-- successive rounding is a way down
pub rounding_path : (cs : List Real) (s : List ℤ) (p : ℕ) → AreGood cs → Path cs s p (rounding cs s p)
rounding_path [] s p good = refl
rounding_path (c ∷ cs) s p good =
    let x = get_or (order c s) 0 (pos 0) in
    (x, first_among (order c s) (order_some c (target c s) good.0), rounding_path cs (x ∷ s) (p + cost c s x) good.1)
