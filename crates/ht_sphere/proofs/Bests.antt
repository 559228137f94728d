-- The best of what was found.
use Rattle.std.proofs.Common.{◌*◌, length, ◌≡◌, ◌⊎◌, ℕ, ◌+◌, ◌<◌, ◌≤◌, ℤ, List, [], ◌∷◌, ◌++◌, Bool, true}
use Rattle.std.proofs.Common.{false, ◌&&◌, ◌||◌, not, nat_lt, refl, ap, sym, ◌∙◌, subst, arith, inl, inr, true≢false}
use Rattle.std.specs.Prelude.{int_lt}
use Rattle.std.specs.Prelude.{Some}
use Rattle.std.specs.Ordering.{int_cmp, is_lt, is_some_and}
use Rattle.std.specs.Cmp.Lexicographic.{slice_partial_cmp}
use Rattle.std.proofs.lemmas.Cmp.{same_from_slice_cmp_tested}
use Rattle.std.proofs.lemmas.Bool.Decides.{nat_tests}
use Rattle.std.proofs.lemmas.Int.{ints}
use Rattle.std.proofs.Math.Nat.{mul-le-mul}
use Rattle.ht_pam.specs.Ladders.{Rungs, levels, IsLadder}
use Rattle.ht_pam.proofs.Tables.{levels_some}
use Rattle.ht_pam.specs.Zigzags.{gap, nearest_first, From, Ascending}
use Rattle.ht_pam.proofs.ZigzagLemmas.{ascending, length-nearest_first}
use Rattle.ht_metric.specs.Vectors.{levels_before}
use Rattle.ht_sphere.specs.Coordinates.{Real, cost, order, cost_at, order_at}
use Rattle.ht_sphere.specs.Tree.{Reached, one}
use Rattle.ht_sphere.specs.Searching.{leaves, leaves_by, better, Among, IsBestOf}

-- a lexicographic test that fails
parts : (p q r : Bool) → (p || (not q && r)) ≡ false → (p ≡ false) × (q ≡ false → r ≡ false)
parts true q r e = absurd (true≢false e)
parts false true r e = (refl, λ f. absurd (true≢false f))
parts false false r e = (refl, λ _. e)

fails : (p q r : Bool) → p ≡ false → (q ≡ false → r ≡ false) → (p || (not q && r)) ≡ false
fails true q r e f = absurd (true≢false e)
fails false true r e f = refl
fails false false r e f = f refl

int_lt-trans : (x y z : ℤ) → int_lt x y ≡ false → int_lt y z ≡ false → int_lt x z ≡ false
int_lt-trans x y z p q = grind (arith, ints)

int_lt-self : (x : ℤ) → int_lt x x ≡ false
int_lt-self x = grind (arith, ints)

before-self : (a : List ℤ) → levels_before a a ≡ false
before-self [] = refl
before-self (x ∷ xs) = fails _ _ _ (int_lt-self x) (λ _. before-self xs)

-- what isn't before what isn't before isn't before
before-not-trans : (a b c : List ℤ) → levels_before a b ≡ false → levels_before b c ≡ false → levels_before a c ≡ false
before-not-trans [] b [] p q = refl
before-not-trans (x ∷ xs) b [] p q = refl
before-not-trans a [] (z ∷ zs) p q = absurd (true≢false q)
before-not-trans [] (y ∷ ys) (z ∷ zs) p q = absurd (true≢false p)
before-not-trans (x ∷ xs) (y ∷ ys) (z ∷ zs) p q =
    let p' = parts (int_lt x y) (int_lt y x) (levels_before xs ys) p in
    let q' = parts (int_lt y z) (int_lt z y) (levels_before ys zs) q in
    fails (int_lt x z) (int_lt z x) (levels_before xs zs) (int_lt-trans x y z p'.0 q'.0)
    (λ r. before-not-trans xs ys zs (p'.1 (int_lt-trans y z x q'.0 r)) (q'.1 (int_lt-trans z x y r p'.0)))

nat_lt-trans : (x y z : ℕ) → nat_lt x y ≡ false → nat_lt y z ≡ false → nat_lt x z ≡ false
nat_lt-trans x y z p q = grind (arith, nat_tests)

nat_lt-self : (x : ℕ) → nat_lt x x ≡ false
nat_lt-self x = grind (arith, nat_tests)

pub better-self : (a : Reached) → better a a ≡ false
better-self a = fails _ _ _ (nat_lt-self a.1) (λ _. before-self a.0)

better-not-trans : (a b c : Reached) → better a b ≡ false → better b c ≡ false → better a c ≡ false
better-not-trans a b c p q =
    let p' = parts (nat_lt a.1 b.1) (nat_lt b.1 a.1) (levels_before a.0 b.0) p in
    let q' = parts (nat_lt b.1 c.1) (nat_lt c.1 b.1) (levels_before b.0 c.0) q in
    fails (nat_lt a.1 c.1) (nat_lt c.1 a.1) (levels_before a.0 c.0) (nat_lt-trans a.1 b.1 c.1 p'.0 q'.0)
    (λ r. before-not-trans a.0 b.0 c.0 (p'.1 (nat_lt-trans b.1 c.1 a.1 q'.0 r)) (q'.1 (nat_lt-trans c.1 a.1 b.1 r p'.0)))

-- a lexicographic test that holds fails the other way
flip : (p q r s : Bool) → (p ≡ true → q ≡ false) → (r ≡ true → s ≡ false) → (p || (not q && r)) ≡ true → (q || (not p && s)) ≡ false
flip true true r s f g e = absurd (true≢false (f refl))
flip true false r s f g e = refl
flip false true r s f g e = absurd (true≢false (sym e))
flip false false r s f g e = g e

int_lt-asym : (x y : ℤ) → int_lt x y ≡ true → int_lt y x ≡ false
int_lt-asym x y p = grind (arith, ints)

nat_lt-asym : (x y : ℕ) → nat_lt x y ≡ true → nat_lt y x ≡ false
nat_lt-asym x y p = grind (arith, nat_tests)

nat_lt-is : (x y : ℕ) → x < y → nat_lt x y ≡ true
nat_lt-is x y p = grind (arith, nat_tests)

before-asym : (a b : List ℤ) → levels_before a b ≡ true → levels_before b a ≡ false
before-asym a [] p = absurd (true≢false (sym p))
before-asym [] (b ∷ bs) p = refl
before-asym (a ∷ xs) (b ∷ ys) p = flip (int_lt a b) (int_lt b a) (levels_before xs ys) (levels_before ys xs) (int_lt-asym a b) (before-asym xs ys) p

-- what is better is not beaten
better-asym : (a b : Reached) → better a b ≡ true → better b a ≡ false
better-asym a b p = flip (nat_lt a.1 b.1) (nat_lt b.1 a.1) (levels_before a.0 b.0) (levels_before b.0 a.0) (nat_lt-asym a.1 b.1) (before-asym a.0 b.0) p

pub farther : (a b : Reached) → b.1 < a.1 → better a b ≡ false
farther a b p =
    let q = nat_lt-is b.1 a.1 p in
    fails (nat_lt a.1 b.1) (nat_lt b.1 a.1) (levels_before a.0 b.0) (nat_lt-asym b.1 a.1 q) (λ r. absurd (true≢false (sym q ∙ r)))

pub among-append : (xs ys : List Reached) (v : Reached) → Among (xs ++ ys) v → Among xs v ⊎ Among ys v
among-append [] ys v h = inr h
among-append (x ∷ xs) ys v h = elim h [ inl e ↦ inl (inl e) | inr r ↦ elim (among-append xs ys v r) [ inl l ↦ inl (inr l) | inr m ↦ inr m ] ]

pub among-left : (xs ys : List Reached) (v : Reached) → Among xs v → Among (xs ++ ys) v
among-left [] ys v h = absurd h
among-left (x ∷ xs) ys v h = elim h [ inl e ↦ inl e | inr r ↦ inr (among-left xs ys v r) ]

pub among-right : (xs ys : List Reached) (v : Reached) → Among ys v → Among (xs ++ ys) v
among-right [] ys v h = h
among-right (x ∷ xs) ys v h = inr (among-right xs ys v h)

pub best-none : (a : Reached) → IsBestOf a [] a
best-none a = record { one = inl refl; old_is_not = better-self a; none_is = λ v h. absurd h }

pub best-append : (a b c : Reached) (xs ys : List Reached) → IsBestOf a xs b → IsBestOf b ys c → IsBestOf a (xs ++ ys) c
best-append a b c xs ys p q = record {
  one = elim q.one [
    | inl e ↦ elim p.one [ inl f ↦ inl (e ∙ f) | inr m ↦ inr (among-left xs ys c (subst (Among xs) (sym e) m)) ]
    | inr m ↦ inr (among-right xs ys c m)
  ];
  old_is_not = better-not-trans a b c p.old_is_not q.old_is_not;
  none_is = λ v h. elim (among-append xs ys v h) [
    | inl l ↦ better-not-trans v b c (p.none_is v l) q.old_is_not
    | inr r ↦ q.none_is v r
  ];
}

-- each vector of a tree is at least as far as the tree's root
module _ (under : List ℤ → ℕ → List Reached) (choice : Real) (chosen : List ℤ) (partial : ℕ) where
  by-le : ((s : List ℤ) (p : ℕ) (v : Reached) → Among (under s p) v → p ≤ v.1)
      → (xs : List ℤ) (v : Reached) → Among (leaves_by under choice chosen partial xs) v → partial ≤ v.1
  by-le rest [] v h = absurd h
  by-le rest (x ∷ xs) v h = elim (among-append (under (x ∷ chosen) (partial + cost choice chosen x)) (leaves_by under choice chosen partial xs) v h) [
    | inl l ↦ omega (arith, rest (x ∷ chosen) (partial + cost choice chosen x) v l)
    | inr r ↦ by-le rest xs v r
  ]

pub leaves-le : (choices : List Real) (chosen : List ℤ) (partial : ℕ) (v : Reached) → Among (leaves choices chosen partial) v → partial ≤ v.1
leaves-le [] chosen partial v h = elim h [ inl e ↦ omega (arith, ap (λ (f : Reached). f.1) e) | inr n ↦ absurd n ]
leaves-le (choice ∷ choices) chosen partial v h = by-le (leaves choices) choice chosen partial (leaves-le choices) (order choice chosen) v h

-- a tree whose root is farther than the best has nothing better
pub best-pruned : (a : Reached) (choices : List Real) (chosen : List ℤ) (partial : ℕ) → a.1 < partial → IsBestOf a (leaves choices chosen partial) a
best-pruned a choices chosen partial p = record {
  one = inl refl;
  old_is_not = better-self a;
  none_is = λ v h. farther v a (omega (arith, leaves-le choices chosen partial v h));
}

pub best-taken : (a v w : Reached) → better v a ≡ true → w ≡ v → IsBestOf a (v ∷ []) w
best-taken a v w p e = subst (IsBestOf a (v ∷ [])) (sym e) record {
  one = inr (inl refl);
  old_is_not = better-asym v a p;
  none_is = λ u h. elim h [ inl f ↦ subst (λ x. better x v ≡ false) (sym f) (better-self v) | inr n ↦ absurd n ];
}

pub best-left : (a v : Reached) → better v a ≡ false → IsBestOf a (v ∷ []) a
best-left a v p = record {
  one = inl refl;
  old_is_not = better-self a;
  none_is = λ u h. elim h [ inl f ↦ subst (λ x. better x a ≡ false) (sym f) p | inr n ↦ absurd n ];
}

-- levels that are all too far hold nothing better
by-far : (a : Reached) (choice : Real) (choices : List Real) (chosen : List ℤ) (partial k : ℕ) (xs : List ℤ)
    → a.1 < partial + k → From (cost choice chosen) k xs → IsBestOf a (leaves_by (leaves choices) choice chosen partial xs) a
by-far a choice choices chosen partial k [] far h = best-none a
by-far a choice choices chosen partial k (x ∷ xs) far h =
    best-append a a a (leaves choices (x ∷ chosen) (partial + cost choice chosen x)) (leaves_by (leaves choices) choice chosen partial xs)
    (best-pruned a choices (x ∷ chosen) (partial + cost choice chosen x) (omega (arith, h.0))) (by-far a choice choices chosen partial k xs far h.1)

-- the walk stops at the first level that is too far
pub best-cut : (a : Reached) (choice : Real) (choices : List Real) (chosen : List ℤ) (partial : ℕ) (x : ℤ) (xs : List ℤ) → a.1 < partial + cost choice chosen x
    → Ascending (cost choice chosen) (x ∷ xs) → IsBestOf a (leaves_by (leaves choices) choice chosen partial (x ∷ xs)) a
best-cut a choice choices chosen partial x xs far sorted =
    by-far a choice choices chosen partial (cost choice chosen x) (x ∷ xs) far (omega arith, sorted.0)

pub steps-on : (before next after below rest all : ℕ) → after + 1 ≤ next + 2 * below
    → next ≡ before + 1 → before + 2 + 2 * (below + rest) ≤ all → after + 2 + 2 * rest ≤ all
steps-on before next after below rest all p q r = omega arith

pub steps-start : (steps partial rho rest : ℕ) → partial ≤ rho → steps + 2 + 2 * rest ≤ steps + 2 * (one (nat_lt rho partial) + rest)
steps-start steps partial rho rest p =
    let not_less : nat_lt rho partial ≡ false = grind (arith, nat_tests) in
    let counts : one (nat_lt rho partial) ≡ 1 = ap one not_less in
    omega (arith, counts)

-- the order of the levels is that of their costs, too
from_squared : (t : ℤ) (c : Real) (n : ℕ) (xs : List ℤ) → From (gap t c.diagonal) n xs → From (cost_at c t) (n * n) xs
from_squared t c n [] h = tt
from_squared t c n (x ∷ xs) h = (mul-le-mul h.0 h.0, from_squared t c n xs h.1)

ascending_squared : (t : ℤ) (c : Real) (xs : List ℤ) → Ascending (gap t c.diagonal) xs → Ascending (cost_at c t) xs
ascending_squared t c [] h = tt
ascending_squared t c (x ∷ xs) h = (from_squared t c (gap t c.diagonal x) xs h.0, ascending_squared t c xs h.1)

pub sorted : (c : Real) (t : ℤ) → Ascending (cost_at c t) (order_at c t)
sorted c t = ascending_squared t c (order_at c t) (ascending (gap t c.diagonal) (levels c.ladder))

-- there is a level
pub walk_some : (l : Rungs) (f : ℤ → ℕ) → IsLadder l → 0 < length (nearest_first f (levels l))
walk_some l f ladder = omega (arith, length-nearest_first f (levels l), levels_some l ladder)

pub order_some : (c : Real) (t : ℤ) → IsLadder c.ladder → 0 < length (order_at c t)
order_some c t ladder = walk_some c.ladder (gap t c.diagonal) ladder

-- `<` of two lists of levels
pub less_is_before : (xs ys : List ℤ) (r : Bool) → r ≡ is_some_and is_lt (slice_partial_cmp (λ x y. Some (int_cmp x y)) xs ys) → r ≡ levels_before xs ys
less_is_before =
    same_from_slice_cmp_tested int_cmp is_lt levels_before refl (λ _ _. refl) (λ _ _. refl) (λ x y xs ys o h. grind (arith, ints))

-- of two that are as near the first one is better
pub tied : (near far : ℕ) (xs ys : List ℤ) (r : Bool) → near ≡ far → r ≡ levels_before xs ys → r ≡ better (xs, near) (ys, far)
tied near far xs ys r p q = rw q (by_order near far (levels_before xs ys) p)
  where
    by_order : (near far : ℕ) (b : Bool) → near ≡ far → b ≡ (nat_lt near far || (not (nat_lt far near) && b))
    by_order near far b p = grind (arith, nat_tests)
