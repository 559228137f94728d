-- The order of vectors is one.
use Rattle.std.proofs.Common.{◌≡◌, ◌⊎◌, ℤ, ◌<ℤ◌, List, [], ◌∷◌, Bool, true, false, ◌&&◌, ◌||◌, not, refl, arith, inl, inr, ap, ◌∙◌}
use Rattle.std.specs.Prelude.{int_lt}
use Rattle.std.specs.Prelude.{Option, Some, None}
use Rattle.std.proofs.Common.{Ordering, Less, Equal, Greater, cond}
use Rattle.std.specs.Ordering.{is_lt, is_some_and, partial_ordering_then}
use Rattle.std.specs.Cmp.Lexicographic.{slice_partial_cmp}
use Rattle.std.proofs.lemmas.Int.{ints}
use Rattle.std.proofs.lemmas.Bool.{both_ways}
use Rattle.ht_nearest.specs.Nearest.{IsOrder}
use Rattle.ht_pam.specs.declared.point.Point.{Point}
use Rattle.ht_pam.specs.contracts.point.PointPartialOrd.TheImpl as point_order
use Rattle.ht_metric.specs.Vectors.{levels_of, levels_before, before}

-- the first level decides, or it is the same and the others do
cons_cases : (a b : ℤ) (x y : List ℤ) → levels_before (a ∷ x) (b ∷ y) ≡ true → (a <ℤ b) ⊎ ((a ≡ b) × (levels_before x y ≡ true))
cons_cases a b x y h = grind (arith, ints)

first_less : (a b : ℤ) (x y : List ℤ) → a <ℤ b → levels_before (a ∷ x) (b ∷ y) ≡ true
first_less a b x y less = grind (arith, ints)

first_same : (a b : ℤ) (x y : List ℤ) → a ≡ b → levels_before (a ∷ x) (b ∷ y) ≡ levels_before x y
first_same a b x y same = grind (arith, ints)

cons_apart : (a b : ℤ) (x y : List ℤ) → levels_before (a ∷ x) (b ∷ y) ≡ false → levels_before (b ∷ y) (a ∷ x) ≡ false
    → (a ≡ b) × (levels_before x y ≡ false) × (levels_before y x ≡ false)
cons_apart a b x y p q = grind (arith, ints)

apart : (x : List ℤ) → levels_before x x ≡ false
apart [] = refl
apart (a ∷ x) = first_same a a x x refl ∙ apart x

onward : (x y z : List ℤ) → levels_before x y ≡ true → levels_before y z ≡ true → levels_before x z ≡ true
onward [] [] z p q = absurd (both_ways _ refl p)
onward (a ∷ x) [] z p q = absurd (both_ways _ refl p)
onward x (b ∷ y) [] p q = absurd (both_ways _ refl q)
onward [] (b ∷ y) (c ∷ z) p q = refl
onward (a ∷ x) (b ∷ y) (c ∷ z) p q = elim (cons_cases a b x y p) [
  | inl less ↦ elim (cons_cases b c y z q) [
    | inl more ↦ first_less a c x z (omega (arith, ints))
    | inr both ↦ first_less a c x z (let e = both.0 in omega (arith, ints))
  ]
  | inr one ↦ elim (cons_cases b c y z q) [
    | inl more ↦ first_less a c x z (let e = one.0 in omega (arith, ints))
    | inr both ↦ first_same a c x z (one.0 ∙ both.0) ∙ onward x y z one.1 both.1
  ]
]

decides : (x y : List ℤ) → levels_before x y ≡ false → levels_before y x ≡ false → x ≡ y
decides [] [] p q = refl
decides [] (b ∷ y) p q = absurd (both_ways true p refl)
decides (a ∷ x) [] p q = absurd (both_ways true q refl)
decides (a ∷ x) (b ∷ y) p q =
    let both = cons_apart a b x y p q in
    ap (λ (c : ℤ). c ∷ x) both.0 ∙ ap (λ (z : List ℤ). b ∷ z) (decides x y both.1 both.2)

pub same_points : (a b : Point) → a.i ≡ b.i → a.q ≡ b.q → a ≡ b
same_points a b p q =
    let at : ℤ → ℤ → Point = λ i q. record { i = i; q = q } in
    ap (λ i. at i a.q) p ∙ ap (λ q. at b.i q) q

-- vectors with the same levels are the same
same_vectors : (x y : List Point) → levels_of x ≡ levels_of y → x ≡ y
same_vectors [] [] e = refl
same_vectors [] (b ∷ y) e = absurd cc
same_vectors (a ∷ x) [] e = absurd cc
same_vectors (a ∷ x) (b ∷ y) e =
    let i : a.i ≡ b.i = cc in
    let q : a.q ≡ b.q = cc in
    let rest : levels_of x ≡ levels_of y = cc in
    ap (λ (p : Point). p ∷ x) (same_points a b i q) ∙ ap (λ (z : List Point). b ∷ z) (same_vectors x y rest)

-- whatever the members are
pub vector_order : (is_member : List Point → Bool) → IsOrder is_member before
vector_order is_member = record {
  apart = λ x. apart (levels_of x);
  onward = λ x y z p q. onward (levels_of x) (levels_of y) (levels_of z) p q;
  decides = λ x y _ _ p q. same_vectors x y (decides (levels_of x) (levels_of y) p q);
}

-- `<` of two lists of points goes by I first, then by Q, then by the points behind
by_parts : (less more q_less q_more : Bool) (rest : Option Ordering) → is_some_and is_lt
    (partial_ordering_then (partial_ordering_then (Some (cond less Less (cond more Greater Equal))) (Some (cond q_less Less (cond q_more Greater Equal)))) rest)
    ≡ (less || (not more && (q_less || (not q_more && is_some_and is_lt rest))))
by_parts true more q_less q_more rest = refl
by_parts false true q_less q_more rest = refl
by_parts false false true q_more rest = refl
by_parts false false false true rest = refl
by_parts false false false false None = refl
by_parts false false false false (Some o) = refl

less_is_before : (x y : List Point) → is_some_and is_lt (slice_partial_cmp point_order.partial_cmp-value.it x y) ≡ before x y
less_is_before [] [] = refl
less_is_before [] (b ∷ y) = refl
less_is_before (a ∷ x) [] = refl
less_is_before (a ∷ x) (b ∷ y) =
    by_parts (int_lt a.i b.i) (int_lt b.i a.i) (int_lt a.q b.q) (int_lt b.q a.q) (slice_partial_cmp point_order.partial_cmp-value.it x y)
    ∙ ap (λ (rest : Bool). int_lt a.i b.i || (not (int_lt b.i a.i) && (int_lt a.q b.q || (not (int_lt b.q a.q) && rest)))) (less_is_before x y)

pub less_is_vectors : (x y s t : List Point) (r : Bool)
    → r ≡ is_some_and is_lt (slice_partial_cmp point_order.partial_cmp-value.it x y) → x ≡ s → y ≡ t → r ≡ before s t
less_is_vectors x y s t r e f g = e ∙ less_is_before x y ∙ ap (λ (z : List Point). before z y) f ∙ ap (λ (z : List Point). before s z) g
