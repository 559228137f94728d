-- What the vectors cost that successive rounding leaves out.
use Rattle.std.proofs.Common.{◌≡◌, ◌⊎◌, ℕ, ◌+◌, ◌<◌, ◌≤◌, ℤ, List, [], ◌∷◌, get_or, pos, false, arith, inl, inr, refl, ap, sym, ◌∙◌, subst}
use Rattle.std.specs.Prelude.{nat_lt}
use Rattle.std.proofs.lemmas.Bool.Decides.{nat_tests}
use Rattle.ht_nearest.proofs.Bests as bests
use Rattle.ht_sphere.specs.Coordinates.{Real, target, cost, cost_at, order, order_at, first_of, IsMargin}
use Rattle.ht_sphere.specs.Tree.{Reached, rounding, inside}
use Rattle.ht_sphere.specs.Searching.{leaves, leaves_by, better, Among, IsBestOf}
use Rattle.ht_sphere.proofs.Bests.{among-append, leaves-le, better-self, farther, sorted}
use Rattle.ht_sphere.proofs.Paths.{tried_has}
use Rattle.ht_sphere.proofs.Margins.{least_first}

-- a leaf is under one of the levels
under_one : (cs : List Real) (c : Real) (s : List ℤ) (p : ℕ) (v : Reached) (xs : List ℤ)
    → Among (leaves_by (leaves cs) c s p xs) v → (x : ℤ) × bests.Among xs x × Among (leaves cs (x ∷ s) (p + cost c s x)) v
under_one cs c s p v [] h = absurd h
under_one cs c s p v (x ∷ xs) h = elim (among-append (leaves cs (x ∷ s) (p + cost c s x)) (leaves_by (leaves cs) c s p xs) v h) [
  | inl here ↦ (x, inl refl, here)
  | inr rest ↦ let r = under_one cs c s p v xs rest in (r.0, inr r.1, r.2)
]

-- each leaf is the one that was found, or at least so far
abbrev pub OthersFrom : List Real → List ℤ → ℕ → Reached → ℕ → Type 0
OthersFrom cs s p w off = (v : Reached) → Among (leaves cs s p) v → (v ≡ w) ⊎ (off ≤ v.1)

-- who leaves the way at a coordinate is farther by its margin
others_more : (c : Real) (cs : List Real) (s : List ℤ) (p n m off : ℕ) (x : ℤ) (w : Reached) → IsMargin c.ladder (target c s) c.diagonal x m
    → n ≡ p + cost c s x → off ≤ n + m → OthersFrom cs (x ∷ s) n w off → OthersFrom (c ∷ cs) s p w off
others_more c cs s p n m off x w margin sum far others v h =
    let r = under_one cs c s p v (order c s) h in
    let y = r.0 in
    elim (margin y (tried_has c s y r.1)) [
      | inl e ↦ others v (subst (λ (k : ℕ). Among (leaves cs (x ∷ s) k) v) (sym sum) (subst (λ (z : ℤ). Among (leaves cs (z ∷ s) (p + cost c s z)) v) e r.2))
      | inr more ↦ let le = leaves-le cs (y ∷ s) (p + cost c s y) v r.2 in inr (omega arith)
    ]

-- who has another Q has the same targets of I, and costs there at least what the nearest level costs
nearest_at : (i : Real) (s : List ℤ) (t : ℤ) (y u : ℤ) → t ≡ target i s → y ≡ first_of i.ladder t i.diagonal → bests.Among (order i s) u
    → cost_at i t y ≤ cost i s u
nearest_at i s t y u e f h =
    subst (λ (z : ℤ). cost_at i t z ≤ cost i s u) (sym f)
    (subst (λ (r : ℤ). bests.Among (order_at i r) u → cost_at i t (first_of i.ladder t i.diagonal) ≤ cost_at i r u) e
    (least_first (cost_at i t) (order_at i t) u (sorted i t)) h)

pub others_none : (s : List ℤ) (p off : ℕ) → OthersFrom [] s p (s, p) off
others_none s p off v h = elim h [ inl e ↦ inl e | inr none ↦ absurd none ]

-- where all others are farther, it is the best
pub alone : (cs : List Real) (s : List ℤ) (p off : ℕ) (w : Reached) → OthersFrom cs s p w off → w.1 < off → IsBestOf w (leaves cs s p) w
alone cs s p off w others less = record {
  one = inl refl;
  old_is_not = better-self w;
  none_is = λ v h. elim (others v h) [
    | inl e ↦ subst (λ (u : Reached). better u w ≡ false) (sym e) (better-self w)
    | inr far ↦ farther v w (omega arith)
  ];
}

-- the nearest levels x and y of a stream's Q and I, with the distance n and the margins a and b: whatever Q is, t is the target of I
pub record AreChosen (q i : Real) (s : List ℤ) (p n a b : ℕ) (x y t : ℤ) : Type 0 where
  pub sum : n ≡ p + (cost q s x + cost_at i t y)
  pub same : (z : ℤ) → t ≡ target i (z ∷ s)
  pub first_q : x ≡ first_of q.ladder (target q s) q.diagonal
  pub first_i : y ≡ first_of i.ladder t i.diagonal
  pub margin_q : IsMargin q.ladder (target q s) q.diagonal x a
  pub margin_i : IsMargin i.ladder t i.diagonal y b

-- two coordinates of successive rounding
pub round_two : (q i : Real) (rest : List Real) (s : List ℤ) (p n a b : ℕ) (x y t : ℤ) (w : Reached) → AreChosen q i s p n a b x y t
    → rounding rest (y ∷ x ∷ s) n ≡ w → rounding (q ∷ i ∷ rest) s p ≡ w
round_two q i rest s p n a b x y t w both r =
    let costs : cost_at i t y ≡ cost i (x ∷ s) y = ap (λ (z : ℤ). cost_at i z y) (both.same x) in
    let all : n ≡ p + cost q s x + cost i (x ∷ s) y = omega (arith, both.sum, costs) in
    let first : y ≡ get_or (order i (x ∷ s)) 0 (pos 0) = both.first_i ∙ ap (λ (z : ℤ). first_of i.ladder z i.diagonal) (both.same x) in
    ap (λ (z : ℤ). rounding (i ∷ rest) (z ∷ s) (p + cost q s z)) (sym both.first_q)
    ∙ ap (λ (z : ℤ). rounding rest (z ∷ x ∷ s) (p + cost q s x + cost i (x ∷ s) z)) (sym first)
    ∙ ap (λ (k : ℕ). rounding rest (y ∷ x ∷ s) k) (sym all) ∙ r

pub others_two : (q i : Real) (rest : List Real) (s : List ℤ) (p n a b off : ℕ) (x y t : ℤ) (w : Reached) → AreChosen q i s p n a b x y t
    → off ≤ n + a → off ≤ n + b → OthersFrom rest (y ∷ x ∷ s) n w off → OthersFrom (q ∷ i ∷ rest) s p w off
others_two q i rest s p n a b off x y t w both far_q far_i others v h =
    let at_q = under_one (i ∷ rest) q s p v (order q s) h in
    let z = at_q.0 in
    elim (both.margin_q z (tried_has q s z at_q.1)) [
      | inl e ↦
          let margin : IsMargin i.ladder (target i (x ∷ s)) i.diagonal y b = subst (λ (r : ℤ). IsMargin i.ladder r i.diagonal y b)
          (both.same x) both.margin_i in
          let costs : cost_at i t y ≡ cost i (x ∷ s) y = ap (λ (r : ℤ). cost_at i r y) (both.same x) in
          others_more i rest (x ∷ s) (p + cost q s x) n b off y w margin (omega (arith, both.sum, costs)) far_i others v
          (subst (λ (r : ℤ). Among (leaves (i ∷ rest) (r ∷ s) (p + cost q s r)) v) e at_q.2)
      | inr more ↦
          let m = p + cost q s z in
          let at_i = under_one rest i (z ∷ s) m v (order i (z ∷ s)) at_q.2 in
          let u = at_i.0 in
          let least = nearest_at i (z ∷ s) t y u (both.same z) both.first_i at_i.1 in
          let le = leaves-le rest (u ∷ z ∷ s) (m + cost i (z ∷ s) u) v at_i.2 in
          inr (omega (arith, both.sum, more, least, le, far_q))
    ]

-- the root is inside
root : (rho : ℕ) → nat_lt rho 0 ≡ false
root rho = grind (arith, nat_tests)

pub inside_some : (rho : ℕ) (cs : List Real) → 1 ≤ inside rho cs [] 0
inside_some rho [] = rw (root rho) (omega arith)
inside_some rho (c ∷ cs) = rw (root rho) (omega arith)
