-- What is among a list of several lists.
use Rattle.std.proofs.Common.{◌≡◌, ◌⊎◌, List, [], ◌∷◌, ◌++◌, map, inl, inr, ap, sym, refl, subst}
use Rattle.std.specs.List.{flat_map}
use Rattle.ht_nearest.proofs.Bests.{Among}

pub among_left : {X : Type 0} (xs ys : List X) (v : X) → Among xs v → Among (xs ++ ys) v
among_left [] ys v h = absurd h
among_left (x ∷ xs) ys v h = elim h [ inl e ↦ inl e | inr rest ↦ inr (among_left xs ys v rest) ]

pub among_right : {X : Type 0} (xs ys : List X) (v : X) → Among ys v → Among (xs ++ ys) v
among_right [] ys v h = h
among_right (x ∷ xs) ys v h = inr (among_right xs ys v h)

pub among_either : {X : Type 0} (xs ys : List X) (v : X) → Among (xs ++ ys) v → Among xs v ⊎ Among ys v
among_either [] ys v h = inr h
among_either (x ∷ xs) ys v h = elim h [
  | inl e ↦ inl (inl e)
  | inr rest ↦ elim (among_either xs ys v rest) [ inl left ↦ inl (inr left) | inr right ↦ inr right ]
]

pub among_map : {X Y : Type 0} (f : X → Y) (xs : List X) (u : X) → Among xs u → Among (map f xs) (f u)
among_map f [] u h = absurd h
among_map f (x ∷ xs) u h = elim h [ inl e ↦ inl (ap f e) | inr rest ↦ inr (among_map f xs u rest) ]

pub mapped : {X Y : Type 0} (f : X → Y) (xs : List X) (v : Y) → Among (map f xs) v → (u : X) × (Among xs u) × (f u ≡ v)
mapped f [] v h = absurd h
mapped f (x ∷ xs) v h = elim h [
  | inl e ↦ (x, inl refl, e)
  | inr rest ↦ let m = mapped f xs v rest in (m.0, inr m.1, m.2)
]

pub among_flat : {X Y : Type 0} (f : X → List Y) (xs : List X) (u : X) (v : Y) → Among xs u → Among (f u) v → Among (flat_map f xs) v
among_flat f [] u v h g = absurd h
among_flat f (x ∷ xs) u v h g = elim h [
  | inl e ↦ among_left (f x) (flat_map f xs) v (subst (λ z. Among (f z) v) (sym e) g)
  | inr rest ↦ among_right (f x) (flat_map f xs) v (among_flat f xs u v rest g)
]

pub flattened : {X Y : Type 0} (f : X → List Y) (xs : List X) (v : Y) → Among (flat_map f xs) v → (u : X) × (Among xs u) × (Among (f u) v)
flattened f [] v h = absurd h
flattened f (x ∷ xs) v h = elim (among_either (f x) (flat_map f xs) v h) [
  | inl here ↦ (x, inl refl, here)
  | inr rest ↦ let m = flattened f xs v rest in (m.0, inr m.1, m.2)
]
