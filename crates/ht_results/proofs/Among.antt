-- Something of a kind is in a list.
use Rattle.std.proofs.Common.{◌⊎◌, inl, inr, List, [], ◌∷◌, ◌++◌}

module _ {X : Type 0} (Is : X → Type 0) where
  -- one of these is such a one
  abbrev pub Among : List X → Type 0
  Among [] = ⊥
  Among (x ∷ xs) = Is x ⊎ Among xs

  -- then so is one of more
  pub among_front : (xs ys : List X) → Among xs → Among (xs ++ ys)
  among_front [] ys there = absurd there
  among_front (x ∷ xs) ys (inl here) = inl here
  among_front (x ∷ xs) ys (inr later) = inr (among_front xs ys later)

  pub among_behind : (xs ys : List X) → Among ys → Among (xs ++ ys)
  among_behind [] ys there = there
  among_behind (x ∷ xs) ys there = inr (among_behind xs ys there)
