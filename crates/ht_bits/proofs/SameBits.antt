-- A test whether two lists of bits are equal, for proofs by computation.
use Rattle.std.proofs.Common.{◌≡◌, List, [], ◌∷◌, Bool, true, false, ◌&&◌, refl, ap, ◌∙◌}
use mathlib.Core.Bool.{beq}
use Rattle.std.proofs.lemmas.Bool.{and_parts}

unfoldable pub same_bits : List Bool → List Bool → Bool
same_bits [] [] = true
same_bits [] (b ∷ ys) = false
same_bits (a ∷ xs) [] = false
same_bits (a ∷ xs) (b ∷ ys) = beq a b && same_bits xs ys

beq-true : (a b : Bool) → beq a b ≡ true → a ≡ b
beq-true false false e = refl
beq-true true true e = refl
beq-true false true e = cc
beq-true true false e = cc

-- lists that pass the test are equal
pub same_bits-true : (xs ys : List Bool) → same_bits xs ys ≡ true → xs ≡ ys
unfolding same_bits
same_bits-true [] [] e = refl
same_bits-true [] (b ∷ ys) e = cc
same_bits-true (a ∷ xs) [] e = cc
same_bits-true (a ∷ xs) (b ∷ ys) e =
    let parts = and_parts (beq a b) (same_bits xs ys) e in
    ap (λ (x : Bool). x ∷ xs) (beq-true a b parts.0) ∙ ap (λ (zs : List Bool). b ∷ zs) (same_bits-true xs ys parts.1)
