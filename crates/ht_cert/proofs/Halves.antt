-- A number of sixteen octets that fits in the lower eight.
use Rattle.std.proofs.Common.{◌≡◌, ℕ, ◌/◌, ◌%◌, ◌^◌, ◌<◌, List, ◌∷◌, ◌++◌, replicate, refl, ap, ◌∙◌, arith}
use Rattle.byteorder.specs.Endian.{big_bytes}

cons_same : (x y : ℕ) (xs ys : List ℕ) → x ≡ y → xs ≡ ys → x ∷ xs ≡ y ∷ ys
cons_same x y xs ys e f = ap (λ z. z ∷ xs) e ∙ ap (λ (zs : List ℕ). y ∷ zs) f

-- the upper octets are 0
pub lower_half : (n : ℕ) → n < 2 ^ 64 → replicate 8 0 ++ big_bytes 8 n ≡ big_bytes 16 n
lower_half n small =
    let h15 : 0 ≡ n / 256 ^ 15 % 256 = omega (arith, small) in
    let h14 : 0 ≡ n / 256 ^ 14 % 256 = omega (arith, small) in
    let h13 : 0 ≡ n / 256 ^ 13 % 256 = omega (arith, small) in
    let h12 : 0 ≡ n / 256 ^ 12 % 256 = omega (arith, small) in
    let h11 : 0 ≡ n / 256 ^ 11 % 256 = omega (arith, small) in
    let h10 : 0 ≡ n / 256 ^ 10 % 256 = omega (arith, small) in
    let h9 : 0 ≡ n / 256 ^ 9 % 256 = omega (arith, small) in
    let h8 : 0 ≡ n / 256 ^ 8 % 256 = omega (arith, small) in
    cons_same _ _ _ _ h15 (cons_same _ _ _ _ h14
    (cons_same _ _ _ _ h13 (cons_same _ _ _ _ h12 (cons_same _ _ _ _ h11 (cons_same _ _ _ _ h10 (cons_same _ _ _ _ h9 (cons_same _ _ _ _ h8 (refl))))))))
