-- Pieces of a line, each written in front of a place.
use Rattle.std.proofs.Common.{◌≡◌, ℕ, suc, ℤ, pos, negsuc, List, [], ◌∷◌, ◌++◌, ◌+◌, ◌-◌, ◌≤◌, length, take, drop, decimal, unsigned_abs}
use Rattle.std.proofs.Common.{sym, ap, subst, ◌∙◌, arith, append-nil}
use Rattle.std.specs.Int.Signed.{◌<ℤ◌, ◌≤ℤ◌}
use Rattle.std.proofs.lemmas.Int.{ints}
use Rattle.std.proofs.lemmas.List.{drop-append-le, drop-drop, drop_at, length-take-le}
use borrow.Rule.Slice.PartMut.{put_mid}
use Rattle.ht_text.specs.Lines.{spaced}

-- behind the first octet
pub behind : (xs ys : List ℕ) (a b x : ℕ) → a + 1 ≡ b → drop a xs ≡ x ∷ ys → drop b xs ≡ ys
behind xs ys a b x next is = ap (λ (n : ℕ). drop n xs) (sym next) ∙ (sym (drop-drop 1 a xs) ∙ ap (λ (l : List ℕ). drop 1 l) is)

-- a part of some octets is copied in front of a place, and the last of them are a text
pub part_put : (w end s : ℕ) (xs ys text : List ℕ) → w ≤ end → end ≤ length xs → length ys ≡ w → s ≤ w → drop s ys ≡ text
    → drop (end - w + s) (put_mid (end - w) (end - (end - w)) xs ys) ≡ text ++ drop end xs
part_put w end s xs ys text room within len few is =
    let a = end - w in
    let k = end - a in
    let wide : length (take a xs) ≡ a = length-take-le a xs (omega (arith, within)) in
    let rest : a + k ≡ end = omega (arith, room) in
    sym (drop-drop s a (put_mid a k xs ys))
    ∙ (ap (λ (l : List ℕ). drop s l) (drop_at (take a xs) (ys ++ drop k (drop a xs)) a wide)
    ∙ (drop-append-le s ys (drop k (drop a xs)) (omega (arith, len, few))
    ∙ (ap (λ (l : List ℕ). l ++ drop k (drop a xs)) is
    ∙ ap (λ (l : List ℕ). text ++ l) (drop-drop k a xs ∙ ap (λ (n : ℕ). drop n xs) rest))))

-- a level behind its sign, where the digits of this size were written for it
module _ (sign : ℕ) (rest : List ℕ) where
  -- a number behind its minus
  with_minus : (z : ℤ) → (pos 0 ≤ℤ z → sign ≡ 32) → sign ≡ 45 → 32 ∷ sign ∷ (decimal (unsigned_abs z) ++ rest) ≡ spaced (z ∷ []) ++ rest
  with_minus (pos n) other is = let space : sign ≡ 32 = other (omega (arith, ints)) in absurd (omega arith)
  with_minus (negsuc n) other is =
      ap (λ (s : ℕ). 32 ∷ s ∷ (decimal (suc n) ++ rest)) is ∙ ap (λ (l : List ℕ). 32 ∷ 45 ∷ (l ++ rest)) (sym (append-nil (decimal (suc n))))

  -- a number with none
  with_space : (z : ℤ) → (z <ℤ pos 0 → sign ≡ 45) → (pos 0 ≤ℤ z → sign ≡ 32) → (sign ≡ 45 → ⊥)
      → sign ∷ (decimal (unsigned_abs z) ++ rest) ≡ spaced (z ∷ []) ++ rest
  with_space (pos n) minus other not =
      ap (λ (s : ℕ). s ∷ (decimal n ++ rest)) (other (omega (arith, ints))) ∙ ap (λ (l : List ℕ). 32 ∷ (l ++ rest)) (sym (append-nil (decimal n)))
  with_space (negsuc n) minus other not = absurd (not (minus (omega (arith, ints))))

  module _ (z y : ℤ) (same : y ≡ z) (size : ℕ) (is : size ≡ unsigned_abs y) where
    digits : decimal size ++ rest ≡ decimal (unsigned_abs z) ++ rest
    digits = ap (λ (n : ℕ). decimal n ++ rest) (is ∙ ap unsigned_abs same)

    pub minus_put : (pos 0 ≤ℤ y → sign ≡ 32) → sign ≡ 45 → 32 ∷ sign ∷ (decimal size ++ rest) ≡ spaced (z ∷ []) ++ rest
    minus_put other minus =
        ap (λ (l : List ℕ). 32 ∷ sign ∷ l) digits ∙ with_minus z (subst (λ (n : ℤ). pos 0 ≤ℤ n → sign ≡ 32) same other) minus

    pub space_put : (y <ℤ pos 0 → sign ≡ 45) → (pos 0 ≤ℤ y → sign ≡ 32) → (sign ≡ 45 → ⊥) → sign ∷ (decimal size ++ rest) ≡ spaced (z ∷ []) ++ rest
    space_put negative other not =
        ap (λ (l : List ℕ). sign ∷ l) digits
        ∙ with_space z (subst (λ (n : ℤ). n <ℤ pos 0 → sign ≡ 45) same negative) (subst (λ (n : ℤ). pos 0 ≤ℤ n → sign ≡ 32) same other) not
