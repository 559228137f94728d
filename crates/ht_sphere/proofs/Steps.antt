-- One level more.
use Rattle.std.proofs.Common.{refl, ◌≡◌, ℕ, zero, suc, [], ◌+◌, ◌-◌, ◌*◌, ◌^◌, ◌<◌, ◌≤◌, ℤ, pos, ◌-ℤ◌, ◌*ℤ◌, unsigned_abs, List, ◌∷◌, length, drop, set}
use Rattle.std.proofs.Common.{arith, ap, sym, ◌∙◌, subst}
use borrow.Rule.Slice.PartMut.{put_mid}
use Rattle.std.proofs.lemmas.List.{drop-set, drop-drop}
use Rattle.std.proofs.Math.ListN.{length-set}
use Rattle.std.specs.List.{All}
use Rattle.std.proofs.lemmas.List.Elements.{All-set}
use Rattle.ht_pam.specs.Ladders.{Rungs}
use Rattle.ht_metric.specs.Distance.{square}
use Rattle.ht_sphere.specs.Coordinates.{Real, target, cost, cost_at, first_of, IsAimed, IsMargin}
use Rattle.ht_sphere.proofs.Margins.{squares}
use Rattle.ht_sphere.proofs.Others.{AreChosen}

pair_put : (xs : List ℤ) (at : ℕ) (a b : ℤ) → at + 2 ≤ length xs → put_mid at 2 xs (a ∷ b ∷ []) ≡ set (set xs (suc at) b) at a
pair_put [] at a b room = absurd (omega arith)
pair_put (x ∷ []) at a b room = absurd (omega arith)
pair_put (x ∷ y ∷ xs) zero a b room = refl
pair_put (x ∷ y ∷ xs) (suc at) a b room = ap (λ (l : List ℤ). x ∷ l) (pair_put (y ∷ xs) at a b (omega arith))

-- both levels of a stream are written, as a pair and one by one
pub both_put : (xs : List ℤ) (at next count : ℕ) (pair : List ℤ) (a b : ℤ) → next ≡ suc at → count ≡ 2 → pair ≡ a ∷ b ∷ [] → at + 2 ≤ length xs
    → put_mid at count xs pair ≡ set (set xs next b) at a
both_put xs at next count pair a b n c p room =
    ap (λ (k : ℕ). put_mid at k xs pair) c ∙ ap (λ (ys : List ℤ). put_mid at 2 xs ys) p
    ∙ pair_put xs at a b room ∙ ap (λ (m : ℕ). set (set xs m b) at a) (sym n)

pub two_set : (xs : List ℤ) (k at : ℕ) (a b x y : ℤ) → at + 2 ≡ 2 * k → at + 2 ≤ length xs → a ≡ x → b ≡ y
    → drop (2 * (k - 1)) (set (set xs (at + 1) a) at b) ≡ y ∷ x ∷ drop (2 * k) xs
two_set xs k at a b x y here room e f =
    let ys = set xs (at + 1) a in
    let place : 2 * (k - 1) ≡ at = omega arith in
    let next : at + 1 + 1 ≡ 2 * k = omega arith in
    let long = length-set xs (at + 1) a in
    ap (λ (m : ℕ). drop m (set ys at b)) place ∙ drop-set ys at b (omega (arith, long))
    ∙ ap (λ (l : List ℤ). b ∷ l) (drop-set xs (at + 1) a (omega arith) ∙ ap (λ (m : ℕ). a ∷ drop m xs) next)
    ∙ ap (λ (z : ℤ). z ∷ a ∷ drop (2 * k) xs) f ∙ ap (λ (z : ℤ). y ∷ z ∷ drop (2 * k) xs) e

-- what was passed to a sum of costs
cost_at_is : (c : Real) (d : ℕ) (u t x z : ℤ) → d ≡ c.diagonal → u ≡ t → z ≡ x → square (u -ℤ (pos d *ℤ z)) ≡ cost_at c t x
cost_at_is c d u t x z e f g = ap (λ (n : ℕ). square (u -ℤ (pos n *ℤ z))) e ∙ squares c.diagonal u t z x f g

pub cost_is : (c : Real) (s : List ℤ) (d : ℕ) (u x z : ℤ) → d ≡ c.diagonal → u ≡ target c s → z ≡ x → square (u -ℤ (pos d *ℤ z)) ≡ cost c s x
cost_is c s d u x z e f g = cost_at_is c d u (target c s) x z e f g

-- what a look at a ladder tells of a coordinate
first_is : (c : Real) (l : Rungs) (d : ℕ) (u t : ℤ) → l ≡ c.ladder → d ≡ c.diagonal → u ≡ t → first_of l u d ≡ first_of c.ladder t c.diagonal
first_is c l d u t e f g =
    ap (λ (k : Rungs). first_of k u d) e ∙ ap (λ (n : ℕ). first_of c.ladder u n) f ∙ ap (λ (r : ℤ). first_of c.ladder r c.diagonal) g

margin_is : (c : Real) (l : Rungs) (d m : ℕ) (u t x : ℤ) → l ≡ c.ladder → d ≡ c.diagonal → u ≡ t → IsMargin l u d x m → IsMargin c.ladder t c.diagonal x m
margin_is c l d m u t x e f g margin =
    subst (λ (k : Rungs). IsMargin k t c.diagonal x m) e
    (subst (λ (n : ℕ). IsMargin l t n x m) f (subst (λ (r : ℤ). IsMargin l r d x m) g margin))

-- both looks at a stream
pub chosen : (q i : Real) (s : List ℤ) (p d a b m n more : ℕ) (u v t x y z w : ℤ) (l k : Rungs) → l ≡ q.ladder → k ≡ i.ladder → d ≡ q.diagonal → d ≡ i.diagonal
    → u ≡ target q s → v ≡ t → ((r : ℤ) → t ≡ target i (r ∷ s)) → z ≡ x → w ≡ y → x ≡ first_of l u d → y ≡ first_of k v d
    → IsMargin l u d x a → IsMargin k v d y b → m ≡ square (u -ℤ (pos d *ℤ z)) → n ≡ square (v -ℤ (pos d *ℤ w))
    → more ≡ m + n → AreChosen q i s p (p + more) a b x y t
chosen q i s p d a b m n more u v t x y z w l k of_q of_i d_q d_i at_q at_i same is_x is_y first_q first_i more_q more_i cost_q cost_i both = record {
  sum = ap (λ (j : ℕ). p + j) (both ∙ ap (λ (j : ℕ). j + n) (cost_q ∙ cost_is q s d u x z d_q at_q is_x)
      ∙ ap (λ (j : ℕ). cost q s x + j) (cost_i ∙ cost_at_is i d v t y w d_i at_i is_y));
  same = same;
  first_q = first_q ∙ first_is q l d u (target q s) of_q d_q at_q;
  first_i = first_i ∙ first_is i k d v t of_i d_i at_i;
  margin_q = margin_is q l d a u (target q s) x of_q d_q at_q more_q;
  margin_i = margin_is i k d b v t y of_i d_i at_i more_i;
}

-- one level is written
pub one_set : (xs : List ℤ) (at place size : ℕ) (a x : ℤ) {s : List ℤ} → at < length xs
    → at ≡ place → at + 1 ≡ size → a ≡ x → drop size xs ≡ s → drop place (set xs at a) ≡ x ∷ s
one_set xs at place size a x there e f g h =
    ap (λ (m : ℕ). drop m (set xs at a)) (sym e) ∙ drop-set xs at a there
    ∙ ap (λ (m : ℕ). a ∷ drop m xs) f ∙ ap (λ (z : ℤ). z ∷ drop size xs) g ∙ ap (λ (l : List ℤ). x ∷ l) h

-- one level more is chosen behind others, at its cost
pub record Step (c : Real) (s all : List ℤ) (place n : ℕ) (x : ℤ) : Type 0 where
  pub chosen : drop place all ≡ x ∷ s
  pub levels : All (λ z. unsigned_abs z ≤ 7) all
  pub costs : n ≡ cost c s x

pub step : (c : Real) (s all : List ℤ) (slot place size d n : ℕ) (u y x : ℤ) → slot < length all → slot ≡ place → slot + 1 ≡ size → drop size all ≡ s
    → All (λ z. unsigned_abs z ≤ 7) all → y ≡ x → unsigned_abs x ≤ 7 → n ≡ square (u -ℤ (pos d *ℤ y)) → d ≡ c.diagonal → u ≡ target c s
    → Step c s (set all slot y) place n x
step c s all slot place size d n u y x there e f rest small g least is diagonal at_target = record {
  chosen = one_set all slot place size y x there e f g rest;
  levels = All-set (λ z. unsigned_abs z ≤ 7) all slot y (subst (λ (z : ℤ). unsigned_abs z ≤ 7) (sym g) least) small;
  costs = is ∙ cost_is c s d u x y diagonal at_target g;
}

-- what was computed of a coordinate is known of it, where it was passed
pub aimed : (c : Real) (s chosen : List ℤ) (d : ℕ) (t u : ℤ) → u ≡ t → chosen ≡ s → d ≡ c.diagonal → t ≡ target c s → unsigned_abs t ≤ 2 ^ 31 + 2 ^ 21
    → IsAimed c chosen d u
aimed c s chosen d t u passed same diagonal is bound = record {
  diagonal = diagonal;
  target = passed ∙ is ∙ ap (target c) (sym same);
  bound = subst (λ (z : ℤ). unsigned_abs z ≤ 2 ^ 31 + 2 ^ 21) (sym passed) bound;
}

-- a walk below leaves the levels behind as they are
pub behind : (c : Real) (s all after : List ℤ) (place size n : ℕ) (x : ℤ) → Step c s all place n x → place + 1 ≡ size
    → drop place after ≡ drop place all → drop size after ≡ s
behind c s all after place size n x is next same =
    ap (λ (m : ℕ). drop m after) (sym next) ∙ sym (drop-drop 1 place after) ∙ ap (λ (l : List ℤ). drop 1 l) (same ∙ is.chosen)
