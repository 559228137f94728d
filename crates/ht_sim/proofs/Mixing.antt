-- What triangles make of vectors, row by row.
use Rattle.std.proofs.Common.{◌≡◌, ℕ, zero, suc, ◌+◌, ◌-◌, ◌*◌, ◌<◌, List, [], ◌∷◌, ◌++◌, get_or, length, take, drop}
use Rattle.std.proofs.Common.{ℤ, pos, negsuc, ◌+ℤ◌, ◌*ℤ◌, neg_ℤ, w8, to_z, of_z, FitsSigned, refl, sym, ap, ◌∙◌, add-one, arith}
use Rattle.std.proofs.Math.Nat.{suc-mul}
use Rattle.std.proofs.Math.Seq.{drop-cons, drop-length, drop-nil}
use Rattle.std.proofs.lemmas.List.{drop-drop, take_rest}
use Rattle.std.proofs.lemmas.Int.{to_z-of_z}
use Rattle.ht_pam.specs.declared.point.Point.{Point}
use Rattle.ht_metric.specs.declared.complex.Complex.{Complex}
use Rattle.ht_metric.specs.declared.tap.Tap.{Tap}
use Rattle.ht_metric.specs.Distance.{combined, plus, times}
use Rattle.ht_metric.specs.Rows.{Leg, no_leg, no_tap}
use Rattle.ht_sim.specs.Channel.{mixed, row_mixed, symbol_mixed, symbols_mixed}

zero_times : (z : ℤ) → pos 0 *ℤ z ≡ pos 0
zero_times (pos n) = let e : 0 * n ≡ 0 = omega arith in ap pos e
zero_times (negsuc n) = let e : 0 * suc n ≡ 0 = omega arith in ap (λ m. neg_ℤ (pos m)) e

-- no entry adds nothing
no_product : (x : Point) → plus (times no_tap x) (record { re = pos 0; im = pos 0 }) ≡ record { re = pos 0; im = pos 0 }
no_product x = rw (zero_times x.i, zero_times x.q) refl

-- the sum from an entry on is the entry's product and the sum behind it
pub combined-more : (taps : List Tap) (xs : List Point) (k : ℕ) (e : Point) → k < length xs
    → combined (drop k taps) (drop k xs) ≡ plus (times (get_or taps k no_tap) (get_or xs k e)) (combined (drop (k + 1) taps) (drop (k + 1) xs))
combined-more taps [] k e below = absurd (omega arith)
combined-more [] (x ∷ xs) k e below = rw (drop-nil {A = Tap} k, drop-nil {A = Tap} (k + 1)) (sym (no_product (get_or (x ∷ xs) k e)))
combined-more (t ∷ taps) (x ∷ xs) zero e below = refl
combined-more (t ∷ taps) (x ∷ xs) (suc k) e below =
    let one : suc k + 1 ≡ suc (k + 1) = omega arith in
    rw one (combined-more taps xs k e (omega arith))

-- no point is left
pub combined-end : (taps : List Tap) (xs : List Point) (k : ℕ) → length xs ≡ k → combined (drop k taps) (drop k xs) ≡ record { re = pos 0; im = pos 0 }
combined-end taps xs k e = ap (λ n. combined (drop k taps) (drop n xs)) (sym e) ∙ ap (λ ys. combined (drop k taps) ys) (drop-length xs) ∙ none (drop k taps)
  where
    none : (ts : List Tap) → combined ts [] ≡ record { re = pos 0; im = pos 0 }
    none [] = refl
    none (t ∷ ts) = refl

-- the rows from one on are that row and the rows behind it
pub mixed-drop : (t : List Leg) (xs : List Point) (k : ℕ) → k < length t
    → mixed (drop k t) (drop k xs) ≡ row_mixed (get_or t k no_leg) (drop k xs) ∷ mixed (drop (k + 1) t) (drop (k + 1) xs)
mixed-drop t xs k below = rw (add-one, drop-cons t k no_leg)
    (ap (λ ys. row_mixed (get_or t k no_leg) (drop k xs) ∷ mixed (drop (suc k) t) ys) (drop-drop 1 k xs ∙ ap (λ n. drop n xs) (add-one k)))

-- the subcarriers from one on are that subcarrier and those behind it
pub symbol-drop : (streams : ℕ) (ts : List (List Leg)) (points : List Point) (k : ℕ) (t : List Leg) → k < length ts
    → symbol_mixed streams (drop k ts) points ≡ mixed (get_or ts k t) (take streams points) ++ symbol_mixed streams (drop (k + 1) ts) (drop streams points)
symbol-drop streams ts points k t below = rw (add-one, drop-cons ts k t) refl

-- the entry of a row, as it was asked for
pub entry_is : (t : List Leg) (row k : ℕ) (tap : Tap) → tap ≡ get_or (get_or t (row + 1 - 1) no_leg).right (row + 2 + k - (row + 1) - 1) no_tap
    → tap ≡ get_or (get_or t row no_leg).right k no_tap
entry_is t row k tap h =
    let a : row + 1 - 1 ≡ row = omega arith in
    let b : row + 2 + k - (row + 1) - 1 ≡ k = omega arith in
    h ∙ ap (λ i. get_or (get_or t i no_leg).right (row + 2 + k - (row + 1) - 1) no_tap) a ∙ ap (λ j. get_or (get_or t row no_leg).right j no_tap) b

-- a row of a triangle, from its diagonal and its entries
pub exact_is : (leg : Leg) (xs : List Point) (row : ℕ) (e : Point) (re im : ℤ) → row < length xs
    → re ≡ (pos leg.diagonal *ℤ (get_or xs row e).i) +ℤ (combined leg.right (drop (row + 1) xs)).re
    → im ≡ (pos leg.diagonal *ℤ (get_or xs row e).q) +ℤ (combined leg.right (drop (row + 1) xs)).im
    → (let made : Complex = record { re = re; im = im } in made) ≡ row_mixed leg (drop row xs)
exact_is leg xs row e re im below p q =
    let made : ℤ → ℤ → Complex = λ a b. record { re = a; im = b } in
    let split : drop row xs ≡ get_or xs row e ∷ drop (row + 1) xs = rw add-one (drop-cons xs row e below) in
    ap (λ a. made a im) p ∙ ap (λ b. made ((pos leg.diagonal *ℤ (get_or xs row e).i) +ℤ (combined leg.right (drop (row + 1) xs)).re) b) q
    ∙ ap (λ ys. row_mixed leg ys) (sym split)

-- a diagonal times a level, as it was asked for
pub stretched_is : (t : List Leg) (row d : ℕ) (level r : ℤ) → d ≡ (get_or t (row + 1 - 1) no_leg).diagonal → FitsSigned w8 level
    → r ≡ pos d *ℤ to_z w8 (of_z w8 level) → r ≡ pos (get_or t row no_leg).diagonal *ℤ level
stretched_is t row d level r h f e =
    let a : row + 1 - 1 ≡ row = omega arith in
    e ∙ ap (λ z. pos d *ℤ z) (to_z-of_z w8 level f) ∙ ap (λ n. pos n *ℤ level) (h ∙ ap (λ i. (get_or t i no_leg).diagonal) a)

-- the points behind the row's own are a slice up to the end
pub sum_is : (leg : Leg) (xs : List Point) (row : ℕ) (part : Complex → ℤ) (sum : ℤ)
    → sum ≡ part (combined leg.right (take (length xs - (row + 1)) (drop (row + 1) xs)))
    → sum ≡ part (combined leg.right (drop (row + 1) xs))
sum_is leg xs row part sum h = h ∙ ap (λ ys. part (combined leg.right ys)) (take_rest xs (row + 1))

-- a part of this width was taken from what was left
pub one_less : (later points n k width : ℕ) → k < n → later + width ≡ points → points ≡ (n - k) * width → later ≡ (n - (k + 1)) * width
one_less later points n k width below e h =
    let one : n - k ≡ suc (n - (k + 1)) = omega arith in
    let wide : points ≡ (n - (k + 1)) * width + width = h ∙ ap (λ m. m * width) one ∙ suc-mul (n - (k + 1)) width in
    omega arith

-- the first symbol and those behind it
pub symbols-more : (n m streams : ℕ) (ts : List (List Leg)) (points : List Point) → n ≡ suc m
    → symbols_mixed n streams ts points ≡ symbol_mixed streams ts (take (length ts * streams) points)
    ++ symbols_mixed m streams ts (drop (length ts * streams) points)
symbols-more n m streams ts points e = ap (λ k. symbols_mixed k streams ts points) e
