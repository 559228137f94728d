-- Rows of a triangle, one after another.
use Rattle.std.proofs.Common.{◌≡◌, ℕ, suc, ◌+◌, ◌-◌, ◌<◌, ◌≤◌, List, ◌∷◌, get_or, length, drop, take, refl, arith, zero-add, add-zero, ap, ◌∙◌, sym}
use Rattle.std.proofs.lemmas.List.{drop-drop, get_or-drop, at_drop_more, take_rest}
use Rattle.ht_metric.specs.Distance.{residual, squared_length, distance_of}
use Rattle.ht_metric.specs.Rows.{Row, rows_of, legs_of, entries_of, no_sample}
use Rattle.ht_pam.specs.declared.point.Point.{Point}
use Rattle.ht_metric.specs.declared.tap.Tap.{Tap}
use Rattle.ht_metric.specs.declared.sample.Sample.{Sample}

-- the row at k, whose entries begin at `from`
abbrev pub row_at : ℕ → ℕ → ℕ → List ℕ → List Tap → List Sample → Row
row_at k from width ds ts ys = record { diagonal = get_or ds k 0; right = take width (drop from ts); sample = get_or ys k no_sample }

-- the rows from one on are that row and the rows behind it
pub rows_of-drop : (left k from width : ℕ) (ds : List ℕ) (ts : List Tap) (ys : List Sample) → left ≡ suc width
    → rows_of (legs_of left (drop k ds) (drop from ts)) (drop k ys)
    ≡ row_at k from width ds ts ys ∷ rows_of (legs_of width (drop (k + 1) ds) (drop (from + width) ts)) (drop (k + 1) ys)
rows_of-drop left k from width ds ts ys a = rw a (simp (get_or-drop, drop-drop, add-zero) refl)

-- and so are their distances
pub distance-rows_of : (left k from width : ℕ) (ds : List ℕ) (ts : List Tap) (ys : List Sample) (xs : List Point) (x : Point) → left ≡ suc width → k < length xs
    → distance_of (rows_of (legs_of left (drop k ds) (drop from ts)) (drop k ys)) (drop k xs)
    ≡ squared_length (residual (row_at k from width ds ts ys) (get_or xs k x) (drop (k + 1) xs))
    + distance_of (rows_of (legs_of width (drop (k + 1) ds) (drop (from + width) ts)) (drop (k + 1) ys)) (drop (k + 1) xs)
distance-rows_of left k from width ds ts ys xs x a p =
    ap (λ (rows : List Row). distance_of rows (drop k xs)) (rows_of-drop left k from width ds ts ys a)
    ∙ at_drop_more (λ (points : List Point). distance_of
    (row_at k from width ds ts ys ∷ rows_of (legs_of width (drop (k + 1) ds) (drop (from + width) ts)) (drop (k + 1) ys)) points) xs k x p

-- one more row was added
pub adds_row : (total now whole count k from sum length_of : ℕ) → total + now ≡ whole → now ≡ length_of + sum → (total + length_of) + sum ≡ whole
adds_row total now whole count k from sum length_of a b = omega arith

pub entries-suc : (count k from : ℕ) → k < count → from + entries_of (count - k) ≤ 6 → (from + (count - 1 - k)) + entries_of (count - (k + 1)) ≤ 6
entries-suc count k from p h =
    let e : count - k ≡ suc (count - (k + 1)) = omega arith in
    let f : entries_of (count - k) ≡ (count - (k + 1)) + entries_of (count - (k + 1)) = rw e refl in
    omega arith

pub none_added : (n : ℕ) (ds : List ℕ) (ts : List Tap) (ys : List Sample) (xs : List Point)
    → 0 + distance_of (rows_of (legs_of (n - 0) ds ts) ys) xs ≡ distance_of (rows_of (legs_of n ds ts) ys) xs
none_added n ds ts ys xs = let e : n - 0 ≡ n = omega arith in rw (zero-add, e) refl

-- a turn of the loop adds one row
pub row_added : (count k from total extra whole : ℕ) (ds : List ℕ) (ts : List Tap) (ys : List Sample) (xs : List Point) (x : Point)
    → k < count → length xs ≡ count
    → extra ≡ squared_length (residual (row_at k from ((from + (count - 1 - k)) - from) ds ts ys)
    (get_or xs k x) (take (length xs - (k + 1)) (drop (k + 1) xs)))
    → total + distance_of (rows_of (legs_of (count - k) (drop k ds) (drop from ts)) (drop k ys)) (drop k xs) ≡ whole
    → (total + extra) + distance_of
    (rows_of (legs_of (count - (k + 1)) (drop (k + 1) ds) (drop (from + (count - 1 - k)) ts)) (drop (k + 1) ys)) (drop (k + 1) xs) ≡ whole
row_added count k from total extra whole ds ts ys xs x p len is sum =
    let width = count - (k + 1) in
    let same : count - 1 - k ≡ width = omega arith in
    let wide : (from + (count - 1 - k)) - from ≡ width = omega arith in
    let here = distance-rows_of (count - k) k from width ds ts ys xs x (omega arith) (omega arith) in
    let now : extra ≡ squared_length (residual (row_at k from width ds ts ys) (get_or xs k x) (drop (k + 1) xs)) =
    is ∙ ap (λ (w : ℕ). squared_length (residual (row_at k from w ds ts ys) (get_or xs k x) (take (length xs - (k + 1)) (drop (k + 1) xs)))) wide
    ∙ ap (λ (rest : List Point). squared_length (residual (row_at k from width ds ts ys) (get_or xs k x) rest)) (take_rest xs (k + 1)) in
    rw same (adds_row total _ whole count k from _ extra sum
    (here ∙ ap (λ (n : ℕ). n + distance_of (rows_of (legs_of width (drop (k + 1) ds) (drop (from + width) ts)) (drop (k + 1) ys)) (drop (k + 1) xs)) (sym now)))
