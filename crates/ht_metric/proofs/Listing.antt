-- The levels of a ladder and the points of two, as the code lists them.
use Rattle.std.proofs.Common.{◌≡◌, ℕ, ◌+◌, ◌*◌, ◌<◌, ◌≤◌, ℤ, List, [], ◌∷◌, ◌++◌, map, length, take, drop, get_or, Bool, true}
use Rattle.std.proofs.Common.{false, cond, pos, w8, to_z, of_z, unsigned_abs, arith, ap, ◌∙◌, sym, length-append, append_assoc}
use Rattle.std.specs.List.{All, filter, flat_map}
use Rattle.std.proofs.Math.Nat.{mul-le-mul_right}
use Rattle.std.proofs.lemmas.List.{take-append-drop, append-nil, map-append, take_more, take_all, length-take, length-map}
use Rattle.std.proofs.lemmas.Int.{to_z-of_z, fits_signed_from_abs}
use Rattle.std.proofs.lemmas.Bool.{cond-true, cond-false}
use Rattle.std.proofs.lemmas.List.Filters.{length-filter_more}
use Rattle.std.proofs.lemmas.List.Elements.{filter-append, filter_more, All-append, All-nil, All-head}
use Rattle.std.proofs.lemmas.List.Elements.{All-tail, All-get_or, All-same, All-map, All-weaker}
use Rattle.ht_pam.specs.Ladders.{Rungs, IsLadder, levels, has}
use Rattle.ht_pam.specs.declared.axes.Axes.{Axes}
use Rattle.ht_pam.specs.declared.point.Point.{Point}
use Rattle.ht_pam.proofs.Tables.{every, every_small, levels-filter, levels_few, levels_small}
use Rattle.ht_metric.specs.Distance.{IsInRange}
use Rattle.ht_metric.specs.Vectors.{points}

-- a part of what passes is not more than all
filter_part : (p : ℤ → Bool) (xs : List ℤ) (k : ℕ) → length (filter p (take k xs)) ≤ length (filter p xs)
filter_part p xs k =
    let e : filter p xs ≡ filter p (take k xs) ++ filter p (drop k xs) =
    ap (λ ys. filter p ys) (sym (take-append-drop k xs)) ∙ filter-append p (take k xs) (drop k xs) in
    omega (arith, ap length e, length-append (filter p (take k xs)) (filter p (drop k xs)))

-- there is room for one more that passes
pub filter_room : (l : Rungs) (k : ℕ) (d : ℤ) → IsLadder l → k < 9 → has l (get_or every k d) ≡ true → length (filter (has l) (take k every)) < 8
filter_room l k d ladder below passes =
    let more = length-filter_more (has l) every k d below in
    let one : cond {A = ℕ} (has l (get_or every k d)) 1 0 ≡ 1 = cond-true (has l (get_or every k d)) 1 0 passes in
    let part = filter_part (has l) every (k + 1) in
    let all : length (filter (has l) every) ≤ 8 = omega (arith, levels_few l ladder, ap length (levels-filter l ladder)) in
    omega arith

-- a small level is passed as it is
small_passed : (x : ℤ) → unsigned_abs x ≤ 7 → to_z w8 (of_z w8 x) ≡ x
small_passed x small = to_z-of_z w8 x (fits_signed_from_abs w8 x (omega arith))

level_fits : (k : ℕ) → k < 9 → to_z w8 (of_z w8 (get_or every k (pos 0))) ≡ get_or every k (pos 0)
level_fits k below = small_passed (get_or every k (pos 0)) (All-get_or (λ x. unsigned_abs x ≤ 7) every k (pos 0) below every_small)

-- one more level was looked at
pub level_room : (l : Rungs) (k : ℕ) (items : List ℤ) → IsLadder l → k < 9 → items ≡ filter (has l) (take k every)
    → true ≡ has l (to_z w8 (of_z w8 (get_or every k (pos 0)))) → length items < 8
level_room l k items ladder below is passes =
    omega (arith, ap length is, filter_room l k (pos 0) ladder below (ap (λ x. has l x) (sym (level_fits k below)) ∙ sym passes))

pub level_kept : (l : Rungs) (k : ℕ) (items next : List ℤ) → k < 9 → items ≡ filter (has l) (take k every)
    → true ≡ has l (to_z w8 (of_z w8 (get_or every k (pos 0)))) → next ≡ items ++ to_z w8 (of_z w8 (get_or every k (pos 0))) ∷ []
    → next ≡ filter (has l) (take (k + 1) every)
level_kept l k items next below is passes more =
    let x = get_or every k (pos 0) in
    let same = level_fits k below in
    let passed : has l x ≡ true = ap (λ y. has l y) (sym same) ∙ sym passes in
    more ∙ ap (λ y. items ++ y ∷ []) same ∙ ap (λ ys. ys ++ x ∷ []) is
    ∙ ap (λ ys. filter (has l) (take k every) ++ ys) (sym (cond-true (has l x) (x ∷ []) [] passed)) ∙ sym (filter_more (has l) every k (pos 0) below)

pub level_left : (l : Rungs) (k : ℕ) (items : List ℤ) → k < 9 → items ≡ filter (has l) (take k every)
    → false ≡ has l (to_z w8 (of_z w8 (get_or every k (pos 0)))) → items ≡ filter (has l) (take (k + 1) every)
level_left l k items below is fails =
    let x = get_or every k (pos 0) in
    let failed : has l x ≡ false = ap (λ y. has l y) (sym (level_fits k below)) ∙ sym fails in
    is ∙ sym (append-nil _)
    ∙ ap (λ ys. filter (has l) (take k every) ++ ys) (sym (cond-false (has l x) (x ∷ []) [] failed)) ∙ sym (filter_more (has l) every k (pos 0) below)

-- all levels were looked at
pub level_all : (l : Rungs) (k : ℕ) (items : List ℤ) → IsLadder l → k ≡ 9 → items ≡ filter (has l) (take k every) → items ≡ levels l
level_all l k items ladder end is =
    is ∙ ap (λ (n : ℕ). filter (has l) (take n every)) end ∙ sym (levels-filter l ladder)

-- the points of one I
abbrev pub at : ℤ → ℤ → Point
at i q = record { i = i; q = q }

abbrev pub row : List ℤ → ℤ → List Point
row qs i = map (at i) qs

level_passed : (l : Rungs) (xs : List ℤ) (k : ℕ) → IsLadder l → xs ≡ levels l → k < length xs → to_z w8 (of_z w8 (get_or xs k (pos 0))) ≡ get_or xs k (pos 0)
level_passed l xs k ladder is below =
    small_passed (get_or xs k (pos 0))
    (All-get_or (λ x. unsigned_abs x ≤ 7) xs k (pos 0) below (All-same (λ x. unsigned_abs x ≤ 7) xs (levels l) is (levels_small l ladder)))

length-rows : (qs xs : List ℤ) → length (flat_map (row qs) xs) ≡ length xs * length qs
length-rows qs [] = omega arith
length-rows qs (x ∷ xs) = omega (arith, length-append (row qs x) (flat_map (row qs) xs), length-map qs (at x), length-rows qs xs)

-- there is room for one more point
pub points_room : (is qs : List ℤ) (i q : ℕ) (x : ℤ) (items : List Point) → length is ≤ 8 → length qs ≤ 8 → i < length is → q < length qs
    → items ≡ flat_map (row qs) (take i is) ++ map (at x) (take q qs) → length items < 64
points_room is qs i q x items few small below within e =
    let before : length (flat_map (row qs) (take i is)) ≡ i * length qs =
    length-rows qs (take i is) ∙ ap (λ (n : ℕ). n * length qs) (let t = length-take i is in omega arith) in
    let here : length (map (at x) (take q qs)) ≡ q = length-map (take q qs) (at x) ∙ (let t = length-take q qs in omega arith) in
    let all : length items ≡ i * length qs + q = ap length e ∙ length-append (flat_map (row qs) (take i is)) (map (at x) (take q qs)) ∙ (omega arith) in
    let le : i * length qs ≤ 7 * length qs = mul-le-mul_right (length qs) (omega arith) in
    omega arith

-- one more point of an I
pub points_more : (l m : Rungs) (is qs : List ℤ) (i q : ℕ) (front items next : List Point)
    → IsLadder l → IsLadder m → is ≡ levels l → qs ≡ levels m → i < length is → q < length qs
    → items ≡ front ++ map (at (get_or is i (pos 0))) (take q qs)
    → next ≡ items ++ at (to_z w8 (of_z w8 (get_or is i (pos 0)))) (to_z w8 (of_z w8 (get_or qs q (pos 0)))) ∷ []
    → next ≡ front ++ map (at (get_or is i (pos 0))) (take (q + 1) qs)
points_more l m is qs i q front items next ladder other is_levels qs_levels below within e more =
    let x = get_or is i (pos 0) in
    let y = get_or qs q (pos 0) in
    let step : map (at x) (take (q + 1) qs) ≡ map (at x) (take q qs) ++ at x y ∷ [] =
    ap (λ ys. map (at x) ys) (take_more qs q (pos 0) within) ∙ map-append (at x) (take q qs) (y ∷ []) in
    more ∙ ap (λ z. items ++ at z (to_z w8 (of_z w8 y)) ∷ []) (level_passed l is i ladder is_levels below)
    ∙ ap (λ z. items ++ at x z ∷ []) (level_passed m qs q other qs_levels within)
    ∙ ap (λ ps. ps ++ at x y ∷ []) e ∙ append_assoc front (map (at x) (take q qs)) (at x y ∷ []) ∙ ap (λ ps. front ++ ps) (sym step)

-- all points
pub points_all : (a : Axes) (is qs : List ℤ) (i : ℕ) (items : List Point) → is ≡ levels a.i
    → qs ≡ levels a.q → length is ≤ i → items ≡ flat_map (row qs) (take i is) → items ≡ points a
points_all a is qs i items e f all is_all =
    is_all ∙ ap (λ xs. flat_map (row qs) xs) (take_all i is all) ∙ ap (λ xs. flat_map (row qs) xs) e ∙ ap (λ ys. flat_map (row ys) (levels a.i)) f

-- and they are in range
row_small : (x : ℤ) (qs : List ℤ) → unsigned_abs x ≤ 7 → All (λ y. unsigned_abs y ≤ 7) qs → All IsInRange (row qs x)
row_small x qs small all =
    All-map IsInRange (at x) qs (All-weaker (λ y. unsigned_abs y ≤ 7) (λ y. IsInRange (at x y)) (λ y s. record { i = small; q = s }) qs all)

rows_small : (xs qs : List ℤ) → All (λ y. unsigned_abs y ≤ 7) xs → All (λ y. unsigned_abs y ≤ 7) qs → All IsInRange (flat_map (row qs) xs)
rows_small [] qs p q = All-nil IsInRange
rows_small (x ∷ xs) qs p q =
    All-append IsInRange (row qs x) (flat_map (row qs) xs) (row_small x qs (All-head (λ y. unsigned_abs y ≤ 7) x xs p) q)
    (rows_small xs qs (All-tail (λ y. unsigned_abs y ≤ 7) x xs p) q)

pub points_small : (a : Axes) → IsLadder a.i → IsLadder a.q → All IsInRange (points a)
points_small a i q = rows_small (levels a.i) (levels a.q) (levels_small a.i i) (levels_small a.q q)
