-- Coordinates, weight by weight, and points, level by level.
use Rattle.std.proofs.Common.{◌≡◌, ℕ, zero, suc, ◌+◌, ◌*◌, ◌-◌, ◌≤◌, ℤ, pos, ◌-ℤ◌, List, [], ◌∷◌, ◌++◌, length}
use Rattle.std.proofs.Common.{drop, get_or, length-append, append_assoc, arith, refl, ap, sym, ◌∙◌}
use Rattle.std.proofs.lemmas.List.{length-drop}
use Rattle.std.proofs.Math.Seq.{drop-cons}
use Rattle.ht_pam.specs.declared.axes.Axes.{Axes}
use Rattle.ht_pam.specs.Grids.{no_axes}
use Rattle.ht_metric.specs.declared.tap.Tap.{Tap}
use Rattle.ht_metric.specs.Rows.{Row, no_tap, no_row}
use Rattle.ht_sphere.specs.Coordinates.{Real, entries_behind, weights_of_i, weights_of_q, in_phase, quadrature, from_last}

abbrev pushed : Real → ℤ → Real
pushed c w = record { ladder = c.ladder; diagonal = c.diagonal; sample = c.sample; weights = c.weights ++ w ∷ [] }

length-q : (m : ℕ) (right : List Tap) → length (weights_of_q (entries_behind m right)) ≡ 2 * m
length-q zero right = refl
length-q (suc m) right = let e = length-q m (drop 1 right) in omega arith

length-i : (m : ℕ) (right : List Tap) → length (weights_of_i (entries_behind m right)) ≡ 2 * m
length-i zero right = refl
length-i (suc m) right = let e = length-i m (drop 1 right) in omega arith

pub room_q : (c : Real) (m : ℕ) (row : Row) (a : Axes) → c ≡ quadrature m row a → m ≤ 2 → length c.weights ≤ 4
room_q c m row a e few = omega (arith, ap (λ (r : Real). length r.weights) e, length-q m row.right)

pub room_i : (c : Real) (m : ℕ) (row : Row) (a : Axes) → c ≡ in_phase m row a → m ≤ 2 → length c.weights ≤ 5
room_i c m row a e few = omega (arith, ap (λ (r : Real). length r.weights) e, length-i m row.right)

pub longer : (c d : Real) (w : ℤ) → d ≡ pushed c w → length d.weights ≡ length c.weights + 1
longer c d w e = ap (λ (r : Real). length r.weights) e ∙ length-append c.weights (w ∷ [])

more_q : (m : ℕ) (right : List Tap)
    → (weights_of_q (entries_behind m right) ++ (get_or right m no_tap).im ∷ []) ++ (get_or right m no_tap).re ∷ []
    ≡ weights_of_q (entries_behind (suc m) right)
more_q zero right = refl
more_q (suc m) [] = ap (λ (w : List ℤ). pos 0 ∷ pos 0 ∷ w) (more_q m [])
more_q (suc m) (r ∷ rs) = ap (λ (w : List ℤ). r.im ∷ r.re ∷ w) (more_q m rs)

more_i : (m : ℕ) (right : List Tap)
    → (weights_of_i (entries_behind m right) ++ (get_or right m no_tap).re ∷ []) ++ (pos 0 -ℤ (get_or right m no_tap).im) ∷ []
    ≡ weights_of_i (entries_behind (suc m) right)
more_i zero right = refl
more_i (suc m) [] = ap (λ (w : List ℤ). pos 0 ∷ (pos 0 -ℤ pos 0) ∷ w) (more_i m [])
more_i (suc m) (r ∷ rs) = ap (λ (w : List ℤ). r.re ∷ (pos 0 -ℤ r.im) ∷ w) (more_i m rs)

two_pushed : (c d e q : Real) (u v x y : ℤ) → d ≡ pushed c u → e ≡ pushed d v → c ≡ q → u ≡ x → v ≡ y → e ≡ pushed (pushed q x) y
two_pushed c d e q u v x y p r s f g =
    r ∙ ap (λ (z : Real). pushed z v) (p ∙ ap (λ (z : Real). pushed z u) s ∙ ap (λ (w : ℤ). pushed q w) f) ∙ ap (λ (w : ℤ). pushed (pushed q x) w) g

-- one more entry
pub q_more : (c d e : Real) (m n : ℕ) (row : Row) (a : Axes) (u v : ℤ) (t : Tap)
    → d ≡ pushed c u → e ≡ pushed d v → c ≡ quadrature m row a → u ≡ t.im → v ≡ t.re
    → t ≡ get_or row.right m no_tap → n ≡ suc m → e ≡ quadrature n row a
q_more c d e m n row a u v t p r s f g is next =
    let w = get_or row.right m no_tap in
    two_pushed c d e (quadrature m row a) u v w.im w.re p r s (f ∙ ap (λ (z : Tap). z.im) is) (g ∙ ap (λ (z : Tap). z.re) is)
    ∙ ap (λ (ws : List ℤ). let back : Real = record { ladder = a.q; diagonal = row.diagonal; sample = row.sample.im; weights = ws } in back)
    (more_q m row.right)
    ∙ ap (λ (k : ℕ). quadrature k row a) (sym next)

pub i_more : (c d e : Real) (m n : ℕ) (row : Row) (a : Axes) (u v : ℤ) (t : Tap)
    → d ≡ pushed c u → e ≡ pushed d v → c ≡ in_phase m row a → u ≡ t.re → v ≡ pos 0 -ℤ t.im
    → t ≡ get_or row.right m no_tap → n ≡ suc m → e ≡ in_phase n row a
i_more c d e m n row a u v t p r s f g is next =
    let w = get_or row.right m no_tap in
    two_pushed c d e (in_phase m row a) u v w.re (pos 0 -ℤ w.im) p r s (f ∙ ap (λ (z : Tap). z.re) is) (g ∙ ap (λ (z : Tap). pos 0 -ℤ z.im) is)
    ∙ ap (λ (ws : List ℤ). let back : Real = record { ladder = a.i; diagonal = row.diagonal; sample = row.sample.re; weights = pos 0 ∷ ws } in back)
    (more_i m row.right)
    ∙ ap (λ (k : ℕ). in_phase k row a) (sym next)

pub length-from_last : (rows : List Row) (grid : List Axes) → length grid ≡ length rows → length (from_last rows grid) ≡ 2 * length rows
length-from_last [] grid e = refl
length-from_last (row ∷ rows) [] e = absurd (omega arith)
length-from_last (row ∷ rows) (a ∷ grid) e =
    let rest = length-from_last rows grid (omega arith) in
    omega (arith, length-append (from_last rows grid) (quadrature (length rows) row a ∷ in_phase (length rows) row a ∷ []))

-- as many coordinates as I and Q of the streams behind
pub count_of : (rows : List Row) (grid : List Axes) (k : ℕ) (items : List Real) → length grid ≡ length rows
    → items ≡ from_last (drop k rows) (drop k grid) → length items ≡ 2 * (length rows - k)
count_of rows grid k items same e =
    let m = length-drop k rows in
    let n = length-drop k grid in
    omega (arith, ap length e, length-from_last (drop k rows) (drop k grid) (omega arith))

-- one more stream
pub stream_more : (rows : List Row) (grid : List Axes) (k : ℕ) (items one two : List Real) (q i : Real) → 1 ≤ k → k ≤ length rows → length grid ≡ length rows
    → items ≡ from_last (drop k rows) (drop k grid)
    → q ≡ quadrature (length rows - k) (get_or rows (k - 1) no_row) (get_or grid (k - 1) no_axes)
    → i ≡ in_phase (length rows - k) (get_or rows (k - 1) no_row) (get_or grid (k - 1) no_axes)
    → one ≡ items ++ q ∷ [] → two ≡ one ++ i ∷ [] → two ≡ from_last (drop (k - 1) rows) (drop (k - 1) grid)
stream_more rows grid k items one two q i some within same e f g p r =
    let j = k - 1 in
    let row = get_or rows j no_row in
    let a = get_or grid j no_axes in
    let next : suc j ≡ k = omega arith in
    let rows_here : drop j rows ≡ row ∷ drop k rows = drop-cons rows j no_row (omega arith) ∙ ap (λ (n : ℕ). row ∷ drop n rows) next in
    let grid_here : drop j grid ≡ a ∷ drop k grid = drop-cons grid j no_axes (omega arith) ∙ ap (λ (n : ℕ). a ∷ drop n grid) next in
    let left : length (drop k rows) ≡ length rows - k = length-drop k rows in
    let at : ℕ → List Real = λ n. from_last (drop k rows) (drop k grid) ++ quadrature n row a ∷ in_phase n row a ∷ [] in
    r ∙ ap (λ (xs : List Real). xs ++ i ∷ []) p ∙ append_assoc items (q ∷ []) (i ∷ [])
    ∙ ap (λ (xs : List Real). xs ++ q ∷ i ∷ []) e
    ∙ ap (λ (z : Real). from_last (drop k rows) (drop k grid) ++ z ∷ i ∷ []) f
    ∙ ap (λ (z : Real). from_last (drop k rows) (drop k grid) ++ quadrature (length rows - k) row a ∷ z ∷ []) g
    ∙ ap at (sym left)
    ∙ sym (ap (λ (xs : List Row). from_last xs (drop j grid)) rows_here ∙ ap (λ (ys : List Axes). from_last (row ∷ drop k rows) ys) grid_here)
