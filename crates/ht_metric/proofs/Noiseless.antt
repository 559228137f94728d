-- What is received without noise lies at distance 0 from what was sent, and from nothing else.
use Rattle.std.proofs.Common.{◌≡◌, ℕ, zero, suc, ◌+◌, ◌*◌, ◌<◌, ℤ, pos, negsuc, ◌+ℤ◌, ◌-ℤ◌, ◌*ℤ◌, neg_ℤ, unsigned_abs, true, false, IsTrue}
use Rattle.std.proofs.Common.{List, [], ◌∷◌, length, refl, arith, rules, ap, ◌∙◌, sym, subst}
use Rattle.std.proofs.lemmas.Int.{ints, unsigned_abs-mul}
use Rattle.std.proofs.Math.Nat.{add-mul, eq_of_mul-eq-mul_left}
use Rattle.std.proofs.Math.IntN.{pos-*ℤ-negsuc}
use Rattle.std.proofs.lemmas.Bool.{both_ways}
use Rattle.std.proofs.lemmas.List.Elements.{All-head, All-tail}
use Rattle.ht_pam.specs.declared.axes.Axes.{Axes}
use Rattle.ht_pam.specs.declared.point.Point.{Point}
use Rattle.ht_metric.specs.declared.complex.Complex.{Complex}
use Rattle.ht_metric.specs.Rows.{Row}
use Rattle.ht_metric.specs.Distance.{combined, distance_of, residual, scaled, square, squared_length}
use Rattle.ht_metric.specs.Jobs.{JobView, IsNear, near}
use Rattle.ht_metric.specs.declared.found.Found.{Found}
use Rattle.ht_metric.specs.Noiseless.{IsNoiseless, IsRegular}
use Rattle.ht_metric.specs.Vectors.{before, is_in}
use Rattle.ht_metric.proofs.Order.{same_points, vector_order}
use Rattle.ht_metric.proofs.Finding.{near_is}

-- a number whose square is 0 is 0
root_of_zero : (z : ℤ) → square z ≡ 0 → z ≡ pos 0
root_of_zero (pos zero) e = refl
root_of_zero (pos (suc n)) e = absurd (omega (arith, e))
root_of_zero (negsuc n) e = absurd (omega (arith, e))

parts_of_zero : (a : Complex) → squared_length a ≡ 0 → (a.re ≡ pos 0) × (a.im ≡ pos 0)
parts_of_zero a e =
    let re : square a.re ≡ 0 = omega (arith, e) in
    let im : square a.im ≡ 0 = omega (arith, e) in
    (root_of_zero a.re re, root_of_zero a.im im)

-- a diagonal that isn't 0 tells levels apart
same_size : (d : ℕ) (a b : ℤ) → 0 < d → pos d *ℤ a ≡ pos d *ℤ b → unsigned_abs a ≡ unsigned_abs b
same_size d a b some e =
    eq_of_mul-eq-mul_left d some (unsigned_abs a) (unsigned_abs b)
    (sym (unsigned_abs-mul (pos d) a) ∙ ap unsigned_abs e ∙ unsigned_abs-mul (pos d) b)

not_negative : (k j : ℕ) → 0 < k → neg_ℤ (pos k) ≡ pos j → ⊥
not_negative k j some e = omega (arith, ints)

product_some : (d n : ℕ) → 0 < d → 0 < d * suc n
product_some zero n some = absurd (omega arith)
product_some (suc d) n some = omega (arith, add-mul d 1 (suc n))

same_level : (d : ℕ) (a b : ℤ) → 0 < d → pos d *ℤ a ≡ pos d *ℤ b → a ≡ b
same_level d (pos m) (pos n) some e = ap pos (same_size d (pos m) (pos n) some e)
same_level d (pos m) (negsuc n) some e =
    absurd (not_negative (d * suc n) (d * m) (product_some d n some) (sym (pos-*ℤ-negsuc d n) ∙ sym e))
same_level d (negsuc m) (pos n) some e =
    absurd (not_negative (d * suc m) (d * n) (product_some d m some) (sym (pos-*ℤ-negsuc d m) ∙ e))
same_level d (negsuc m) (negsuc n) some e = let size = same_size d (negsuc m) (negsuc n) some e in ap negsuc (omega (arith, size))

-- two products that leave nothing of a part are the same
both_leave_none : (y a b c : ℤ) → y -ℤ a -ℤ c ≡ pos 0 → y -ℤ b -ℤ c ≡ pos 0 → a ≡ b
both_leave_none y a b c p q = omega (arith, ints)

both_zero : (a b : ℕ) → a + b ≡ 0 → (a ≡ 0) × (b ≡ 0)
both_zero a b e = (omega arith, omega arith)

-- a row that two points meet exactly, with the same points behind them, has one of them twice
same_in_row : (row : Row) (x y : Point) (xs : List Point) → 0 < row.diagonal → squared_length (residual row x xs) ≡ 0
    → squared_length (residual row y xs) ≡ 0 → x ≡ y
same_in_row row x y xs some p q =
    let d = row.diagonal in
    let rest = combined row.right xs in
    let zero_x = parts_of_zero (residual row x xs) p in
    let zero_y = parts_of_zero (residual row y xs) q in
    same_points x y
    (same_level d x.i y.i some (both_leave_none row.sample.re (pos d *ℤ x.i) (pos d *ℤ y.i) rest.re zero_x.0 zero_y.0))
    (same_level d x.q y.q some (both_leave_none row.sample.im (pos d *ℤ x.q) (pos d *ℤ y.q) rest.im zero_x.1 zero_y.1))

-- two vectors at distance 0 are the same
only_one : (rows : List Row) (xs ys : List Point) → IsRegular rows → length xs ≡ length rows → length ys ≡ length rows
    → distance_of rows xs ≡ 0 → distance_of rows ys ≡ 0 → xs ≡ ys
only_one [] [] [] regular p q e f = refl
only_one [] (x ∷ xs) ys regular p q e f = absurd (omega arith)
only_one [] [] (y ∷ ys) regular p q e f = absurd (omega arith)
only_one (row ∷ rows) [] ys regular p q e f = absurd (omega arith)
only_one (row ∷ rows) (x ∷ xs) [] regular p q e f = absurd (omega arith)
only_one (row ∷ rows) (x ∷ xs) (y ∷ ys) regular p q e f =
    let some = λ (r : Row). 0 < r.diagonal in
    let zero_x = both_zero (squared_length (residual row x xs)) (distance_of rows xs) e in
    let zero_y = both_zero (squared_length (residual row y ys)) (distance_of rows ys) f in
    let rest : xs ≡ ys = only_one rows xs ys (All-tail some row rows regular) (omega (arith, p)) (omega (arith, q)) zero_x.1 zero_y.1 in
    let here : x ≡ y =
    same_in_row row x y xs (All-head some row rows regular) zero_x.0
    (subst (λ (zs : List Point). squared_length (residual row y zs) ≡ 0) (sym rest) zero_y.0) in
    ap (λ (z : Point). z ∷ xs) here ∙ ap (λ (zs : List Point). y ∷ zs) rest

-- what was sent is at distance 0
nothing_left : (z a c : ℤ) → z ≡ a +ℤ c → square (z -ℤ a -ℤ c) ≡ 0
nothing_left z a c e =
    let none : z -ℤ a -ℤ c ≡ pos 0 = omega (arith, ints, e) in
    ap square none

at_zero : (rows : List Row) (xs : List Point) → IsNoiseless rows xs → distance_of rows xs ≡ 0
at_zero [] [] is = refl
at_zero [] (x ∷ xs) is = absurd is
at_zero (row ∷ rows) [] is = absurd is
at_zero (row ∷ rows) (x ∷ xs) is =
    let own = scaled row.diagonal x in
    let rest = combined row.right xs in
    let re = nothing_left row.sample.re own.re rest.re (ap (λ (c : Complex). c.re) is.0) in
    let im = nothing_left row.sample.im own.im rest.im (ap (λ (c : Complex). c.im) is.0) in
    omega (arith, re, im, at_zero rows xs is.1)

in_length : (grid : List Axes) (xs : List Point) → IsTrue (is_in grid xs) → length xs ≡ length grid
in_length [] [] is = refl
in_length [] (x ∷ xs) is = absurd (search (rules, is))
in_length (a ∷ grid) [] is = absurd (search (rules, is))
in_length (a ∷ grid) (x ∷ xs) is = ap suc (in_length grid xs (search (rules, is)))

positive : (n : ℕ) → (n ≡ 0 → ⊥) → 0 < n
positive zero never = absurd (never refl)
positive (suc n) never = omega arith

pub noiseless_near : (job : JobView) (x : List Point) → length job.grid ≡ length job.system
    → IsRegular job.system → IsNoiseless job.system x → IsTrue (is_in job.grid x) → IsNear job x
noiseless_near job x streams regular is within =
    let sent : distance_of job.system x ≡ 0 = at_zero job.system x is in
    let itself : before x x ≡ false = (vector_order (is_in job.grid)).apart x in
    record {
      within = within;
      nearest = λ y _. omega (arith, sent);
      first = λ y member earlier.
          let some : 0 < distance_of job.system y =
          positive (distance_of job.system y)
          (λ there.
          let same : y ≡ x = only_one job.system y x regular (in_length job.grid y member ∙ streams) (in_length job.grid x within ∙ streams) there sent in
          both_ways (before x x) itself (subst (λ (z : List Point). before z x ≡ true) same earlier)) in
          omega (arith, sent, some);
    }

pub noiseless_found : (job : JobView) (x : List Point) → length job.grid ≡ length job.system
    → IsRegular job.system → IsNoiseless job.system x → IsTrue (is_in job.grid x) → near job ≡ record { vector = x; distance = 0 }
noiseless_found job x streams regular is within =
    let at : ℕ → Found = λ n. record { vector = x; distance = n } in
    near_is job x (noiseless_near job x streams regular is within) ∙ ap at (at_zero job.system x is)
