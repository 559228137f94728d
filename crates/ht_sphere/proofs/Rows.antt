-- The coordinates of rows, and the vectors to which ways down lead.
use Rattle.std.proofs.Math.IntN.{neg_ℤ, neg_ℤ-neg_ℤ, zero-*ℤ}
use Rattle.std.proofs.Common.{◌≡◌, ℕ, zero, suc, negsuc, ◌*◌, ◌+◌, ℤ, pos, ◌+ℤ◌, ◌-ℤ◌, ◌*ℤ◌, List}
use Rattle.std.proofs.Common.{[], ◌∷◌, length, true, false, ◌&&◌, arith, refl, ap, sym, ◌∙◌, subst}
use Rattle.std.proofs.lemmas.Int.{ints}
use Rattle.std.proofs.lemmas.Bool.{and_parts, and_from, both_ways}
use Rattle.ht_pam.specs.Ladders.{has}
use Rattle.ht_pam.specs.declared.axes.Axes.{Axes}
use Rattle.ht_pam.specs.declared.point.Point.{Point}
use Rattle.ht_metric.specs.declared.tap.Tap.{Tap}
use Rattle.ht_metric.specs.Rows.{Row}
use Rattle.ht_metric.specs.Distance.{combined, residual, square, distance_of}
use Rattle.ht_metric.specs.Vectors.{is_in, levels_of}
use Rattle.ht_sphere.specs.Coordinates.{Real, cost, weighed, weights_of_i, weights_of_q, entries_behind, in_phase, quadrature, from_last}
use Rattle.ht_sphere.specs.Tree.{Reached}
use Rattle.ht_sphere.proofs.Paths.{Path, path_apart, path_joined, tried_has, has_tried}

pub none_times : (z : ℤ) → pos 0 *ℤ z ≡ pos 0
none_times z = zero-*ℤ z

plus_none : (z : ℤ) → pos 0 +ℤ z ≡ z
plus_none z = omega (arith, ints)

minus_is : (b : ℤ) → pos 0 -ℤ b ≡ neg_ℤ b
minus_is b = plus_none (neg_ℤ b)

neg_times : (b z : ℤ) → neg_ℤ b *ℤ z ≡ neg_ℤ (b *ℤ z)
neg_times (pos zero) z = zero-*ℤ z ∙ sym (ap neg_ℤ (zero-*ℤ z))
neg_times (pos (suc n)) (pos m) = refl
neg_times (pos (suc n)) (negsuc m) = sym (neg_ℤ-neg_ℤ (pos (suc n * suc m)))
neg_times (negsuc n) (pos m) = sym (neg_ℤ-neg_ℤ (pos (suc n * m)))
neg_times (negsuc n) (negsuc m) = refl

pub less_times : (b z : ℤ) → (pos 0 -ℤ b) *ℤ z ≡ pos 0 -ℤ (b *ℤ z)
less_times b z = ap (λ (m : ℤ). m *ℤ z) (minus_is b) ∙ neg_times b z ∙ sym (minus_is (b *ℤ z))

no_entry : (a b rest : ℤ) → rest ≡ pos 0 → (pos 0 *ℤ a) +ℤ ((pos 0 *ℤ b) +ℤ rest) ≡ pos 0
no_entry a b rest e = let p = none_times a in let q = none_times b in omega (arith, ints)

q_step : (a b c d : ℤ) → c ≡ d → a +ℤ (b +ℤ c) ≡ (b +ℤ a) +ℤ d
q_step a b c d e = omega (arith, ints)

i_step : (a m b c d : ℤ) → m ≡ pos 0 -ℤ b → c ≡ d → a +ℤ (m +ℤ c) ≡ (a -ℤ b) +ℤ d
i_step a m b c d e f = omega (arith, ints)

swapped : (s t c d : ℤ) → c ≡ d → (s -ℤ c) -ℤ t ≡ (s -ℤ t) -ℤ d
swapped s t c d e = omega (arith, ints)

pub add_none : (a b c : ℤ) → a ≡ pos 0 → b ≡ c → a +ℤ b ≡ c
add_none a b c e f = omega (arith, ints)

-- the weighed levels are the parts of the entries times the points
q_sum : (right : List Tap) (x : List Point) → weighed (weights_of_q (entries_behind (length x) right)) (levels_of x) ≡ (combined right x).im
q_sum [] [] = refl
q_sum (r ∷ rs) [] = refl
q_sum [] (p ∷ x) = no_entry p.i p.q _ (q_sum [] x)
q_sum (r ∷ rs) (p ∷ x) = q_step (r.im *ℤ p.i) (r.re *ℤ p.q) _ _ (q_sum rs x)

no_entry_i : (a b m rest : ℤ) → m ≡ pos 0 → rest ≡ pos 0 → (pos 0 *ℤ a) +ℤ (m +ℤ rest) ≡ pos 0
no_entry_i a b m rest e f = let p = none_times a in omega (arith, ints)

minus_none : (b : ℤ) → (pos 0 -ℤ pos 0) *ℤ b ≡ pos 0
minus_none b = none_times b

i_sum : (right : List Tap) (x : List Point) → weighed (weights_of_i (entries_behind (length x) right)) (levels_of x) ≡ (combined right x).re
i_sum [] [] = refl
i_sum (r ∷ rs) [] = refl
i_sum [] (p ∷ x) = no_entry_i p.i p.q ((pos 0 -ℤ pos 0) *ℤ p.q) _ (minus_none p.q) (i_sum [] x)
i_sum (r ∷ rs) (p ∷ x) = i_step (r.re *ℤ p.i) ((pos 0 -ℤ r.im) *ℤ p.q) (r.im *ℤ p.q) _ _ (less_times r.im p.q) (i_sum rs x)

-- a coordinate's cost is the square of its part of what is left of the row
q_cost : (row : Row) (a : Axes) (p : Point) (x : List Point) → cost (quadrature (length x) row a) (levels_of x) p.q ≡ square (residual row p x).im
q_cost row a p x = ap square (swapped row.sample.im (pos row.diagonal *ℤ p.q) _ _ (q_sum row.right x))

i_cost : (row : Row) (a : Axes) (p : Point) (x : List Point) → cost (in_phase (length x) row a) (p.q ∷ levels_of x) p.i ≡ square (residual row p x).re
i_cost row a p x = ap square (swapped row.sample.re (pos row.diagonal *ℤ p.i) _ _ (add_none (pos 0 *ℤ p.q) _ _ (none_times p.q) (i_sum row.right x)))

sum_costs : (d m n r i : ℕ) → m ≡ i → n ≡ r → (d + m) + n ≡ (r + i) + d
sum_costs d m n r i e f = omega arith

both_costs : (row : Row) (a : Axes) (p : Point) (x : List Point) (n d : ℕ) → length x ≡ n
    → (d + cost (quadrature n row a) (levels_of x) p.q) + cost (in_phase n row a) (p.q ∷ levels_of x) p.i
    ≡ (square (residual row p x).re + square (residual row p x).im) + d
both_costs row a p x n d e =
    sum_costs d _ _ _ _ (ap (λ (m : ℕ). cost (quadrature m row a) (levels_of x) p.q) (sym e) ∙ q_cost row a p x)
    (ap (λ (m : ℕ). cost (in_phase m row a) (p.q ∷ levels_of x) p.i) (sym e) ∙ i_cost row a p x)

abbrev at : ℤ → ℤ → Point
at i q = record { i = i; q = q }

-- a way down leads to a vector of the grid, and its distance
pub record LeadsTo (rows : List Row) (grid : List Axes) (v : Reached) : Type 0 where
  pub vector : List Point
  pub within : is_in grid vector ≡ true
  pub streams : length vector ≡ length rows
  pub is : v ≡ (levels_of vector, distance_of rows vector)

pub leads : (rows : List Row) (grid : List Axes) (v : Reached) → length grid ≡ length rows → Path (from_last rows grid) [] 0 v → LeadsTo rows grid v
leads [] [] v e h = record { vector = []; within = refl; streams = refl; is = h }
leads [] (a ∷ grid) v e h = absurd (omega arith)
leads (row ∷ rows) [] v e h = absurd (omega arith)
leads (row ∷ rows) (a ∷ grid) v e h =
    let n = length rows in
    let two : List Real = quadrature n row a ∷ in_phase n row a ∷ [] in
    let parts = path_apart (from_last rows grid) two [] 0 v h in
    let rest = leads rows grid parts.0 (omega arith) parts.1 in
    let x = rest.vector in
    let down : Path two (levels_of x) (distance_of rows x) v = subst (λ (u : Reached). Path two u.0 u.1 v) rest.is parts.2 in
    let q = down.0 in
    let i = down.2.0 in
    let p = at i q in
    let sum = both_costs row a p x n (distance_of rows x) rest.streams in
    record {
      vector = p ∷ x;
      within = and_from (has a.i i && has a.q q) (is_in grid x)
          (and_from (has a.i i) (has a.q q) (tried_has (in_phase n row a) (q ∷ levels_of x) i down.2.1)
          (tried_has (quadrature n row a) (levels_of x) q down.1)) rest.within;
      streams = ap suc rest.streams;
      is = down.2.2 ∙ ap (λ (m : ℕ). let f : Reached = (i ∷ q ∷ levels_of x, m) in f) sum;
    }

is_in-length : (grid : List Axes) (x : List Point) → is_in grid x ≡ true → length x ≡ length grid
is_in-length [] [] h = refl
is_in-length [] (p ∷ x) h = absurd (both_ways false refl h)
is_in-length (a ∷ grid) [] h = absurd (both_ways false refl h)
is_in-length (a ∷ grid) (p ∷ x) h = ap suc (is_in-length grid x (and_parts (has a.i p.i && has a.q p.q) (is_in grid x) h).1)

-- and each vector of the grid has its way down
pub way_to : (rows : List Row) (grid : List Axes) (x : List Point) → length grid ≡ length rows
    → is_in grid x ≡ true → Path (from_last rows grid) [] 0 (levels_of x, distance_of rows x)
way_to [] [] [] e h = refl
way_to [] [] (p ∷ x) e h = absurd (both_ways false refl h)
way_to [] (a ∷ grid) x e h = absurd (omega arith)
way_to (row ∷ rows) [] x e h = absurd (omega arith)
way_to (row ∷ rows) (a ∷ grid) [] e h = absurd (both_ways false refl h)
way_to (row ∷ rows) (a ∷ grid) (p ∷ x) e h =
    let n = length rows in
    let two : List Real = quadrature n row a ∷ in_phase n row a ∷ [] in
    let both = and_parts (has a.i p.i && has a.q p.q) (is_in grid x) h in
    let mine = and_parts (has a.i p.i) (has a.q p.q) both.0 in
    let rest = way_to rows grid x (omega arith) both.1 in
    let long : length x ≡ n = is_in-length grid x both.1 ∙ (omega arith) in
    let sum = both_costs row a p x n (distance_of rows x) long in
    let v : Reached = (levels_of (p ∷ x), distance_of (row ∷ rows) (p ∷ x)) in
    path_joined (from_last rows grid) two [] 0 (levels_of x, distance_of rows x) v rest (
      p.q,
      has_tried (quadrature n row a) (levels_of x) p.q mine.1,
      (p.i, has_tried (in_phase n row a) (p.q ∷ levels_of x) p.i mine.0, sym (ap (λ (m : ℕ). let f : Reached = (p.i ∷ p.q ∷ levels_of x, m) in f) sum)),
    )
