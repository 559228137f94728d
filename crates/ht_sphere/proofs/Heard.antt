-- What the streams behind a row leave of its sample, stream by stream.
use Rattle.std.proofs.Common.{◌≡◌, ℕ, suc, ◌+◌, ◌*◌, ◌-◌, ◌<◌, ◌≤◌, ℤ, pos, ◌+ℤ◌, ◌-ℤ◌, ◌*ℤ◌, List, ◌∷◌}
use Rattle.std.proofs.Common.{length, drop, get_or, unsigned_abs, w64, to_z, of_z, ◌^◌, arith, ap, ◌∙◌}
use Rattle.std.proofs.Math.Seq.{drop-cons}
use Rattle.std.proofs.lemmas.Int.{ints}
use Rattle.std.proofs.lemmas.List.{get_or-drop, drop-drop}
use Rattle.ht_metric.specs.declared.tap.Tap.{Tap}
use Rattle.ht_pam.specs.declared.axes.Axes.{Axes}
use Rattle.ht_metric.specs.Rows.{Row, no_row, no_tap}
use Rattle.ht_sphere.specs.Coordinates.{weighed, weights_of_i, weights_of_q, entries_behind, target, i_at}
use Rattle.ht_sphere.proofs.Rows.{less_times, none_times}

-- the entries and the levels of the streams behind this many
entries_next : (right : List Tap) (n k l : ℕ) → k ≤ l → l < n
    → entries_behind (n - l) (drop (l - k) right) ≡ get_or right (l - k) no_tap ∷ entries_behind (n - (l + 1)) (drop (l + 1 - k) right)
entries_next right n k l after below =
    let more : n - l ≡ suc (n - (l + 1)) = omega arith in
    let next : l - k + 1 ≡ l + 1 - k = omega arith in
    let here : l - k + 0 ≡ l - k = omega arith in
    ap (λ (m : ℕ). entries_behind m (drop (l - k) right)) more
    ∙ ap (λ (r : Tap). r ∷ entries_behind (n - (l + 1)) (drop 1 (drop (l - k) right)))
    (get_or-drop (l - k) right 0 no_tap ∙ ap (λ (m : ℕ). get_or right m no_tap) here)
    ∙ ap (λ (rs : List Tap). get_or right (l - k) no_tap ∷ entries_behind (n - (l + 1)) rs) (drop-drop 1 (l - k) right ∙ ap (λ (m : ℕ). drop m right) next)

levels_next : (levels : List ℤ) (l : ℕ) → 2 * l + 1 < length levels
    → drop (2 * l) levels ≡ get_or levels (2 * l) (pos 0) ∷ get_or levels (2 * l + 1) (pos 0) ∷ drop (2 * (l + 1)) levels
levels_next levels l below =
    let one : suc (2 * l) ≡ 2 * l + 1 = omega arith in
    let two : suc (2 * l + 1) ≡ 2 * (l + 1) = omega arith in
    drop-cons levels (2 * l) (pos 0) (omega arith) ∙ ap (λ (m : ℕ). get_or levels (2 * l) (pos 0) ∷ drop m levels) one
    ∙ ap (λ (xs : List ℤ). get_or levels (2 * l) (pos 0) ∷ xs)
    (drop-cons levels (2 * l + 1) (pos 0) below ∙ ap (λ (m : ℕ). get_or levels (2 * l + 1) (pos 0) ∷ drop m levels) two)

abbrev i_rest : List Tap → List ℤ → ℕ → ℕ → ℕ → ℤ
i_rest right levels n k l = weighed (weights_of_i (entries_behind (n - l) (drop (l - k) right))) (drop (2 * l) levels)

abbrev q_rest : List Tap → List ℤ → ℕ → ℕ → ℕ → ℤ
q_rest right levels n k l = weighed (weights_of_q (entries_behind (n - l) (drop (l - k) right))) (drop (2 * l) levels)

module _ (right : List Tap) (levels : List ℤ) (n k l : ℕ) (after : k ≤ l) (below : l < n) (long : length levels ≡ 2 * n) where
  abbrev r : Tap
  r = get_or right (l - k) no_tap

  abbrev i : ℤ
  i = get_or levels (2 * l) (pos 0)

  abbrev q : ℤ
  q = get_or levels (2 * l + 1) (pos 0)

  i_next : i_rest right levels n k l ≡ (r.re *ℤ i) +ℤ (((pos 0 -ℤ r.im) *ℤ q) +ℤ i_rest right levels n k (l + 1))
  i_next =
      ap (λ (rs : List Tap). weighed (weights_of_i rs) (drop (2 * l) levels)) (entries_next right n k l after below)
      ∙ ap (weighed (weights_of_i (r ∷ entries_behind (n - (l + 1)) (drop (l + 1 - k) right)))) (levels_next levels l (omega arith))

  q_next : q_rest right levels n k l ≡ (r.im *ℤ i) +ℤ ((r.re *ℤ q) +ℤ q_rest right levels n k (l + 1))
  q_next =
      ap (λ (rs : List Tap). weighed (weights_of_q rs) (drop (2 * l) levels)) (entries_next right n k l after below)
      ∙ ap (weighed (weights_of_q (r ∷ entries_behind (n - (l + 1)) (drop (l + 1 - k) right)))) (levels_next levels l (omega arith))

  pub heard_i : (was now part whole : ℤ) → part ≡ (r.re *ℤ i) -ℤ (r.im *ℤ q) → now ≡ was -ℤ part
      → was -ℤ i_rest right levels n k l ≡ whole → now -ℤ i_rest right levels n k (l + 1) ≡ whole
  heard_i was now part whole e f h = let a = i_next in let b = less_times r.im q in omega (arith, ints)

  pub heard_q : (was now part whole : ℤ) → part ≡ (r.im *ℤ i) +ℤ (r.re *ℤ q) → now ≡ was -ℤ part
      → was -ℤ q_rest right levels n k l ≡ whole → now -ℤ q_rest right levels n k (l + 1) ≡ whole
  heard_q was now part whole e f h = let a = q_next in omega (arith, ints)

-- at first, and at last
pub heard_none : (z : ℤ) → z -ℤ pos 0 ≡ z
heard_none z = omega (arith, ints)

pub from_own : (right : List Tap) (n : ℕ) (f : List Tap → ℤ) (a b : ℤ) (k : ℕ) → a ≡ b
    → a -ℤ f (entries_behind (n - k) (drop (k - k) right)) ≡ b -ℤ f (entries_behind (n - k) right)
from_own right n f a b k e =
    let z : k - k ≡ 0 = omega arith in
    ap (λ (x : ℤ). x -ℤ f (entries_behind (n - k) (drop (k - k) right))) e ∙ ap (λ (j : ℕ). b -ℤ f (entries_behind (n - k) (drop j right))) z

-- one stream less, in 64 bits
pub less_by : (a b : ℤ) (k : ℕ) → k ≤ 3 → unsigned_abs a ≤ 2 ^ 31 + 458752 * k
    → unsigned_abs b ≤ 458752 → to_z w64 (of_z w64 (a -ℤ to_z w64 (of_z w64 b))) ≡ a -ℤ b
less_by a b k few p q = omega (arith, ints)

pub less_bound : (a b : ℤ) (k m : ℕ) → k ≤ 3 → m ≡ k + 1 → unsigned_abs a ≤ 2 ^ 31 + 458752 * k
    → unsigned_abs b ≤ 458752 → unsigned_abs (to_z w64 (of_z w64 (a -ℤ to_z w64 (of_z w64 b)))) ≤ 2 ^ 31 + 458752 * m
less_bound a b k m few e p q = omega (arith, ints)

pub product_i : (t r : Tap) (a i b q : ℤ) → t ≡ r → a ≡ i → b ≡ q → (t.re *ℤ a) -ℤ (t.im *ℤ b) ≡ (r.re *ℤ i) -ℤ (r.im *ℤ q)
product_i t r a i b q e f g =
    ap (λ (z : Tap). (z.re *ℤ a) -ℤ (z.im *ℤ b)) e ∙ ap (λ (x : ℤ). (r.re *ℤ x) -ℤ (r.im *ℤ b)) f ∙ ap (λ (x : ℤ). (r.re *ℤ i) -ℤ (r.im *ℤ x)) g

swapped_parts : (a b : ℤ) → a +ℤ b ≡ b +ℤ a
swapped_parts a b = omega (arith, ints)

pub product_q : (t r : Tap) (a i b q : ℤ) → t ≡ r → a ≡ i → b ≡ q → (t.re *ℤ b) +ℤ (t.im *ℤ a) ≡ (r.im *ℤ i) +ℤ (r.re *ℤ q)
product_q t r a i b q e f g =
    ap (λ (z : Tap). (z.re *ℤ b) +ℤ (z.im *ℤ a)) e ∙ ap (λ (x : ℤ). (r.re *ℤ b) +ℤ (r.im *ℤ x)) f
    ∙ ap (λ (x : ℤ). (r.re *ℤ x) +ℤ (r.im *ℤ i)) g ∙ swapped_parts (r.re *ℤ q) (r.im *ℤ i)

pub entry_of : (right : List Tap) (l k : ℕ) → get_or right (l + 1 - k - 1) no_tap ≡ get_or right (l - k) no_tap
entry_of right l k = let e : l + 1 - k - 1 ≡ l - k = omega arith in ap (λ (m : ℕ). get_or right m no_tap) e

-- Q of a stream is not heard in its I
no_weight : (s w z : ℤ) → w ≡ pos 0 → s -ℤ z ≡ s -ℤ (w +ℤ z)
no_weight s w z e = omega (arith, ints)

pub own_q : (rows : List Row) (grid : List Axes) (k : ℕ) (q : ℤ) (xs : List ℤ) → 1 ≤ k
    → (get_or rows (k - 1) no_row).sample.re -ℤ weighed (weights_of_i (entries_behind (length rows - k) (get_or rows (k - 1) no_row).right)) xs
    ≡ target (i_at rows grid (k - 1)) (q ∷ xs)
own_q rows grid k q xs some =
    let back : k ≡ suc (k - 1) = omega arith in
    let row = get_or rows (k - 1) no_row in
    ap (λ (m : ℕ). row.sample.re -ℤ weighed (weights_of_i (entries_behind (length rows - m) row.right)) xs) back
    ∙ no_weight row.sample.re (pos 0 *ℤ q) (weighed (weights_of_i (entries_behind (length rows - suc (k - 1)) row.right)) xs) (none_times q)
