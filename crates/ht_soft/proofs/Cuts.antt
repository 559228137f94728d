-- The vectors of a half are those of the job whose label has the bit.
use Rattle.std.proofs.Common.{◌≡◌, ℕ, zero, suc, ◌-◌, ◌^◌, ◌<◌, ◌≤◌, ℤ, List, [], ◌∷◌, length, get_or, set, replicate, inl, inr}
use Rattle.std.proofs.Common.{Bool, true, false, nat_lt, ◌&&◌, ◌||◌, Option, None, Some, is_some, true≢false, refl, sym, ap, ◌∙◌, subst, arith}
use Rattle.std.specs.List.{list_all, list_any}
use Rattle.std.specs.Ordering.{int_eq}
use Rattle.std.proofs.lemmas.Bool.{agree_below, agree_below_at, and_from, and_parts, cases_Bool}
use Rattle.std.proofs.lemmas.List.{length-replicate}
use Rattle.std.proofs.lemmas.Bool.Decides.{Decides-int_eq, nat_tests}
use Rattle.ht_rate.specs.declared.kinds.Modulation.{Modulation}
use Rattle.ht_rate.specs.declared.kinds.Modulation.TheVariants.{Bpsk, Qpsk, Qam16, Qam64}
use Rattle.ht_rate.specs.declared.rates.Rate.{Rate}
use Rattle.ht_rate.specs.Rates.{modulation_of, streams_of}
use Rattle.ht_rate.specs.Schemes.{bits_of}
use Rattle.ht_pam.specs.Ladders.{Rungs, levels, has}
use Rattle.ht_pam.specs.declared.axes.Axes.{Axes}
use Rattle.ht_pam.specs.declared.point.Point.{Point}
use Rattle.ht_map.specs.Gray.{Axis, i_axis, q_axis, label_bit, label_of, level_at, point_of}
use Rattle.ht_map.specs.Constellation.{axes_of, grid_of}
use Rattle.ht_map.proofs.LabelFacts.{is_some-label_of, point_of-label_of}
use Rattle.ht_metric.specs.Vectors.{is_in, no_point}
use Rattle.ht_soft.specs.Halves.{axis_named, is, label_has, has_bit, cut_axis, i_bits, q_bits, half_axes}

-- the axes by how many bits name them; in BPSK none names Q
named : (m : Modulation) → (axis_named (i_bits m) ≡ i_axis m) × (0 < q_bits m → axis_named (q_bits m) ≡ q_axis m)
unfolding axis_named
named Bpsk = (refl, λ some. absurd (omega arith))
named Qpsk = (refl, λ some. refl)
named Qam16 = (refl, λ some. refl)
named Qam64 = (refl, λ some. refl)

abbrev pub axes : Rungs → Rungs → Axes
axes i q = record { i = i; q = q }

-- the ladders of a half, where I has the bit
pub i-half : (m : Modulation) (e : ℕ) (value : Bool) (count : ℕ) (cut : Rungs) (all : Axes) → count ≡ i_bits m → e < count → all ≡ axes_of m
    → cut ≡ cut_axis (axis_named count) count e value → axes cut all.q ≡ half_axes m e value
unfolding half_axes
i-half m e value count cut all count_is below all_is is =
    let on : nat_lt e (i_bits m) ≡ true = grind (arith, nat_tests) in
    let ladder : cut ≡ cut_axis (i_axis m) (i_bits m) e value =
    is ∙ (ap (λ (n : ℕ). cut_axis (axis_named n) n e value) count_is ∙ ap (λ (axis : Axis). cut_axis axis (i_bits m) e value) (named m).0) in
    rw on (ap (λ (i : Rungs). axes i all.q) ladder ∙ ap (λ (a : Axes). axes (cut_axis (i_axis m) (i_bits m) e value) a.q) all_is)

-- and where Q has it
pub q-half : (m : Modulation) (e : ℕ) (value : Bool) (count first : ℕ) (cut : Rungs) (all : Axes) → count ≡ q_bits m → first ≡ i_bits m → first ≤ e
    → e < bits_of m → all ≡ axes_of m → cut ≡ cut_axis (axis_named count) count (e - first) value → axes all.i cut ≡ half_axes m e value
unfolding half_axes
q-half m e value count first cut all count_is first_is from below all_is is =
    let off : nat_lt e (i_bits m) ≡ false = grind (arith, nat_tests) in
    let some : 0 < q_bits m = omega arith in
    let ladder : cut ≡ cut_axis (q_axis m) (q_bits m) (e - i_bits m) value =
    is ∙ (ap (λ (n : ℕ). cut_axis (axis_named n) n (e - first) value) count_is
    ∙ (ap (λ (axis : Axis). cut_axis axis (q_bits m) (e - first) value) ((named m).1 some)
    ∙ ap (λ (n : ℕ). cut_axis (q_axis m) (q_bits m) (e - n) value) first_is)) in
    rw off (ap (λ (q : Rungs). axes all.i q) ladder ∙ ap (λ (a : Axes). axes a.i (cut_axis (q_axis m) (q_bits m) (e - i_bits m) value)) all_is)

-- a point is on the ladders
abbrev on : Axes → Point → Bool
on a p = has a.i p.i && has a.q p.q

-- the points of labels are on the ladders of a half where the label has the bit
unfoldable tells : Modulation → Bool → ℕ → Bool
tells m value e = agree_below (λ label. on (half_axes m e value) (point_of m label)) (λ label. is value (label_bit m label e)) (2 ^ bits_of m)

all_tell : (m : Modulation) (value : Bool) → agree_below (tells m value) (λ _. true) (bits_of m) ≡ true
unfolding tells half_axes cut_axis axes_of point_of level_at label_bit
all_tell Bpsk true = refl
all_tell Bpsk false = refl
all_tell Qpsk true = refl
all_tell Qpsk false = refl
all_tell Qam16 true = refl
all_tell Qam16 false = refl
all_tell Qam64 true = refl
all_tell Qam64 false = refl

told : (m : Modulation) (e : ℕ) (value : Bool) (label : ℕ) → e < bits_of m → label < 2 ^ bits_of m
    → on (half_axes m e value) (point_of m label) ≡ is value (label_bit m label e)
unfolding tells
told m e value label within below =
    agree_below_at (λ l. on (half_axes m e value) (point_of m l)) (λ l. is value (label_bit m l e)) (2 ^ bits_of m) label
    (agree_below_at (tells m value) (λ _. true) (bits_of m) e (all_tell m value) within) below

-- the levels of a half are levels of the constellation
abbrev inside : List ℤ → List ℤ → Bool
inside xs ys = list_all (λ x. list_any (λ y. int_eq y x) ys) xs

unfoldable narrows : Modulation → Bool → ℕ → Bool
narrows m value e =
    inside (levels (half_axes m e value).i) (levels (axes_of m).i) && inside (levels (half_axes m e value).q) (levels (axes_of m).q)

all_narrow : (m : Modulation) (value : Bool) → agree_below (narrows m value) (λ _. true) (bits_of m) ≡ true
unfolding narrows half_axes cut_axis axes_of
all_narrow Bpsk true = refl
all_narrow Bpsk false = refl
all_narrow Qpsk true = refl
all_narrow Qpsk false = refl
all_narrow Qam16 true = refl
all_narrow Qam16 false = refl
all_narrow Qam64 true = refl
all_narrow Qam64 false = refl

or-rest : (a b : Bool) → (a || b) ≡ true → a ≡ false → b ≡ true
or-rest true b e f = absurd (true≢false f)
or-rest false b e f = e

any-inside : (xs ys : List ℤ) (x : ℤ) → inside xs ys ≡ true → list_any (λ y. int_eq y x) xs ≡ true → list_any (λ y. int_eq y x) ys ≡ true
any-inside [] ys x all e = absurd (true≢false (sym e))
any-inside (z ∷ xs) ys x all e =
    let parts = and_parts (list_any (λ y. int_eq y z) ys) (inside xs ys) all in
    elim (cases_Bool (int_eq z x)) [
      | inl same ↦ subst (λ (w : ℤ). list_any (λ y. int_eq y w) ys ≡ true) ((Decides-int_eq z x).0 same) parts.0
      | inr other ↦ any-inside xs ys x parts.1 (or-rest (int_eq z x) (list_any (λ y. int_eq y x) xs) e other)
    ]

-- so a point on the ladders of a half is on those of the constellation
on-half : (m : Modulation) (e : ℕ) (value : Bool) (p : Point) → e < bits_of m → on (half_axes m e value) p ≡ true → on (axes_of m) p ≡ true
unfolding narrows
on-half m e value p within there =
    let half = half_axes m e value in
    let parts = and_parts (has half.i p.i) (has half.q p.q) there in
    let ladders = and_parts (inside (levels half.i) (levels (axes_of m).i)) (inside (levels half.q) (levels (axes_of m).q))
    (agree_below_at (narrows m value) (λ _. true) (bits_of m) e (all_narrow m value) within) in
    and_from (has (axes_of m).i p.i) (has (axes_of m).q p.q)
    (any-inside (levels half.i) (levels (axes_of m).i) p.i ladders.0 parts.0)
    (any-inside (levels half.q) (levels (axes_of m).q) p.q ladders.1 parts.1)

and-false : (b : Bool) → (b && false) ≡ false
and-false true = refl
and-false false = refl

-- a point is on the ladders of a half where it is on those of the constellation and its label has the bit
point-half : (m : Modulation) (e : ℕ) (value : Bool) (p : Point) → e < bits_of m
    → on (half_axes m e value) p ≡ (on (axes_of m) p && label_has m e value (label_of m p))
point-half m e value p within = by (label_of m p) refl
  where
    none : label_of m p ≡ None → on (half_axes m e value) p ≡ false
    none e' = elim (cases_Bool (on (half_axes m e value) p)) [
      | inl there ↦ absurd (true≢false (sym (on-half m e value p within there) ∙ sym (is_some-label_of m p) ∙ ap is_some e'))
      | inr away ↦ away
    ]

    by : (o : Option ℕ) → label_of m p ≡ o → on (half_axes m e value) p ≡ (on (axes_of m) p && label_has m e value o)
    by None e' = none e' ∙ sym (and-false (on (axes_of m) p))
    by (Some label) e' =
        let back = point_of-label_of m p label e' in
        let all : on (axes_of m) p ≡ true = sym (is_some-label_of m p) ∙ ap is_some e' in
        ap (λ (r : Point). on (half_axes m e value) r) (sym back.1)
        ∙ (told m e value label within back.0 ∙ sym (ap (λ c. c && is value (label_bit m label e)) all))

and-swap : (x y l : Bool) → ((x && l) && y) ≡ ((x && y) && l)
and-swap true true l = and-right l
  where
    and-right : (l : Bool) → (l && true) ≡ l
    and-right true = refl
    and-right false = refl
and-swap true false l = and-false l
and-swap false y l = refl

and-onward : (x y l : Bool) → (x && (y && l)) ≡ ((x && y) && l)
and-onward true y l = refl
and-onward false y l = refl

-- so it is with vectors
vector-half : (m : Modulation) (e : ℕ) (value : Bool) (n k : ℕ) (x : List Point) → e < bits_of m → k < n
    → is_in (set (replicate n (axes_of m)) k (half_axes m e value)) x
    ≡ (is_in (replicate n (axes_of m)) x && label_has m e value (label_of m (get_or x k no_point)))
vector-half m e value zero k x within lt = absurd (omega arith)
vector-half m e value (suc n) zero [] within lt = refl
vector-half m e value (suc n) zero (p ∷ x) within lt =
    ap (λ c. c && is_in (replicate n (axes_of m)) x) (point-half m e value p within)
    ∙ and-swap (on (axes_of m) p) (is_in (replicate n (axes_of m)) x) (label_has m e value (label_of m p))
vector-half m e value (suc n) (suc k) [] within lt = refl
vector-half m e value (suc n) (suc k) (p ∷ x) within lt =
    ap (λ c. on (axes_of m) p && c) (vector-half m e value n k x within (omega arith))
    ∙ and-onward (on (axes_of m) p) (is_in (replicate n (axes_of m)) x) (label_has m e value (label_of m (get_or x k no_point)))

pub half-vectors : (m : Modulation) (stream e : ℕ) (value : Bool) (grid half : List Axes) (x : List Point) → grid ≡ replicate (length grid) (axes_of m)
    → 1 ≤ stream → stream ≤ length grid → e < bits_of m → half ≡ set grid (stream - 1) (half_axes m e value)
    → is_in half x ≡ (is_in grid x && has_bit m stream e value x)
unfolding has_bit
half-vectors m stream e value grid half x full first last within made =
    let said = label_has m e value (label_of m (get_or x (stream - 1) no_point)) in
    ap (λ (g : List Axes). is_in g x) (made ∙ ap (λ (g : List Axes). set g (stream - 1) (half_axes m e value)) full)
    ∙ (vector-half m e value (length grid) (stream - 1) x within (omega arith)
    ∙ ap (λ (g : List Axes). is_in g x && said) (sym full))

-- the grid of a rate is the full constellation of its modulation
pub full-grid : (r : Rate) (grid : List Axes) (m : Modulation) → grid ≡ grid_of r → m ≡ modulation_of r → grid ≡ replicate (length grid) (axes_of m)
unfolding grid_of
full-grid r grid m made same =
    let long : length grid ≡ streams_of r = ap (λ (g : List Axes). length g) made ∙ length-replicate (streams_of r) (axes_of (modulation_of r)) in
    made
    ∙ (ap (λ (n : ℕ). replicate n (axes_of (modulation_of r))) (sym long)
    ∙ ap (λ (k : Modulation). replicate (length grid) (axes_of k)) (sym same))
