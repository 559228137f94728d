-- The nearest level with another bit, wherever a level is the nearest of all.
use Rattle.std.proofs.Common.{◌≡◌, ℕ, zero, suc, ◌+◌, ◌-◌, ◌*◌, ◌/◌, ◌%◌, ◌^◌, ◌<◌, ◌≤◌, ℤ, pos, ◌+ℤ◌, ◌-ℤ◌, ◌*ℤ◌, unsigned_abs, List, [], ◌∷◌}
use Rattle.std.proofs.Common.{inl, inr, arith, refl, ap, sym, ◌∙◌, subst, slice_index_or, mul-le-mul}
use Rattle.std.proofs.Common.{Bool, true, false, true≢false, ◌&&◌, ◌||◌, not, nat_lt}
use Rattle.std.specs.Prelude.{◌==◌}
use Rattle.std.specs.Int.{bit_at}
use Rattle.std.specs.Int.Signed.{lt_z, ◌<ℤ◌, ◌≤ℤ◌}
use Rattle.std.specs.List.{list_all, list_any}
use Rattle.std.specs.Ordering.{int_eq}
use Rattle.std.proofs.lemmas.Bool.{agree_below, agree_below_at, and_parts, cases_Bool, or_cases}
use Rattle.std.proofs.lemmas.Bool.Decides.{Decides-int_eq, nat_tests}
use Rattle.std.proofs.lemmas.Int.{ints}
use Rattle.std.proofs.Math.IntN.{suc_ℤ-*ℤ, zero-*ℤ}
use Rattle.ht_rate.specs.declared.kinds.Modulation.{Modulation}
use Rattle.ht_rate.specs.declared.kinds.Modulation.TheVariants.{Bpsk, Qpsk, Qam16, Qam64}
use Rattle.ht_rate.specs.Schemes.{bits_of}
use Rattle.ht_map.specs.Gray.{Axis, i_axis, q_axis, q_levels, label_bit, level_at, point_of}
use Rattle.ht_map.specs.Constellation.{axes_of, full}
use Rattle.ht_pam.specs.Ladders.{Rungs, has, levels}
use Rattle.ht_pam.specs.Zigzags.{gap, nearest_first}
use Rattle.ht_pam.specs.declared.axes.Axes.{Axes}
use Rattle.ht_pam.proofs.EndLemmas.{times_less}
use Rattle.ht_pam.proofs.ZigzagLemmas.{ascending}
use Rattle.ht_sphere.specs.Coordinates.{first_of}
use Rattle.ht_sphere.proofs.Margins.{least_first}
use Rattle.ht_sphere.proofs.Paths.{has_sorted}
use Rattle.ht_soft.specs.Halves.{axis_named, cut_axis, half_axes, i_bits, q_bits}
use Rattle.ht_soft.proofs.Cuts.{i-half, q-half}
use Rattle.ht_weigh.specs.declared.first.TheConstants.{ACROSS}
use Rattle.ht_weigh.specs.Walks.{IsAcross, first_cost}
use Rattle.ht_weigh.proofs.Leaf.{at_cost, first_has, is_ladder, ladder_from, least}

-- products with a diagonal
times_sum : (d : ℕ) (x y : ℤ) → pos d *ℤ (x +ℤ y) ≡ (pos d *ℤ x) +ℤ (pos d *ℤ y)
times_sum zero x y = let a = zero-*ℤ (x +ℤ y) in let b = zero-*ℤ x in let c = zero-*ℤ y in omega (arith, ints)
times_sum (suc d) x y =
    let a = suc_ℤ-*ℤ (pos d) (x +ℤ y) in
    let b = suc_ℤ-*ℤ (pos d) x in
    let c = suc_ℤ-*ℤ (pos d) y in
    let e = times_sum d x y in
    omega (arith, ints)

times_most : (d : ℕ) (x y : ℤ) → x ≤ℤ y → (pos d *ℤ x) ≤ℤ (pos d *ℤ y)
times_most zero x y h = let b = zero-*ℤ x in let c = zero-*ℤ y in omega (arith, ints)
times_most (suc d) x y h =
    let b = suc_ℤ-*ℤ (pos d) x in
    let c = suc_ℤ-*ℤ (pos d) y in
    let e = times_most d x y h in
    omega (arith, ints)

-- the target is not beyond the middle of a and b, so not beyond that of p and q
above_core : (t a b p q : ℤ) → a <ℤ b → p <ℤ q → (a +ℤ b) ≤ℤ (p +ℤ q) → unsigned_abs (t -ℤ a) ≤ unsigned_abs (t -ℤ b)
    → unsigned_abs (t -ℤ p) ≤ unsigned_abs (t -ℤ q)
above_core t a b p q ab pq sums near = omega (arith, ints)

below_core : (t a b p q : ℤ) → b <ℤ a → q <ℤ p → (p +ℤ q) ≤ℤ (a +ℤ b) → unsigned_abs (t -ℤ a) ≤ unsigned_abs (t -ℤ b)
    → unsigned_abs (t -ℤ p) ≤ unsigned_abs (t -ℤ q)
below_core t a b p q ab pq sums near = omega (arith, ints)

above : (t : ℤ) (d : ℕ) (x z o y : ℤ) → x <ℤ z → o <ℤ y → (x +ℤ z) ≤ℤ (o +ℤ y) → gap t d x ≤ gap t d z → gap t d o ≤ gap t d y
above t zero x z o y xz oy sums near = let a = zero-*ℤ o in let b = zero-*ℤ y in omega (arith, ints)
above t (suc d) x z o y xz oy sums near =
    let a = times_less (suc d) x z xz in
    let b = times_less (suc d) o y oy in
    let s = times_sum (suc d) x z in
    let r = times_sum (suc d) o y in
    let m = times_most (suc d) (x +ℤ z) (o +ℤ y) sums in
    above_core t (pos (suc d) *ℤ x) (pos (suc d) *ℤ z) (pos (suc d) *ℤ o) (pos (suc d) *ℤ y) (omega (arith, ints)) (omega (arith, ints))
    (omega (arith, ints)) near

below : (t : ℤ) (d : ℕ) (x z o y : ℤ) → z <ℤ x → y <ℤ o → (o +ℤ y) ≤ℤ (x +ℤ z) → gap t d x ≤ gap t d z → gap t d o ≤ gap t d y
below t zero x z o y xz oy sums near = let a = zero-*ℤ o in let b = zero-*ℤ y in omega (arith, ints)
below t (suc d) x z o y xz oy sums near =
    let a = times_less (suc d) z x xz in
    let b = times_less (suc d) y o oy in
    let s = times_sum (suc d) x z in
    let r = times_sum (suc d) o y in
    let m = times_most (suc d) (o +ℤ y) (x +ℤ z) sums in
    below_core t (pos (suc d) *ℤ x) (pos (suc d) *ℤ z) (pos (suc d) *ℤ o) (pos (suc d) *ℤ y) (omega (arith, ints)) (omega (arith, ints))
    (omega (arith, ints)) near

-- a level o is as near as y wherever x is nearer than the level beside it on the side of y
unfoldable beats_above : ℕ → ℤ → ℤ → ℤ → Bool
beats_above size x o y = (lt_z o y && lt_z ((x +ℤ x) +ℤ pos 1) (o +ℤ y)) && has (full size) (x +ℤ pos 2)

unfoldable beats_below : ℕ → ℤ → ℤ → ℤ → Bool
beats_below size x o y = (lt_z y o && lt_z (o +ℤ y) ((x +ℤ x) -ℤ pos 1)) && has (full size) (x -ℤ pos 2)

unfoldable beats : ℕ → ℤ → ℤ → ℤ → Bool
beats size x o y = int_eq o y || (beats_above size x o y || beats_below size x o y)

is_less : (x y : ℤ) → lt_z x y ≡ true → x <ℤ y
is_less x y h = grind (arith, ints)

nearest_gap : (l : Rungs) (t : ℤ) (d : ℕ) (y : ℤ) → has l y ≡ true → gap t d (first_of l t d) ≤ gap t d y
nearest_gap l t d y there = least_first (gap t d) (nearest_first (gap t d) (levels l)) y (ascending (gap t d) (levels l)) (has_sorted l (gap t d) y there)

near_above : (size : ℕ) (x o y t : ℤ) (d : ℕ) → x ≡ first_of (full size) t d → beats_above size x o y ≡ true → gap t d o ≤ gap t d y
unfolding beats_above
near_above size x o y t d is e =
    let parts = and_parts (lt_z o y && lt_z ((x +ℤ x) +ℤ pos 1) (o +ℤ y)) (has (full size) (x +ℤ pos 2)) e in
    let sides = and_parts (lt_z o y) (lt_z ((x +ℤ x) +ℤ pos 1) (o +ℤ y)) parts.0 in
    let less = is_less o y sides.0 in
    let more = is_less ((x +ℤ x) +ℤ pos 1) (o +ℤ y) sides.1 in
    let near : gap t d x ≤ gap t d (x +ℤ pos 2) =
    subst (λ (w : ℤ). gap t d w ≤ gap t d (x +ℤ pos 2)) (sym is) (nearest_gap (full size) t d (x +ℤ pos 2) parts.1) in
    above t d x (x +ℤ pos 2) o y (omega (arith, ints)) less (omega (arith, ints)) near

near_below : (size : ℕ) (x o y t : ℤ) (d : ℕ) → x ≡ first_of (full size) t d → beats_below size x o y ≡ true → gap t d o ≤ gap t d y
unfolding beats_below
near_below size x o y t d is e =
    let parts = and_parts (lt_z y o && lt_z (o +ℤ y) ((x +ℤ x) -ℤ pos 1)) (has (full size) (x -ℤ pos 2)) e in
    let sides = and_parts (lt_z y o) (lt_z (o +ℤ y) ((x +ℤ x) -ℤ pos 1)) parts.0 in
    let less = is_less y o sides.0 in
    let more = is_less (o +ℤ y) ((x +ℤ x) -ℤ pos 1) sides.1 in
    let near : gap t d x ≤ gap t d (x -ℤ pos 2) =
    subst (λ (w : ℤ). gap t d w ≤ gap t d (x -ℤ pos 2)) (sym is) (nearest_gap (full size) t d (x -ℤ pos 2) parts.1) in
    below t d x (x -ℤ pos 2) o y (omega (arith, ints)) less (omega (arith, ints)) near

near_of : (size : ℕ) (x o y t : ℤ) (d : ℕ) → x ≡ first_of (full size) t d → beats size x o y ≡ true → gap t d o ≤ gap t d y
unfolding beats
near_of size x o y t d is e = elim (or_cases (int_eq o y) (beats_above size x o y || beats_below size x o y) e) [
  | inl same ↦ subst (λ (w : ℤ). gap t d o ≤ gap t d w) ((Decides-int_eq o y).0 same) (omega arith)
  | inr other ↦ elim (or_cases (beats_above size x o y) (beats_below size x o y) other)
      [ inl a ↦ near_above size x o y t d is a | inr b ↦ near_below size x o y t d is b ]
]

or-rest : (a b : Bool) → (a || b) ≡ true → a ≡ false → b ≡ true
or-rest true b e f = absurd (true≢false f)
or-rest false b e f = e

-- what holds of all levels holds of each
all_at : (p : ℤ → Bool) (xs : List ℤ) (y : ℤ) → list_all p xs ≡ true → list_any (λ z. int_eq z y) xs ≡ true → p y ≡ true
all_at p [] y all e = absurd (true≢false (sym e))
all_at p (z ∷ xs) y all e =
    let parts = and_parts (p z) (list_all p xs) all in
    elim (cases_Bool (int_eq z y)) [
      | inl same ↦ subst (λ (w : ℤ). p w ≡ true) ((Decides-int_eq z y).0 same) parts.0
      | inr other ↦ all_at p xs y parts.1 (or-rest (int_eq z y) (list_any (λ w. int_eq w y) xs) e other)
    ]

-- the table
abbrev pub across_at : ℕ → ℕ → ℕ → ℤ
across_at row k name = slice_index_or (slice_index_or (slice_index_or ACROSS row []) k []) name (pos 0)

abbrev half : ℕ → ℕ → ℕ → Rungs
half row k name = cut_axis (axis_named (suc row)) (suc row) k (not (bit_at name (suc row - 1 - k) == 1))

abbrev named_level : ℕ → ℕ → ℤ
named_level row name = level_at (axis_named (suc row)) name

unfoldable is_across : ℕ → ℕ → ℕ → Bool
is_across row k name =
    (is_ladder (half row k name) && has (half row k name) (across_at row k name))
    && (nat_lt (unsigned_abs (across_at row k name)) 8
    && list_all (beats (2 ^ suc row) (named_level row name) (across_at row k name)) (levels (half row k name)))

unfoldable are_across : ℕ → ℕ → Bool
are_across row k = agree_below (is_across row k) (λ _. true) (2 ^ suc row)

unfoldable rows_across : ℕ → Bool
rows_across row = agree_below (are_across row) (λ _. true) (suc row)

tests : agree_below rows_across (λ _. true) 3 ≡ true
unfolding rows_across are_across is_across is_ladder beats beats_above beats_below cut_axis axis_named level_at
tests = refl

in_table : (row k name : ℕ) → row < 3 → k < suc row → name < 2 ^ suc row → is_across row k name ≡ true
unfolding rows_across are_across
in_table row k name few bit named =
    agree_below_at (is_across row k) (λ _. true) (2 ^ suc row) name
    (agree_below_at (are_across row) (λ _. true) (suc row) k (agree_below_at rows_across (λ _. true) 3 row tests few) bit) named

-- an entry is across, and small
pub record IsEntry (count k name : ℕ) (o : ℤ) : Type 0 where
  pub across : IsAcross count k name o
  pub small : unsigned_abs o ≤ 7

is_entry : (row k name : ℕ) → is_across row k name ≡ true → IsEntry (suc row) k name (across_at row k name)
unfolding is_across
is_entry row k name e =
    let l = half row k name in
    let o = across_at row k name in
    let nearer = list_all (beats (2 ^ suc row) (named_level row name) o) (levels l) in
    let parts = and_parts (is_ladder l && has l o) (nat_lt (unsigned_abs o) 8 && nearer) e in
    let ladder = and_parts (is_ladder l) (has l o) parts.0 in
    let sizes = and_parts (nat_lt (unsigned_abs o) 8) nearer parts.1 in
    record {
      across = λ t d is.
          let y = first_of l t d in
          let gaps = near_of (2 ^ suc row) (named_level row name) o y t d is
          (all_at (beats (2 ^ suc row) (named_level row name) o) (levels l) y sizes.1 (first_has l t d (ladder_from l ladder.0))) in
          let squares : at_cost t d o ≤ at_cost t d y = mul-le-mul gaps gaps in
          omega (arith, squares, least l t d o ladder.1);
      small = let s = sizes.0 in grind (arith, nat_tests);
    }

pub entry : (count k name row at place : ℕ) → 1 ≤ count → count ≤ 3 → k < count → name < 2 ^ count → row ≡ count - 1 → at ≡ k → place ≡ name
    → IsEntry count k name (across_at row at place)
entry count k name row at place some few bit named row_is at_is place_is =
    let count_is : suc row ≡ count = omega arith in
    let there : IsEntry (suc row) k name (across_at row k name) =
    is_entry row k name (in_table row k name (omega arith) (omega arith) (subst (λ (n : ℕ). name < 2 ^ n) (sym count_is) named)) in
    rw (at_is, place_is) (subst (λ (n : ℕ). IsEntry n k name (across_at row k name)) count_is there)

-- the bits of a label that name I, and those that name Q
unfoldable i_bit : Modulation → ℕ → Bool
i_bit m e = agree_below (λ label. label_bit m label e) (λ label. bit_at (label / q_levels m) (i_bits m - 1 - e) == 1) (2 ^ bits_of m)

unfoldable q_bit : Modulation → ℕ → Bool
q_bit m e = agree_below (λ label. label_bit m label (i_bits m + e)) (λ label. bit_at (label % q_levels m) (q_bits m - 1 - e) == 1) (2 ^ bits_of m)

i_all : (m : Modulation) → agree_below (i_bit m) (λ _. true) (i_bits m) ≡ true
unfolding i_bit label_bit
i_all Bpsk = refl
i_all Qpsk = refl
i_all Qam16 = refl
i_all Qam64 = refl

q_all : (m : Modulation) → agree_below (q_bit m) (λ _. true) (q_bits m) ≡ true
unfolding q_bit label_bit
q_all Bpsk = refl
q_all Qpsk = refl
q_all Qam16 = refl
q_all Qam64 = refl

i_bit_is : (m : Modulation) (e label : ℕ) → e < i_bits m → label < 2 ^ bits_of m
    → label_bit m label e ≡ (bit_at (label / q_levels m) (i_bits m - 1 - e) == 1)
unfolding i_bit
i_bit_is m e label bit within =
    agree_below_at (λ l. label_bit m l e) (λ l. bit_at (l / q_levels m) (i_bits m - 1 - e) == 1) (2 ^ bits_of m) label
    (agree_below_at (i_bit m) (λ _. true) (i_bits m) e (i_all m) bit) within

q_bit_is : (m : Modulation) (e label : ℕ) → e < q_bits m → label < 2 ^ bits_of m
    → label_bit m label (i_bits m + e) ≡ (bit_at (label % q_levels m) (q_bits m - 1 - e) == 1)
unfolding q_bit
q_bit_is m e label bit within =
    agree_below_at (λ l. label_bit m l (i_bits m + e)) (λ l. bit_at (l % q_levels m) (q_bits m - 1 - e) == 1) (2 ^ bits_of m) label
    (agree_below_at (q_bit m) (λ _. true) (q_bits m) e (q_all m) bit) within

-- the ladders of a modulation, by how many bits name a level
i_full : (m : Modulation) → (axes_of m).i ≡ full (2 ^ i_bits m)
unfolding axes_of
i_full Bpsk = refl
i_full Qpsk = refl
i_full Qam16 = refl
i_full Qam64 = refl

q_full : (m : Modulation) → (axes_of m).q ≡ full (2 ^ q_bits m)
unfolding axes_of
q_full Bpsk = refl
q_full Qpsk = refl
q_full Qam16 = refl
q_full Qam64 = refl

i_named : (m : Modulation) → axis_named (i_bits m) ≡ i_axis m
unfolding axis_named
i_named Bpsk = refl
i_named Qpsk = refl
i_named Qam16 = refl
i_named Qam64 = refl

q_named : (m : Modulation) → 0 < q_bits m → axis_named (q_bits m) ≡ q_axis m
unfolding axis_named
q_named Bpsk some = absurd (omega arith)
q_named Qpsk some = refl
q_named Qam16 some = refl
q_named Qam64 some = refl

-- what the nearest levels of the half with the other bit cost together
abbrev pub other_cost : Modulation → ℕ → ℕ → ℤ → ℤ → ℕ → ℕ
other_cost m label e re im d =
    first_cost (half_axes m e (not (label_bit m label e))).q im d + first_cost (half_axes m e (not (label_bit m label e))).i re d

pub i_other : (m : Modulation) (e label count name : ℕ) (re im o : ℤ) (d : ℕ) → e < count → count ≡ i_bits m → label < 2 ^ bits_of m
    → name ≡ label / q_levels m → (point_of m label).i ≡ first_of (axes_of m).i re d → IsAcross count e name o
    → other_cost m label e re im d ≡ first_cost (axes_of m).q im d + at_cost re d o
unfolding point_of
i_other m e label count name re im o d bit is within name_is near across =
    let value = not (label_bit m label e) in
    let same : label_bit m label e ≡ (bit_at name (count - 1 - e) == 1) =
    i_bit_is m e label (omega arith) within
    ∙ sym (ap (λ (n : ℕ). bit_at name (n - 1 - e) == 1) is ∙ ap (λ (n : ℕ). bit_at n (i_bits m - 1 - e) == 1) name_is) in
    let level : level_at (axis_named count) name ≡ first_of (full (2 ^ count)) re d =
    ap (λ (n : ℕ). level_at (axis_named n) name) is ∙ ap (level_at (axis_named (i_bits m))) name_is
    ∙ ap (λ (a : Axis). level_at a (label / q_levels m)) (i_named m) ∙ near ∙ ap (λ (l : Rungs). first_of l re d) (i_full m)
    ∙ sym (ap (λ (n : ℕ). first_of (full (2 ^ n)) re d) is) in
    let cut = cut_axis (axis_named count) count e value in
    let axes = i-half m e value count cut (axes_of m) is bit refl refl in
    let cost : first_cost cut re d ≡ at_cost re d o =
    ap (λ (b : Bool). first_cost (cut_axis (axis_named count) count e (not b)) re d) same ∙ across re d level in
    sym (ap (λ (a : Axes). first_cost a.q im d + first_cost a.i re d) axes) ∙ ap (λ (n : ℕ). first_cost (axes_of m).q im d + n) cost

pub q_other : (m : Modulation) (e label count first at name : ℕ) (re im o : ℤ) (d : ℕ) → first ≤ e → e < bits_of m → count ≡ q_bits m → first ≡ i_bits m
    → at ≡ e - first → label < 2 ^ bits_of m → name ≡ label % q_levels m → (point_of m label).q ≡ first_of (axes_of m).q im d → IsAcross count at name o
    → other_cost m label e re im d ≡ at_cost im d o + first_cost (axes_of m).i re d
unfolding point_of
q_other m e label count first at name re im o d from bit is first_is at_is within name_is near across =
    let value = not (label_bit m label e) in
    let all : i_bits m + q_bits m ≡ bits_of m = both m in
    let some : at < q_bits m = omega (arith, all) in
    let there : i_bits m + at ≡ e = omega arith in
    let same : label_bit m label e ≡ (bit_at name (count - 1 - at) == 1) =
    ap (label_bit m label) (sym there) ∙ q_bit_is m at label some within
    ∙ sym (ap (λ (n : ℕ). bit_at name (n - 1 - at) == 1) is ∙ ap (λ (n : ℕ). bit_at n (q_bits m - 1 - at) == 1) name_is) in
    let level : level_at (axis_named count) name ≡ first_of (full (2 ^ count)) im d =
    ap (λ (n : ℕ). level_at (axis_named n) name) is ∙ ap (level_at (axis_named (q_bits m))) name_is
    ∙ ap (λ (a : Axis). level_at a (label % q_levels m)) (q_named m (omega arith)) ∙ near ∙ ap (λ (l : Rungs). first_of l im d) (q_full m)
    ∙ sym (ap (λ (n : ℕ). first_of (full (2 ^ n)) im d) is) in
    let cut = cut_axis (axis_named count) count at value in
    let axes = q-half m e value count first cut (axes_of m) is first_is from bit refl
    (ap (λ (n : ℕ). cut_axis (axis_named count) count n value) at_is) in
    let cost : first_cost cut im d ≡ at_cost im d o =
    ap (λ (b : Bool). first_cost (cut_axis (axis_named count) count at (not b)) im d) same ∙ across im d level in
    sym (ap (λ (a : Axes). first_cost a.q im d + first_cost a.i re d) axes) ∙ ap (λ (n : ℕ). n + first_cost (axes_of m).i re d) cost
  where
    both : (m : Modulation) → i_bits m + q_bits m ≡ bits_of m
    both Bpsk = refl
    both Qpsk = refl
    both Qam16 = refl
    both Qam64 = refl

pub below_eight : (count name : ℕ) → count ≤ 3 → name < 2 ^ count → name < 8
below_eight zero name few lt = omega arith
below_eight (suc zero) name few lt = omega arith
below_eight (suc (suc zero)) name few lt = omega arith
below_eight (suc (suc (suc zero))) name few lt = omega arith
below_eight (suc (suc (suc (suc n)))) name few lt = absurd (omega arith)

-- how the bits of a label are split between I and Q
pub record IsSplit (m : Modulation) : Type 0 where
  pub some : 1 ≤ i_bits m
  pub i_few : i_bits m ≤ 3
  pub q_few : q_bits m ≤ 3
  pub sum : i_bits m + q_bits m ≡ bits_of m
  pub labels : 2 ^ bits_of m ≡ 2 ^ i_bits m * q_levels m

pub split : (m : Modulation) → IsSplit m
split Bpsk = record { some = omega arith; i_few = omega arith; q_few = omega arith; sum = refl; labels = refl }
split Qpsk = record { some = omega arith; i_few = omega arith; q_few = omega arith; sum = refl; labels = refl }
split Qam16 = record { some = omega arith; i_few = omega arith; q_few = omega arith; sum = refl; labels = refl }
split Qam64 = record { some = omega arith; i_few = omega arith; q_few = omega arith; sum = refl; labels = refl }

-- the number of levels of Q, as it is computed
pub levels_is : (m : Modulation) (n : ℕ) → n ≡ bits_of m → (1 * 2 ^ (n / 2)) % 256 ≡ q_levels m
levels_is m n is = ap (λ (k : ℕ). (1 * 2 ^ (k / 2)) % 256) is ∙ by m
  where
    by : (m : Modulation) → (1 * 2 ^ (bits_of m / 2)) % 256 ≡ q_levels m
    by Bpsk = refl
    by Qpsk = refl
    by Qam16 = refl
    by Qam64 = refl
