-- Labels and points are one to one.
use Rattle.std.proofs.Common.{◌≡◌, ℕ, ◌+◌, ◌*◌, ◌/◌, ◌%◌, ◌^◌, ◌<◌, ℤ, Bool, true, false, nat_eq, Option, None, Some}
use Rattle.std.proofs.Common.{refl, arith, ap, ◌∙◌, sym, subst, is_some, ◌&&◌, true≢false, ◌↔◌, IfSome, IsNone}
use Rattle.std.proofs.lemmas.Bool.{agree_below, agree_below_at}
use Rattle.std.specs.Option.{option_eq}
use Rattle.ht_rate.specs.declared.kinds.Modulation.{Modulation}
use Rattle.ht_rate.specs.declared.kinds.Modulation.TheVariants.{Bpsk, Qpsk, Qam16, Qam64}
use Rattle.ht_rate.specs.Schemes.{bits_of}
use Rattle.ht_pam.specs.declared.point.Point.{Point}
use Rattle.ht_pam.specs.Ladders.{has}
use Rattle.ht_map.specs.Gray.{Axis, i_axis, q_axis, q_levels, level_at, bits_at, joined, point_of, label_of}
use Rattle.ht_map.specs.Constellation.{IsOff, axes_of}
use Rattle.ht_map.proofs.AxisFacts.{same_option, sound, bits_at-level, is_some-bits_at}

unfoldable pub comes_back : Modulation → ℕ → Bool
comes_back m label = option_eq nat_eq (label_of m (point_of m label)) (Some label)

come_back : (m : Modulation) → agree_below (comes_back m) (λ _. true) (2 ^ bits_of m) ≡ true
unfolding comes_back label_of point_of level_at bits_at
come_back Bpsk = refl
come_back Qpsk = refl
come_back Qam16 = refl
come_back Qam64 = refl

-- the label of a label's point is the label
pub label_of-point_of : (m : Modulation) (label : ℕ) → label < 2 ^ bits_of m → label_of m (point_of m label) ≡ Some label
unfolding comes_back
label_of-point_of m label lt = same_option _ _ (agree_below_at (comes_back m) (λ _. true) (2 ^ bits_of m) label (come_back m) lt)

joined-some : (levels : ℕ) (a b : Option ℕ) (label : ℕ) → joined levels a b ≡ Some label
    → (i : ℕ) × ((q : ℕ) × ((a ≡ Some i) × (b ≡ Some q) × (i * levels + q ≡ label)))
joined-some levels None b label e = cc
joined-some levels (Some i) None label e = cc
joined-some levels (Some i) (Some q) label e = (i, (q, (refl, refl, cc)))

-- a point from its coordinates
coordinates : (p : Point) (x y : ℤ) → x ≡ p.i → y ≡ p.q → (let r : Point = record { i = x; q = y } in r) ≡ p
coordinates p x y e h =
    ap (λ (v : ℤ). let r : Point = record { i = v; q = y } in r) e
    ∙ ap (λ (v : ℤ). let r : Point = record { i = p.i; q = v } in r) h

-- two halves that name the coordinates of a point
halves : (p : Point) (a b : Axis) (i_top levels label top : ℕ) → 0 < levels
    → sound i_top a ≡ true → sound levels b ≡ true
    → ((i q : ℕ) → i < i_top → q < levels → i * levels + q ≡ label → (label < top) × (label / levels ≡ i) × (label % levels ≡ q))
    → joined levels (bits_at a p.i) (bits_at b p.q) ≡ Some label
    → (label < top) × ((let r : Point = record { i = level_at a (label / levels); q = level_at b (label % levels) } in r) ≡ p)
halves p a b i_top levels label top some sa sb parts e =
    let found = joined-some levels (bits_at a p.i) (bits_at b p.q) label e in
    let i = found.0 in
    let q = found.1.0 in
    let at_i = bits_at-level i_top a p.i i sa found.1.1.0 in
    let at_q = bits_at-level levels b p.q q sb found.1.1.1 in
    let split = parts i q at_i.0 at_q.0 found.1.1.2 in
    (split.0, coordinates p _ _ (ap (level_at a) split.1 ∙ at_i.1) (ap (level_at b) split.2 ∙ at_q.1))

-- a label of a point is below the bound, and has the point
pub point_of-label_of : (m : Modulation) (p : Point) (label : ℕ) → label_of m p ≡ Some label
    → (label < 2 ^ bits_of m) × (point_of m label ≡ p)
unfolding label_of point_of
point_of-label_of Bpsk p label e =
    halves p (i_axis Bpsk) (q_axis Bpsk) 2 1 label 2 (omega arith) refl refl (λ i q h k s. (omega arith, omega arith, omega arith)) e
point_of-label_of Qpsk p label e =
    halves p (i_axis Qpsk) (q_axis Qpsk) 2 2 label 4 (omega arith) refl refl (λ i q h k s. (omega arith, omega arith, omega arith)) e
point_of-label_of Qam16 p label e =
    halves p (i_axis Qam16) (q_axis Qam16) 4 4 label 16 (omega arith) refl refl (λ i q h k s. (omega arith, omega arith, omega arith)) e
point_of-label_of Qam64 p label e =
    halves p (i_axis Qam64) (q_axis Qam64) 8 8 label 64 (omega arith) refl refl (λ i q h k s. (omega arith, omega arith, omega arith)) e

-- a point without a label is off the constellation
pub none-off : (m : Modulation) (p : Point) → is_some (label_of m p) ≡ false → IsOff m p
none-off m p none label lt same =
    let e : label_of m p ≡ Some label = subst (λ (r : Point). label_of m r ≡ Some label) same (label_of-point_of m label lt) in
    true≢false (sym (ap is_some e) ∙ none)

-- and one off the constellation has none
pub off-none : (m : Modulation) (p : Point) → IsOff m p → is_some (label_of m p) ≡ false
off-none m p off = by (label_of m p) (λ label e. let back = point_of-label_of m p label e in off label back.0 back.1)
  where
    by : (o : Option ℕ) → ((label : ℕ) → o ≡ Some label → ⊥) → is_some o ≡ false
    by None none = refl
    by (Some label) none = absurd (none label refl)

-- a point has a label exactly where both coordinates are levels of the constellation's ladders
pub is_some-label_of : (m : Modulation) (p : Point) → is_some (label_of m p) ≡ (has (axes_of m).i p.i && has (axes_of m).q p.q)
unfolding label_of axes_of
is_some-label_of m p = some-joined (q_levels m) (bits_at (i_axis m) p.i) (bits_at (q_axis m) p.q) _ _ (on_i m p.i) (on_q m p.q)
  where
    some-joined : (levels : ℕ) (a b : Option ℕ) (x y : Bool) → is_some a ≡ x → is_some b ≡ y → is_some (joined levels a b) ≡ (x && y)
    some-joined levels None b x y e h = grind arith
    some-joined levels (Some i) None x y e h = grind arith
    some-joined levels (Some i) (Some q) x y e h = grind arith

    on_i : (m : Modulation) (x : ℤ) → is_some (bits_at (i_axis m) x) ≡ has (axes_of m).i x
    on_i Bpsk x = is_some-bits_at (i_axis Bpsk) x
    on_i Qpsk x = is_some-bits_at (i_axis Qpsk) x
    on_i Qam16 x = is_some-bits_at (i_axis Qam16) x
    on_i Qam64 x = is_some-bits_at (i_axis Qam64) x

    on_q : (m : Modulation) (x : ℤ) → is_some (bits_at (q_axis m) x) ≡ has (axes_of m).q x
    on_q Bpsk x = is_some-bits_at (q_axis Bpsk) x
    on_q Qpsk x = is_some-bits_at (q_axis Qpsk) x
    on_q Qam16 x = is_some-bits_at (q_axis Qam16) x
    on_q Qam64 x = is_some-bits_at (q_axis Qam64) x

-- what the label of a point is, told of a value that equals it
pub is_label : (m : Modulation) (p : Point) (o : Option ℕ) → o ≡ label_of m p → IfSome o (λ label. (label < 2 ^ bits_of m) × (point_of m label ≡ p))
is_label m p None e = tt
is_label m p (Some label) e = point_of-label_of m p label (sym e)

pub is_no_label : (m : Modulation) (p : Point) (o : Option ℕ) → o ≡ label_of m p → IsNone o ↔ IsOff m p
is_no_label m p o e = rw e (none-off m p, off-none m p)

pub ruleset back_and_forth = (label_of-point_of, point_of-label_of, is_label, is_no_label, is_some-label_of)
