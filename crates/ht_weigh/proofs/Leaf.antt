-- The vectors with the first stream open, in closed form: the nearest levels of its halves are the nearest vectors with a bit.
use Rattle.std.proofs.Common.{◌≡◌, ◌⊎◌, ℕ, zero, suc, ◌+◌, ◌-◌, ◌*◌, ◌^◌, ◌<◌, ◌≤◌, ℤ, pos, ◌-ℤ◌, ◌*ℤ◌, List, [], ◌∷◌, length, get_or, inl, inr, arith}
use Rattle.std.proofs.Common.{refl, ap, sym, ◌∙◌, subst}
use Rattle.std.proofs.Common.{Bool, true, false, true≢false, ◌&&◌, ◌||◌, nat_eq, nat_lt, not, None, Some, is_some}
use Rattle.std.proofs.lemmas.Bool.{agree_below, agree_below_at, and_from, and_parts, or_cases, cases_lt, eqb-true, ltb-true}
use Rattle.std.proofs.Common.{replicate}
use Rattle.std.proofs.lemmas.List.{get_or_past, get_or-replicate}
use Rattle.ht_pam.specs.Grids.{no_axes}
use Rattle.ht_rate.specs.declared.kinds.Modulation.{Modulation}
use Rattle.ht_rate.specs.declared.kinds.Modulation.TheVariants.{Bpsk, Qpsk, Qam16, Qam64}
use Rattle.ht_rate.specs.Schemes.{bits_of}
use Rattle.ht_map.specs.Gray.{label_bit, label_of, bits_at}
use Rattle.ht_map.proofs.LabelFacts.{is_some-label_of}
use Rattle.ht_map.specs.Constellation.{axes_of}
use Rattle.ht_pam.specs.Ladders.{Rungs, IsLadder, has, levels}
use Rattle.ht_pam.specs.Zigzags.{gap, nearest_first}
use Rattle.ht_pam.specs.declared.axes.Axes.{Axes}
use Rattle.ht_pam.specs.declared.point.Point.{Point}
use Rattle.ht_metric.specs.Distance.{square}
use Rattle.ht_metric.specs.Vectors.{is_in, no_point}
use Rattle.ht_sphere.specs.Coordinates.{Real, target, cost, first_of, points_from}
use Rattle.ht_sphere.specs.Tree.{Reached}
use Rattle.ht_sphere.specs.Searching.{leaves, Among}
use Rattle.ht_sphere.proofs.Bests.{sorted, walk_some}
use Rattle.ht_sphere.proofs.Margins.{least_first}
use Rattle.ht_sphere.proofs.Paths.{leaf_path, path_leaf, first_among, sorted_has, has_sorted, tried_has, has_tried}
use Rattle.ht_soft.specs.Halves.{has_bit, is, label_has, half_axes, cut_axis}
use Rattle.ht_soft.proofs.Cuts.{half-vectors}
use Rattle.ht_weigh.specs.Leasts.{IsLowered, AreWithin, place_of}
use Rattle.ht_weigh.specs.Walks.{Tells, TellsLabel, TellsStream, TellsBehind, TellsOthers, first_cost, half_cost}
use Rattle.ht_weigh.proofs.Lowered.{Nearer, lowered-not, lowered-then, lowered-as}

-- what a level costs
abbrev pub at_cost : ℤ → ℕ → ℤ → ℕ
at_cost t d x = square (t -ℤ (pos d *ℤ x))

-- a ladder as a coordinate
abbrev alone : Rungs → ℕ → Real
alone l d = record { ladder = l; diagonal = d; sample = pos 0; weights = [] }

-- no level of a ladder costs less than its nearest one
pub least : (l : Rungs) (t : ℤ) (d : ℕ) (x : ℤ) → has l x ≡ true → first_cost l t d ≤ at_cost t d x
least l t d x there = least_first (at_cost t d) (nearest_first (gap t d) (levels l)) x (sorted (alone l d) t) (has_sorted l (gap t d) x there)

-- which is one of it
pub first_has : (l : Rungs) (t : ℤ) (d : ℕ) → IsLadder l → has l (first_of l t d) ≡ true
first_has l t d ladder = sorted_has l (gap t d) (first_of l t d) (first_among (nearest_first (gap t d) (levels l)) (walk_some l (gap t d) ladder))

-- each half has a level on both axes
unfoldable pub is_ladder : Rungs → Bool
is_ladder l = ((nat_eq l.size 1 || nat_eq l.size 2) || (nat_eq l.size 4 || nat_eq l.size 8)) && (nat_lt 0 l.mask && nat_lt l.mask (2 ^ l.size))

pub ladder_from : (l : Rungs) → is_ladder l ≡ true → IsLadder l
unfolding is_ladder
ladder_from l e =
    let size = (nat_eq l.size 1 || nat_eq l.size 2) || (nat_eq l.size 4 || nat_eq l.size 8) in
    let parts = and_parts size (nat_lt 0 l.mask && nat_lt l.mask (2 ^ l.size)) e in
    let masks = and_parts (nat_lt 0 l.mask) (nat_lt l.mask (2 ^ l.size)) parts.1 in
    record {
      size = elim (or_cases (nat_eq l.size 1 || nat_eq l.size 2) (nat_eq l.size 4 || nat_eq l.size 8) parts.0) [
        | inl few ↦ elim (or_cases (nat_eq l.size 1) (nat_eq l.size 2) few) [ inl a ↦ inl (eqb-true _ _ a) | inr b ↦ inr (inl (eqb-true _ _ b)) ]
        | inr many ↦ elim (or_cases (nat_eq l.size 4) (nat_eq l.size 8) many)
            [ inl a ↦ inr (inr (inl (eqb-true _ _ a))) | inr b ↦ inr (inr (inr (eqb-true _ _ b))) ]
      ];
      some = ltb-true _ _ masks.0;
      within = ltb-true _ _ masks.1;
    }

unfoldable are_ladders : Modulation → Bool → ℕ → Bool
are_ladders m value e = is_ladder (half_axes m e value).i && is_ladder (half_axes m e value).q

all_ladders : (m : Modulation) (value : Bool) → agree_below (are_ladders m value) (λ _. true) (bits_of m) ≡ true
unfolding are_ladders is_ladder half_axes cut_axis axes_of
all_ladders Bpsk true = refl
all_ladders Bpsk false = refl
all_ladders Qpsk true = refl
all_ladders Qpsk false = refl
all_ladders Qam16 true = refl
all_ladders Qam16 false = refl
all_ladders Qam64 true = refl
all_ladders Qam64 false = refl

pub half_ladders : (m : Modulation) (e : ℕ) (value : Bool) → e < bits_of m → IsLadder (half_axes m e value).i × IsLadder (half_axes m e value).q
unfolding are_ladders
half_ladders m e value within =
    let parts = and_parts (is_ladder (half_axes m e value).i) (is_ladder (half_axes m e value).q)
    (agree_below_at (are_ladders m value) (λ _. true) (bits_of m) e (all_ladders m value) within) in
    (ladder_from (half_axes m e value).i parts.0, ladder_from (half_axes m e value).q parts.1)

abbrev point : ℤ → ℤ → Point
point i q = record { i = i; q = q }

-- the points of a half are those of the constellation with the bit
one_stream : (m : Modulation) (e : ℕ) (value : Bool) (p : Point) → e < bits_of m
    → is_in (half_axes m e value ∷ []) (p ∷ []) ≡ (is_in (axes_of m ∷ []) (p ∷ []) && has_bit m 1 e value (p ∷ []))
one_stream m e value p within =
    half-vectors m 1 e value (axes_of m ∷ []) (half_axes m e value ∷ []) (p ∷ []) refl (omega arith) (omega arith) within refl

first_bit : (m : Modulation) (e : ℕ) (value : Bool) (p : Point) (rest : List Point) → has_bit m 1 e value (p ∷ rest) ≡ has_bit m 1 e value (p ∷ [])
unfolding has_bit
first_bit m e value p rest = refl

pub into_half : (m : Modulation) (e : ℕ) (value : Bool) (i q : ℤ) (rest : List Point) → e < bits_of m → has (axes_of m).i i ≡ true → has (axes_of m).q q ≡ true
    → has_bit m 1 e value (point i q ∷ rest) ≡ true → (has (half_axes m e value).i i ≡ true) × (has (half_axes m e value).q q ≡ true)
into_half m e value i q rest within is_i is_q told =
    let p = point i q in
    let on : is_in (axes_of m ∷ []) (p ∷ []) ≡ true = and_from (has (axes_of m).i i && has (axes_of m).q q) true (and_from _ _ is_i is_q) refl in
    let there : is_in (half_axes m e value ∷ []) (p ∷ []) ≡ true =
    one_stream m e value p within ∙ and_from (is_in (axes_of m ∷ []) (p ∷ [])) (has_bit m 1 e value (p ∷ [])) on (sym (first_bit m e value p rest) ∙ told) in
    and_parts (has (half_axes m e value).i i) (has (half_axes m e value).q q)
    (and_parts (has (half_axes m e value).i i && has (half_axes m e value).q q) true there).0

pub from_half : (m : Modulation) (e : ℕ) (value : Bool) (i q : ℤ) (rest : List Point) → e < bits_of m
    → has (half_axes m e value).i i ≡ true → has (half_axes m e value).q q ≡ true
    → (has (axes_of m).i i ≡ true) × (has (axes_of m).q q ≡ true) × (has_bit m 1 e value (point i q ∷ rest) ≡ true)
from_half m e value i q rest within is_i is_q =
    let p = point i q in
    let there : is_in (half_axes m e value ∷ []) (p ∷ []) ≡ true =
    and_from (has (half_axes m e value).i i && has (half_axes m e value).q q) true (and_from _ _ is_i is_q) refl in
    let both = and_parts (is_in (axes_of m ∷ []) (p ∷ [])) (has_bit m 1 e value (p ∷ [])) (sym (one_stream m e value p within) ∙ there) in
    let on = and_parts (has (axes_of m).i i) (has (axes_of m).q q) (and_parts (has (axes_of m).i i && has (axes_of m).q q) true both.0).0 in
    (on.0, on.1, first_bit m e value p rest ∙ both.1)

-- the bits of the other streams
later_bit : (m : Modulation) (k e : ℕ) (value : Bool) (p : Point) (rest : List Point)
    → has_bit m (suc (suc k)) e value (p ∷ rest) ≡ has_bit m (suc k) e value rest
unfolding has_bit
later_bit m k e value p rest =
    let two : suc (suc k) - 1 ≡ suc k = omega arith in
    let one : suc k - 1 ≡ k = omega arith in
    let at : List Point → ℕ → Bool = λ x j. label_has m e value (label_of m (get_or x j no_point)) in
    ap (at (p ∷ rest)) two ∙ sym (ap (at rest) one)

pub no_label : (m : Modulation) → label_of m no_point ≡ None
unfolding label_of bits_at
no_label Bpsk = refl
no_label Qpsk = refl
no_label Qam16 = refl
no_label Qam64 = refl

count_points : (xs : List ℤ) → 2 * length (points_from xs) ≤ length xs
count_points [] = omega arith
count_points (x ∷ []) = omega arith
count_points (x ∷ y ∷ xs) = let rest = count_points xs in omega (arith, rest)

-- no stream behind the last one has a bit
past_last : (m : Modulation) (k e : ℕ) (value : Bool) (s : List ℤ) → length s ≤ 2 * k → has_bit m (suc k) e value (points_from s) ≡ true → ⊥
unfolding has_bit
past_last m k e value s few told =
    let none : get_or (points_from s) (suc k - 1) no_point ≡ no_point = get_or_past (points_from s) (suc k - 1) no_point (omega (arith, count_points s)) in
    true≢false (sym told ∙ ap (λ (p : Point). label_has m e value (label_of m p)) none ∙ ap (label_has m e value) (no_label m))

either_bit : (v b : Bool) → (v ≡ b) ⊎ (v ≡ not b)
either_bit true true = inl refl
either_bit true false = inr refl
either_bit false true = inr refl
either_bit false false = inl refl

is-self : (b : Bool) → is b b ≡ true
is-self true = refl
is-self false = refl

-- a point has the bits of its label
pub named_bit : (m : Modulation) (e label : ℕ) (p : Point) (rest : List Point) → label_of m p ≡ Some label
    → has_bit m 1 e (label_bit m label e) (p ∷ rest) ≡ true
unfolding has_bit
named_bit m e label p rest named = ap (label_has m e (label_bit m label e)) named ∙ is-self (label_bit m label e)

-- the two coordinates of the first stream, behind the chosen levels, and what is known of them
pub record IsFirst (m : Modulation) (q i : Real) (s : List ℤ) (re im : ℤ) (d : ℕ) : Type 0 where
  pub at_q : q.ladder ≡ (axes_of m).q
  pub at_i : i.ladder ≡ (axes_of m).i
  pub good_q : IsLadder (axes_of m).q
  pub good_i : IsLadder (axes_of m).i
  pub d_q : d ≡ q.diagonal
  pub d_i : d ≡ i.diagonal
  pub im_is : im ≡ target q s
  pub re_is : (x : ℤ) → re ≡ target i (x ∷ s)

module _ (m : Modulation) (q i : Real) (s : List ℤ) (re im : ℤ) (d p : ℕ) (first : IsFirst m q i s re im d) where
  abbrev below : List Reached
  below = leaves (q ∷ i ∷ []) s p

  cost_q : (x : ℤ) → cost q s x ≡ at_cost im d x
  cost_q x = sym (ap (λ (t : ℤ). at_cost t d x) first.im_is ∙ ap (λ (n : ℕ). at_cost (target q s) n x) first.d_q)

  cost_i : (x y : ℤ) → cost i (x ∷ s) y ≡ at_cost re d y
  cost_i x y = sym (ap (λ (t : ℤ). at_cost t d y) (first.re_is x) ∙ ap (λ (n : ℕ). at_cost (target i (x ∷ s)) n y) first.d_i)

  -- a vector has a level of each, and their costs
  pub record IsUnder (v : Reached) : Type 0 where
    pub x : ℤ
    pub y : ℤ
    pub has_x : has (axes_of m).q x ≡ true
    pub has_y : has (axes_of m).i y ≡ true
    pub levels_are : v.0 ≡ y ∷ x ∷ s
    pub distance_is : v.1 ≡ p + (at_cost im d x + at_cost re d y)

  pub under : (v : Reached) → Among below v → IsUnder v
  under v h =
      let path = leaf_path (q ∷ i ∷ []) s p v h in
      let x = path.0 in
      let y = path.2.0 in
      let sum : p + cost q s x + cost i (x ∷ s) y ≡ p + (at_cost im d x + at_cost re d y) = omega (arith, cost_q x, cost_i x y) in
      record {
        x = x;
        y = y;
        has_x = subst (λ (l : Rungs). has l x ≡ true) first.at_q (tried_has q s x path.1);
        has_y = subst (λ (l : Rungs). has l y ≡ true) first.at_i (tried_has i (x ∷ s) y path.2.1);
        levels_are = ap (λ (u : Reached). u.0) path.2.2;
        distance_is = ap (λ (u : Reached). u.1) path.2.2 ∙ sum;
      }

  -- and all of these are there
  pub there : (x y : ℤ) → has (axes_of m).q x ≡ true → has (axes_of m).i y ≡ true → Among below (y ∷ x ∷ s, p + (at_cost im d x + at_cost re d y))
  there x y has_x has_y =
      let sum : p + (at_cost im d x + at_cost re d y) ≡ p + cost q s x + cost i (x ∷ s) y = omega (arith, cost_q x, cost_i x y) in
      path_leaf (q ∷ i ∷ []) s p (y ∷ x ∷ s, p + (at_cost im d x + at_cost re d y)) (
        x,
        has_tried q s x (subst (λ (l : Rungs). has l x ≡ true) (sym first.at_q) has_x),
        (
          y,
          has_tried i (x ∷ s) y (subst (λ (l : Rungs). has l y ≡ true) (sym first.at_i) has_y),
          ap (λ (n : ℕ). let u : Reached = (y ∷ x ∷ s, n) in u) sum,
        ),
      )

  -- the nearest of them
  abbrev nearest : ℕ
  nearest = p + (first_cost (axes_of m).q im d + first_cost (axes_of m).i re d)

  pub none_nearer : (v : Reached) → Among below v → nearest ≤ v.1
  none_nearer v h =
      let u = under v h in
      omega (arith, u.distance_is, least (axes_of m).q im d u.x u.has_x, least (axes_of m).i re d u.y u.has_y)

  pub one_there : Among below (first_of (axes_of m).i re d ∷ first_of (axes_of m).q im d ∷ s, nearest)
  one_there = there (first_of (axes_of m).q im d) (first_of (axes_of m).i re d) (first_has (axes_of m).q im d first.good_q)
      (first_has (axes_of m).i re d first.good_i)

  -- where that isn't below the clip, nothing has to be lowered
  pub far : (clip t : ℕ) (a : List ℕ) → AreWithin clip a → t ≡ nearest → clip ≤ t → IsLowered (Tells m below) a a
  far clip t a within is beyond =
      lowered-not (Tells m below) a (λ j n h. omega (arith, within j, none_nearer h.vector h.among, h.distance, is, beyond))

  -- the label of the nearest point
  module _ (t count label : ℕ) (is : t ≡ nearest) (size : length s + 2 ≡ 2 * count)
      (named : label_of m (point (first_of (axes_of m).i re d) (first_of (axes_of m).q im d)) ≡ Some label) where
    abbrev Mine : ℕ → ℕ → Type 0
    Mine j n = TellsLabel m label 1 t (bits_of m) j n ⊎ TellsOthers m label p re im d (bits_of m) j n

    abbrev Both : ℕ → ℕ → Type 0
    Both j n = TellsBehind m s t count j n ⊎ Mine j n

    nearer_first : (j n e : ℕ) (value : Bool) (v : Reached) (u : IsUnder v) → Among below v → e < bits_of m
        → has_bit m 1 e value (points_from v.0) ≡ true
        → j ≡ place_of m 1 e value → n ≡ v.1 → Nearer Both j n
    nearer_first j n e value v u among within told place distance = elim (either_bit value (label_bit m label e)) [
      | inl same ↦ record {
        distance = t;
        heard = inr (inl record { bit = e; within = within; place = place ∙ ap (place_of m 1 e) same; distance = refl });
        less = omega (arith, distance, none_nearer v among, is);
      }
      | inr other ↦
          let half = into_half m e value u.y u.x (points_from s) within u.has_y u.has_x
          (sym (ap (λ (xs : List ℤ). has_bit m 1 e value (points_from xs)) u.levels_are) ∙ told) in
          record {
            distance = half_cost m e value p re im d;
            heard = inr (inr record {
              bit = e;
              within = within;
              place = place ∙ ap (place_of m 1 e) other;
              distance = ap (λ (b : Bool). half_cost m e b p re im d) other;
            });
            less = omega (arith, distance, u.distance_is, least (half_axes m e value).q im d u.x half.1, least (half_axes m e value).i re d u.y half.0);
          }
    ]

    nearer_later : (j n k e : ℕ) (value : Bool) (v : Reached) (u : IsUnder v) → Among below v → e < bits_of m
        → has_bit m (suc (suc k)) e value (points_from v.0) ≡ true → j ≡ place_of m (suc (suc k)) e value → n ≡ v.1 → Nearer Both j n
    nearer_later j n k e value v u among within told place distance =
        let mine : has_bit m (suc k) e value (points_from s) ≡ true =
        sym (later_bit m k e value (point u.y u.x) (points_from s))
        ∙ sym (ap (λ (xs : List ℤ). has_bit m (suc (suc k)) e value (points_from xs)) u.levels_are) ∙ told in
        elim (cases_lt (suc k) count) [
          | inl less ↦ record {
            distance = t;
            heard = inl record {
              stream = suc k;
              first = omega arith;
              last = less;
              tells = record { bit = e; value = value; within = within; has = mine; place = place; distance = refl };
            };
            less = omega (arith, distance, none_nearer v among, is);
          }
          | inr more ↦ absurd (past_last m k e value s (omega (arith, size, more)) mine)
        ]

    nearer_of : (j n stream e : ℕ) (value : Bool) (v : Reached) → Among below v → 1 ≤ stream → e < bits_of m
        → has_bit m stream e value (points_from v.0) ≡ true → j ≡ place_of m stream e value → n ≡ v.1 → Nearer Both j n
    nearer_of j n zero e value v among some within told place distance = absurd (omega arith)
    nearer_of j n (suc zero) e value v among some within told place distance =
        nearer_first j n e value v (under v among) among within told place distance
    nearer_of j n (suc (suc k)) e value v among some within told place distance =
        nearer_later j n k e value v (under v among) among within told place distance

    abbrev x_near : ℤ
    x_near = first_of (axes_of m).q im d

    abbrev y_near : ℤ
    y_near = first_of (axes_of m).i re d

    near_there : Among below (y_near ∷ x_near ∷ s, nearest)
    near_there = there x_near y_near (first_has (axes_of m).q im d first.good_q) (first_has (axes_of m).i re d first.good_i)

    later_known : (j n k : ℕ) → 1 ≤ k → TellsStream m s t k j n → Tells m below j n
    later_known j n zero some h = absurd (omega arith)
    later_known j n (suc k) some h = record {
      vector = (y_near ∷ x_near ∷ s, nearest);
      stream = suc (suc k);
      bit = h.bit;
      value = h.value;
      among = near_there;
      first = omega arith;
      within = h.within;
      has = later_bit m k h.bit h.value (point y_near x_near) (points_from s) ∙ h.has;
      place = h.place;
      distance = h.distance ∙ is;
    }

    label_known : (j n : ℕ) → TellsLabel m label 1 t (bits_of m) j n → Tells m below j n
    label_known j n h = record {
      vector = (y_near ∷ x_near ∷ s, nearest);
      stream = 1;
      bit = h.bit;
      value = label_bit m label h.bit;
      among = near_there;
      first = omega arith;
      within = h.within;
      has = named_bit m h.bit label (point y_near x_near) (points_from s) named;
      place = h.place;
      distance = h.distance ∙ is;
    }

    others_known : (j n : ℕ) → TellsOthers m label p re im d (bits_of m) j n → Tells m below j n
    others_known j n h =
        let value = not (label_bit m label h.bit) in
        let half = half_axes m h.bit value in
        let x = first_of half.q im d in
        let y = first_of half.i re d in
        let good = half_ladders m h.bit value h.within in
        let known = from_half m h.bit value y x (points_from s) h.within (first_has half.i re d good.0) (first_has half.q im d good.1) in
        record {
          vector = (y ∷ x ∷ s, half_cost m h.bit value p re im d);
          stream = 1;
          bit = h.bit;
          value = value;
          among = there x y known.1 known.0;
          first = omega arith;
          within = h.within;
          has = known.2;
          place = h.place;
          distance = h.distance;
        }

    -- all halves are lowered as all vectors there would lower them
    pub near : (a b c f : List ℕ) → IsLowered (TellsBehind m s t count) a b → IsLowered (TellsLabel m label 1 t (bits_of m)) b c
        → IsLowered (TellsOthers m label p re im d (bits_of m)) c f → IsLowered (Tells m below) a f
    near a b c f behind mine others =
        lowered-as Both (Tells m below) a f
        (lowered-then (TellsBehind m s t count) Mine Both a b f behind
        (lowered-then (TellsLabel m label 1 t (bits_of m)) (TellsOthers m label p re im d (bits_of m)) Mine b c f mine others (λ j n h. h)
        (λ j n h. inl h) (λ j n h. inr h)) (λ j n h. h) (λ j n h. inl h) (λ j n h. inr h))
        (λ j n h. nearer_of j n h.stream h.bit h.value h.vector h.among h.first h.within h.has h.place h.distance)
        (λ j n h. elim h [
          | inl l ↦ later_known j n l.stream l.first l.tells
          | inr r ↦ elim r [ inl q ↦ label_known j n q | inr o ↦ others_known j n o ]
        ])

full_ladders : (m : Modulation) → (is_ladder (axes_of m).i && is_ladder (axes_of m).q) ≡ true
unfolding is_ladder axes_of
full_ladders Bpsk = refl
full_ladders Qpsk = refl
full_ladders Qam16 = refl
full_ladders Qam64 = refl

-- the ladders of the first stream
pub first_axes : (m : Modulation) (grid : List Axes) → grid ≡ replicate (length grid) (axes_of m) → 1 ≤ length grid → get_or grid 0 no_axes ≡ axes_of m
first_axes m grid full some = ap (λ (g : List Axes). get_or g 0 no_axes) full ∙ get_or-replicate (length grid) 0 (axes_of m) no_axes some

pub i_ladder : (m : Modulation) → IsLadder (axes_of m).i
i_ladder m = ladder_from (axes_of m).i (and_parts (is_ladder (axes_of m).i) (is_ladder (axes_of m).q) (full_ladders m)).0

pub q_ladder : (m : Modulation) → IsLadder (axes_of m).q
q_ladder m = ladder_from (axes_of m).q (and_parts (is_ladder (axes_of m).i) (is_ladder (axes_of m).q) (full_ladders m)).1

pub first_is : (m : Modulation) (q i : Real) (a : Axes) (s : List ℤ) (re im : ℤ) (d : ℕ) → a ≡ axes_of m → q.ladder ≡ a.q → i.ladder ≡ a.i → d ≡ q.diagonal
    → d ≡ i.diagonal → im ≡ target q s → ((x : ℤ) → re ≡ target i (x ∷ s)) → IsFirst m q i s re im d
first_is m q i a s re im d is at_q at_i d_q d_i im_is re_is =
    let good = and_parts (is_ladder (axes_of m).i) (is_ladder (axes_of m).q) (full_ladders m) in
    record {
      at_q = at_q ∙ ap (λ (x : Axes). x.q) is;
      at_i = at_i ∙ ap (λ (x : Axes). x.i) is;
      good_q = ladder_from (axes_of m).q good.1;
      good_i = ladder_from (axes_of m).i good.0;
      d_q = d_q;
      d_i = d_i;
      im_is = im_is;
      re_is = re_is;
    }

-- the nearest point of the first stream, as it is computed, and passed on
pub first_found : (k l : Rungs) (d : ℕ) (t u x y : ℤ) → k ≡ l → y ≡ x → x ≡ first_of k t d → u ≡ t → y ≡ first_of l t d
first_found k l d t u x y same passed is at = passed ∙ is ∙ ap (λ (r : Rungs). first_of r t d) same

-- and the distance of the nearest vector
pub nearest_is : (m : Modulation) (d p a b n : ℕ) (u v re im x y : ℤ) → u ≡ im → v ≡ re → x ≡ first_of (axes_of m).q im d → y ≡ first_of (axes_of m).i re d
    → a ≡ square (u -ℤ (pos d *ℤ x)) → b ≡ square (v -ℤ (pos d *ℤ y)) → n ≡ a + b
    → p + n ≡ p + (first_cost (axes_of m).q im d + first_cost (axes_of m).i re d)
nearest_is m d p a b n u v re im x y is_im is_re is_x is_y cost_q cost_i sum =
    let q_is : a ≡ first_cost (axes_of m).q im d =
    cost_q ∙ ap (λ (t : ℤ). at_cost t d x) is_im ∙ ap (at_cost im d) is_x in
    let i_is : b ≡ first_cost (axes_of m).i re d =
    cost_i ∙ ap (λ (t : ℤ). at_cost t d y) is_re ∙ ap (at_cost re d) is_y in
    omega (arith, sum, q_is, i_is)

-- what the nearest level of a ladder costs, as it is computed
pub first_cost_is : (k l : Rungs) (d n : ℕ) (u t : ℤ) → k ≡ l → u ≡ t → n ≡ first_cost k u d → n ≡ first_cost l t d
first_cost_is k l d n u t same passed is = is ∙ ap (λ (v : ℤ). first_cost k v d) passed ∙ ap (λ (r : Rungs). first_cost r t d) same

-- what its levels cost
pub first_costs : (l : Rungs) (d a : ℕ) (u t x : ℤ) → u ≡ t → x ≡ first_of l t d → a ≡ square (u -ℤ (pos d *ℤ x)) → a ≡ first_cost l t d
first_costs l d a u t x is_target is_level cost = cost ∙ ap (λ (v : ℤ). at_cost v d x) is_target ∙ ap (at_cost t d) is_level

-- the nearest point has a label
pub has_label : (m : Modulation) (re im : ℤ) (d : ℕ) → label_of m (point (first_of (axes_of m).i re d) (first_of (axes_of m).q im d)) ≡ None → ⊥
has_label m re im d none =
    let good = and_parts (is_ladder (axes_of m).i) (is_ladder (axes_of m).q) (full_ladders m) in
    let p = point (first_of (axes_of m).i re d) (first_of (axes_of m).q im d) in
    let on : (has (axes_of m).i p.i && has (axes_of m).q p.q) ≡ true =
    and_from _ _ (first_has (axes_of m).i re d (ladder_from (axes_of m).i good.0)) (first_has (axes_of m).q im d (ladder_from (axes_of m).q good.1)) in
    true≢false (sym (is_some-label_of m p ∙ on) ∙ ap is_some none)
