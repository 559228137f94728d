-- The weights of a job of one stream: the nearest vector of each half has the nearest levels with the bit.
use Rattle.std.proofs.Common.{◌≡◌, ℕ, ◌+◌, ◌-◌, ◌*◌, ◌<◌, ◌≤◌, ℤ, pos, List, [], ◌∷◌, length, replicate, arith, refl, ap, sym, ◌∙◌, subst}
use Rattle.std.proofs.Common.{Bool, true, false, not, Some, if◌then◌else◌, get_or, set, inl, inr}
use Rattle.std.specs.Prelude.{slice_index_or}
use Rattle.std.proofs.lemmas.Bool.{and_parts}
use Rattle.std.proofs.lemmas.List.{get_or-set_same, get_or-set_other}
use Rattle.ht_rate.specs.declared.kinds.Modulation.{Modulation}
use Rattle.ht_rate.specs.Schemes.{bits_of}
use Rattle.ht_map.specs.Gray.{label_bit, label_of, point_of}
use Rattle.ht_map.specs.Constellation.{axes_of}
use Rattle.ht_map.proofs.LabelFacts.{label_of-point_of}
use Rattle.ht_pam.specs.Ladders.{has, IsLadder}
use Rattle.ht_pam.specs.declared.point.Point.{Point}
use Rattle.ht_metric.specs.Distance.{distance_of}
use Rattle.ht_metric.specs.Vectors.{is_in, levels_of}
use Rattle.ht_metric.specs.Jobs.{JobView, IsJob, near}
use Rattle.ht_sphere.specs.Coordinates.{Real, first_of, from_last, i_at, points_from, q_at}
use Rattle.ht_sphere.specs.Tree.{Reached}
use Rattle.ht_sphere.specs.Searching.{leaves, Among}
use Rattle.ht_sphere.proofs.Down.{down_system}
use Rattle.ht_sphere.proofs.Finding.{points_back}
use Rattle.ht_sphere.proofs.Paths.{leaf_path, path_leaf}
use Rattle.ht_sphere.proofs.Rows.{leads, way_to}
use Rattle.ht_soft.specs.Halves.{has_bit, half_axes, half_of}
use Rattle.ht_soft.specs.Weights.{weight_of, weight_at}
use Rattle.ht_weigh.specs.Walks.{half_cost, IsNamed}
use Rattle.ht_weigh.specs.Weights.{AreWeights}
use Rattle.ht_weigh.proofs.Leaf.{IsFirst, at_cost, first_has, from_half, half_ladders, into_half, least, named_bit, there, under}
use Rattle.ht_weigh.proofs.Leaf.{i_ladder, q_ladder}
use Rattle.ht_weigh.proofs.Labels.{below_next}
use Rattle.ht_weigh.proofs.Whole.{least_of, in_half, half_near, not_nearer}

abbrev point : ℤ → ℤ → Point
point i q = record { i = i; q = q }

-- the half with the nearest point's bit has the nearest point, and the other half has none that is nearer
module _ (m : Modulation) (e label : ℕ) (re im : ℤ) (d i_cost q_cost : ℕ) (within : e < bits_of m) (named : IsNamed m label re im d i_cost q_cost)
    (good_i : IsLadder (axes_of m).i) (good_q : IsLadder (axes_of m).q) where
  abbrev x_near : ℤ
  x_near = first_of (axes_of m).q im d

  abbrev y_near : ℤ
  y_near = first_of (axes_of m).i re d

  nearest_named : label_of m (point y_near x_near) ≡ Some label
  nearest_named =
      ap (λ (y : ℤ). label_of m (point y x_near)) (sym named.i) ∙ ap (λ (x : ℤ). label_of m (point (point_of m label).i x)) (sym named.q)
      ∙ label_of-point_of m label named.within

  mine : (has (half_axes m e (label_bit m label e)).i y_near ≡ true) × (has (half_axes m e (label_bit m label e)).q x_near ≡ true)
  mine =
      into_half m e (label_bit m label e) y_near x_near [] within (first_has (axes_of m).i re d good_i) (first_has (axes_of m).q im d good_q)
      (named_bit m e label (point y_near x_near) [] nearest_named)

  no_less : (value : Bool) → i_cost + q_cost ≤ half_cost m e value 0 re im d
  no_less value =
      let half = half_axes m e value in
      let good = half_ladders m e value within in
      let on = from_half m e value (first_of half.i re d) (first_of half.q im d) [] within (first_has half.i re d good.0) (first_has half.q im d good.1) in
      omega (arith, named.of_i, named.of_q, least (axes_of m).i re d (first_of half.i re d) on.0, least (axes_of m).q im d (first_of half.q im d) on.1)

  own : half_cost m e (label_bit m label e) 0 re im d ≡ q_cost + i_cost
  own =
      let half = half_axes m e (label_bit m label e) in
      omega (arith, no_less (label_bit m label e), named.of_i, named.of_q, least half.i re d y_near mine.0, least half.q im d x_near mine.1)

-- a weight from the half with the nearest vector's value of the bit, and from the other one
pub weight_told : (m : Modulation) (e label : ℕ) (re im : ℤ) (d i_cost q_cost other : ℕ) (value : Bool) (w : ℤ) → e < bits_of m
    → IsNamed m label re im d i_cost q_cost → value ≡ label_bit m label e → half_cost m e (not (label_bit m label e)) 0 re im d ≡ other
    → w ≡ (if value then weight_of other (q_cost + i_cost) else weight_of (q_cost + i_cost) other)
    → w ≡ weight_of (half_cost m e false 0 re im d) (half_cost m e true 0 re im d)
weight_told m e label re im d i_cost q_cost other value w within named is is_other told =
    by (label_bit m label e) is is_other (own m e label re im d i_cost q_cost within named (i_ladder m) (q_ladder m))
  where
    by : (b : Bool) → value ≡ b → half_cost m e (not b) 0 re im d ≡ other → half_cost m e b 0 re im d ≡ q_cost + i_cost
        → w ≡ weight_of (half_cost m e false 0 re im d) (half_cost m e true 0 re im d)
    by true v o n = told ∙ ap (λ (b : Bool). if b then weight_of other (q_cost + i_cost) else weight_of (q_cost + i_cost) other) v
        ∙ ap (λ (k : ℕ). weight_of k (q_cost + i_cost)) (sym o) ∙ ap (weight_of (half_cost m e false 0 re im d)) (sym n)
    by false v o n = told ∙ ap (λ (b : Bool). if b then weight_of other (q_cost + i_cost) else weight_of (q_cost + i_cost) other) v
        ∙ ap (λ (k : ℕ). weight_of k other) (sym n) ∙ ap (weight_of (half_cost m e false 0 re im d)) (sym o)

-- the weight of one bit more is written
pub told_more : (W : ℕ → ℤ) (ws : List ℤ) (bit place : ℕ) (w v : ℤ) → place ≡ bit → bit < length ws → v ≡ w → w ≡ W bit
    → ((e : ℕ) → e < bit → get_or ws e (pos 0) ≡ W e) → (e : ℕ) → e < bit + 1 → get_or (set ws place v) e (pos 0) ≡ W e
told_more W ws bit place w v is lt passed told before e within = elim (below_next e bit within) [
  | inl less ↦ get_or-set_other ws place e v (pos 0) (λ same. omega (arith, less, same, is)) ∙ before e less
  | inr same ↦
      ap (λ (k : ℕ). get_or (set ws place v) k (pos 0)) (same ∙ sym is)
      ∙ get_or-set_same ws place v (pos 0) (subst (λ (k : ℕ). k < length ws) (sym is) lt) ∙ passed ∙ told ∙ ap W (sym same)
]

-- the other half's least distance is no less than the nearest one
pub other_above : (m : Modulation) (e label : ℕ) (re im : ℤ) (d i_cost q_cost other : ℕ) → e < bits_of m → IsNamed m label re im d i_cost q_cost
    → half_cost m e (not (label_bit m label e)) 0 re im d ≡ other → q_cost + i_cost ≤ other
other_above m e label re im d i_cost q_cost other within named is =
    omega (arith, is, no_less m e label re im d i_cost q_cost within named (i_ladder m) (q_ladder m) (not (label_bit m label e)))

module _ (m : Modulation) (job : JobView) (is_job : IsJob job) (full : job.grid ≡ replicate (length job.grid) (axes_of m)) (one : length job.system ≡ 1)
    (re im : ℤ) (d : ℕ) (first : IsFirst m (q_at job.system job.grid 0) (i_at job.system job.grid 0) [] re im d) where
  abbrev q : Real
  q = q_at job.system job.grid 0

  abbrev i : Real
  i = i_at job.system job.grid 0

  all : q ∷ i ∷ [] ≡ from_last job.system job.grid
  all = down_system job job.system 1 is_job refl (sym one)

  module _ (e : ℕ) (within : e < bits_of m) where
    upper : (value : Bool) → least_of m job is_job full 1 e value ≤ half_cost m e value 0 re im d
    upper value =
        let half = half_axes m e value in
        let good = half_ladders m e value within in
        let x = first_of half.q im d in
        let y = first_of half.i re d in
        let on = from_half m e value y x [] within (first_has half.i re d good.0) (first_has half.q im d good.1) in
        let v : Reached = (y ∷ x ∷ [], 0 + (at_cost im d x + at_cost re d y)) in
        let mine : Among (leaves (from_last job.system job.grid) [] 0) v =
        subst (λ (cs : List Real). Among (leaves cs [] 0) v) all (there m q i [] re im d 0 first x y on.1 on.0) in
        let lead = leads job.system job.grid v is_job.streams (leaf_path (from_last job.system job.grid) [] 0 v mine) in
        let points : points_from v.0 ≡ lead.vector = ap (λ (u : Reached). points_from u.0) lead.is ∙ points_back lead.vector in
        let told : has_bit m 1 e value lead.vector ≡ true = ap (has_bit m 1 e value) (sym points) ∙ on.2 in
        let far : v.1 ≡ distance_of job.system lead.vector = ap (λ (u : Reached). u.1) lead.is in
        omega (
          arith,
          far,
          not_nearer m job is_job full 1 e (omega arith) is_job.grid.some within value lead.vector lead.within told,
        )

    lower : (value : Bool) → half_cost m e value 0 re im d ≤ least_of m job is_job full 1 e value
    unfolding half_of
    lower value =
        let x = (near (half_of m 1 e value job.number job)).vector in
        let good = half_near m job is_job full 1 e (omega arith) is_job.grid.some within value in
        let parts = and_parts (is_in job.grid x) (has_bit m 1 e value x)
        (sym (in_half m job is_job full 1 e (omega arith) is_job.grid.some within value x) ∙ good.within) in
        let w : Reached = (levels_of x, distance_of job.system x) in
        let mine : Among (leaves (from_last job.system job.grid) [] 0) w =
        path_leaf (from_last job.system job.grid) [] 0 w (way_to job.system job.grid x is_job.streams parts.0) in
        let u = under m q i [] re im d 0 first w (subst (λ (cs : List Real). Among (leaves cs [] 0) w) (sym all) mine) in
        let told : has_bit m 1 e value (point u.y u.x ∷ []) ≡ true =
        sym (ap (λ (xs : List ℤ). has_bit m 1 e value (points_from xs)) u.levels_are) ∙ ap (has_bit m 1 e value) (points_back x) ∙ parts.1 in
        let half = into_half m e value u.y u.x [] within u.has_y u.has_x told in
        omega (arith, u.distance_is, least (half_axes m e value).q im d u.x half.1, least (half_axes m e value).i re d u.y half.0)

    half_least : (value : Bool) → least_of m job is_job full 1 e value ≡ half_cost m e value 0 re im d
    half_least value = omega (arith, upper value, lower value)

    weight_alone : weight_at m job 1 e ≡ weight_of (half_cost m e false 0 re im d) (half_cost m e true 0 re im d)
    unfolding weight_at
    weight_alone =
        ap (λ (n : ℕ). weight_of n (least_of m job is_job full 1 e true)) (half_least false)
        ∙ ap (weight_of (half_cost m e false 0 re im d)) (half_least true)

  -- the weights of the only stream's bits are those of the job
  pub weights_alone : (weights : List ℤ) → length weights ≡ bits_of m
      → ((e : ℕ) → e < bits_of m → slice_index_or weights e (pos 0) ≡ weight_of (half_cost m e false 0 re im d) (half_cost m e true 0 re im d))
      → AreWeights m job weights
  weights_alone weights size told = record {
    size = let single : length job.system * bits_of m ≡ bits_of m = ap (λ (n : ℕ). n * bits_of m) one ∙ omega arith in size ∙ sym single;
    each = λ stream e some last within.
        let is : stream ≡ 1 = omega (arith, some, last, one) in
        let at : (1 - 1) * bits_of m + e ≡ e = omega arith in
        subst (λ (s : ℕ). slice_index_or weights ((s - 1) * bits_of m + e) (pos 0) ≡ weight_at m job s e) (sym is)
        (ap (λ (k : ℕ). slice_index_or weights k (pos 0)) at ∙ told e within ∙ sym (weight_alone e within));
  }
