-- The least distances at the end, and the weights that they give.
use Rattle.std.proofs.Common.{◌≡◌, ◌⊎◌, ℕ, zero, suc, ◌+◌, ◌-◌, ◌*◌, ◌<◌, ◌≤◌, ℤ, pos, neg_ℤ, List, [], ◌∷◌, length, get_or, replicate, min, inl, inr, arith}
use Rattle.std.proofs.Common.{refl, ap, sym, ◌∙◌, subst}
use Rattle.std.proofs.Common.{Bool, true, false, true≢false, ◌&&◌, nat_eq, if◌then◌else◌, Option, Some, None, is_some}
use Rattle.std.specs.Prelude.{slice_index}
use Rattle.std.proofs.lemmas.Bool.{and_from, and_parts, cases_Bool, cases_lt, eqb-true}
use Rattle.std.proofs.lemmas.Bool.Decides.{nat_tests}
use Rattle.std.proofs.lemmas.List.{get_or_past, get_or-replicate, length-replicate}
use Rattle.std.proofs.lemmas.List.Elements.{All-set}
use Rattle.std.proofs.Math.ListN.{length-set}
use Rattle.ht_rate.specs.declared.kinds.Modulation.{Modulation}
use Rattle.ht_rate.specs.declared.kinds.Modulation.TheVariants.{Bpsk, Qpsk, Qam16, Qam64}
use Rattle.ht_rate.specs.Schemes.{bits_of}
use Rattle.ht_map.specs.Gray.{label_bit, label_of}
use Rattle.ht_map.specs.Constellation.{axes_of}
use Rattle.ht_map.proofs.LabelFacts.{is_some-label_of}
use Rattle.ht_pam.specs.Ladders.{has}
use Rattle.ht_pam.specs.Grids.{AreLadders, IsGrid}
use Rattle.ht_pam.specs.declared.axes.Axes.{Axes}
use Rattle.ht_pam.specs.declared.point.Point.{Point}
use Rattle.ht_metric.specs.Distance.{distance_of}
use Rattle.ht_metric.specs.Vectors.{is_in, levels_of, no_point}
use Rattle.ht_metric.specs.Jobs.{JobView, IsJob, IsNear, near}
use Rattle.ht_metric.proofs.Finding.{is_near}
use Rattle.ht_sphere.specs.Coordinates.{Real, first_of, from_last, i_at, points_from, q_at}
use Rattle.ht_sphere.specs.Tree.{Reached}
use Rattle.ht_sphere.specs.Searching.{leaves, Among}
use Rattle.ht_sphere.proofs.Down.{down_system}
use Rattle.ht_sphere.proofs.Finding.{points_back}
use Rattle.ht_sphere.proofs.Paths.{leaf_path, path_leaf}
use Rattle.ht_sphere.proofs.Rows.{leads, way_to}
use Rattle.ht_soft.specs.Halves.{has_bit, label_has, half_axes, half_of, half_grid_of, is}
use Rattle.ht_soft.specs.Weights.{heaviest, weight_of, weight_at}
use Rattle.ht_soft.proofs.Cuts.{half-vectors}
use Rattle.ht_soft.proofs.Signs.{weight-less, weight-more}
use Rattle.ht_weigh.specs.Leasts.{IsLowered, place_of, side}
use Rattle.ht_weigh.specs.Walks.{Tells, first_cost}
use Rattle.ht_weigh.proofs.Labels.{few-bits}
use Rattle.ht_weigh.proofs.Leaf.{IsFirst, half_ladders, no_label, none_nearer, one_there}

-- the halves of the bits stand apart
sides_apart : (a b : ℕ) (v w : Bool) → 2 * a + side v ≡ 2 * b + side w → (a ≡ b) × (v ≡ w)
sides_apart a b true true e = (omega arith, refl)
sides_apart a b true false e = absurd (omega arith)
sides_apart a b false true e = absurd (omega arith)
sides_apart a b false false e = (omega arith, refl)

bits_apart : (m : Modulation) (k j e f : ℕ) → e < bits_of m → f < bits_of m → k * bits_of m + e ≡ j * bits_of m + f → (k ≡ j) × (e ≡ f)
bits_apart Bpsk k j e f p q same = (omega arith, omega arith)
bits_apart Qpsk k j e f p q same = (omega arith, omega arith)
bits_apart Qam16 k j e f p q same = (omega arith, omega arith)
bits_apart Qam64 k j e f p q same = (omega arith, omega arith)

-- a bit of one of four streams stands among 24
pub bit_within : (m : Modulation) (k e n : ℕ) → e < bits_of m → k < n → k * bits_of m + e < n * bits_of m
bit_within Bpsk k e n p q = omega arith
bit_within Qpsk k e n p q = omega arith
bit_within Qam16 k e n p q = omega arith
bit_within Qam64 k e n p q = omega arith

pub bits_within : (m : Modulation) (n : ℕ) → n ≤ 4 → n * bits_of m ≤ 24
bits_within Bpsk n p = omega arith
bits_within Qpsk n p = omega arith
bits_within Qam16 n p = omega arith
bits_within Qam64 n p = omega arith

-- a stream that isn't there has no bit
bit_there : (m : Modulation) (stream e : ℕ) (value : Bool) (x : List Point) → has_bit m stream e value x ≡ true → 1 ≤ stream → stream ≤ length x
unfolding has_bit
bit_there m stream e value x told some = elim (cases_lt (length x) stream) [
  | inl past ↦
      let none : get_or x (stream - 1) no_point ≡ no_point = get_or_past x (stream - 1) no_point (omega arith) in
      absurd (true≢false (sym told ∙ ap (λ (p : Point). label_has m e value (label_of m p)) none ∙ ap (label_has m e value) (no_label m)))
  | inr there ↦ there
]

on_stream : (a : Axes) (n k : ℕ) (x : List Point) → is_in (replicate n a) x ≡ true → k < n
    → (has a.i (get_or x k no_point).i && has a.q (get_or x k no_point).q) ≡ true
on_stream a zero k x h lt = absurd (omega arith)
on_stream a (suc n) k [] h lt = absurd (true≢false (sym h))
on_stream a (suc n) zero (p ∷ x) h lt = (and_parts (has a.i p.i && has a.q p.q) (is_in (replicate n a) x) h).0
on_stream a (suc n) (suc k) (p ∷ x) h lt = on_stream a n k x (and_parts (has a.i p.i && has a.q p.q) (is_in (replicate n a) x) h).1 (omega arith)

is-self : (b : Bool) → is b b ≡ true
is-self true = refl
is-self false = refl

-- a point of the constellation has either value
record Bit (m : Modulation) (stream e : ℕ) (x : List Point) : Type 0 where
  pub value : Bool
  pub told : has_bit m stream e value x ≡ true

has_either : (m : Modulation) (stream e : ℕ) (x : List Point) → is_some (label_of m (get_or x (stream - 1) no_point)) ≡ true → Bit m stream e x
unfolding has_bit
has_either m stream e x some = by (label_of m (get_or x (stream - 1) no_point)) refl some
  where
    by : (o : Option ℕ) → label_of m (get_or x (stream - 1) no_point) ≡ o → is_some o ≡ true → Bit m stream e x
    by None at h = absurd (true≢false (sym h))
    by (Some label) at h = record {
      value = label_bit m label e;
      told = ap (label_has m e (label_bit m label e)) at ∙ is-self (label_bit m label e);
    }

is_in-length : (grid : List Axes) (x : List Point) → is_in grid x ≡ true → length x ≡ length grid
is_in-length [] [] h = refl
is_in-length [] (p ∷ x) h = absurd (true≢false (sym h))
is_in-length (a ∷ grid) [] h = absurd (true≢false (sym h))
is_in-length (a ∷ grid) (p ∷ x) h = ap suc (is_in-length grid x (and_parts (has a.i p.i && has a.q p.q) (is_in grid x) h).1)

-- a weight from distances that count no further than the clip
pub clipped : (zero one clip a b : ℕ) → a ≡ min zero clip → b ≡ min one clip → (zero + 65535 ≤ clip) ⊎ (one + 65535 ≤ clip)
    → weight_of a b ≡ weight_of zero one
clipped z o clip a b is_a is_b near = elim near [
  | inl low ↦ elim (cases_lt clip o) [
    | inl far ↦
        let sizes : min (b - a) heaviest ≡ min (o - z) heaviest = omega arith in
        weight-less a b (omega arith) ∙ ap (λ (n : ℕ). neg_ℤ (pos n)) sizes ∙ sym (weight-less z o (omega arith))
    | inr within ↦ let e : a ≡ z = omega arith in let f : b ≡ o = omega arith in ap (λ (n : ℕ). weight_of n b) e ∙ ap (weight_of z) f
  ]
  | inr low ↦ elim (cases_lt clip z) [
    | inl far ↦
        let sizes : min (a - b) heaviest ≡ min (z - o) heaviest = omega arith in
        weight-more a b (omega arith) ∙ ap pos sizes ∙ sym (weight-more z o (omega arith))
    | inr within ↦ let e : a ≡ z = omega arith in let f : b ≡ o = omega arith in ap (λ (n : ℕ). weight_of n b) e ∙ ap (weight_of z) f
  ]
]

-- the least distance on one stream
pub alone_least : (m : Modulation) (job : JobView) (is_job : IsJob job) → length job.system ≡ 1 → (re im : ℤ) (d : ℕ)
    → IsFirst m (q_at job.system job.grid 0) (i_at job.system job.grid 0) [] re im d
    → (near job).distance ≡ first_cost (axes_of m).q im d + first_cost (axes_of m).i re d
alone_least m job is_job one re im d first =
    let q = q_at job.system job.grid 0 in
    let i = i_at job.system job.grid 0 in
    let all : q ∷ i ∷ [] ≡ from_last job.system job.grid = down_system job job.system 1 is_job refl (sym one) in
    let nearest = is_near job is_job.grid in
    let v : Reached = (
      first_of (axes_of m).i re d ∷ first_of (axes_of m).q im d ∷ [],
      0 + (first_cost (axes_of m).q im d + first_cost (axes_of m).i re d),
    ) in
    let there : Among (leaves (from_last job.system job.grid) [] 0) v =
    subst (λ (cs : List Real). Among (leaves cs [] 0) v) all (one_there m q i [] re im d 0 first) in
    let lead = leads job.system job.grid v is_job.streams (leaf_path (from_last job.system job.grid) [] 0 v there) in
    let far : v.1 ≡ distance_of job.system lead.vector = ap (λ (u : Reached). u.1) lead.is in
    let upper = nearest.nearest lead.vector lead.within in
    let x = (near job).vector in
    let w : Reached = (levels_of x, distance_of job.system x) in
    let mine : Among (leaves (from_last job.system job.grid) [] 0) w =
    path_leaf (from_last job.system job.grid) [] 0 w (way_to job.system job.grid x is_job.streams nearest.within) in
    let lower = none_nearer m q i [] re im d 0 first w (subst (λ (cs : List Real). Among (leaves cs [] 0) w) (sym all) mine) in
    omega (arith, upper, far, lower)

module _ (m : Modulation) (job : JobView) (is_job : IsJob job) (full : job.grid ≡ replicate (length job.grid) (axes_of m)) where
  abbrev half : ℕ → ℕ → Bool → JobView
  half stream e value = half_of m stream e value job.number job

  -- the least distance of a half
  abbrev pub least_of : ℕ → ℕ → Bool → ℕ
  least_of stream e value = (near (half stream e value)).distance

  module _ (stream e : ℕ) (first : 1 ≤ stream) (last : stream ≤ length job.grid) (within : e < bits_of m) where
    good_grid : (value : Bool) → IsGrid (half_grid_of m stream e value job.grid)
    good_grid value =
        let long = length-set job.grid (stream - 1) (half_axes m e value) in
        let ladders = half_ladders m e value within in
        record {
          some = omega (arith, long, is_job.grid.some);
          few = omega (arith, long, is_job.grid.few);
          ladders = All-set AreLadders job.grid (stream - 1) (half_axes m e value) record { i = ladders.0; q = ladders.1 } is_job.grid.ladders;
        }

    pub half_near : (value : Bool) → IsNear (half stream e value) (near (half stream e value)).vector
    unfolding half_of
    half_near value = is_near (half stream e value) (good_grid value)

    pub in_half : (value : Bool) (x : List Point) → is_in (half stream e value).grid x ≡ (is_in job.grid x && has_bit m stream e value x)
    unfolding half_of
    in_half value x = half-vectors m stream e value job.grid (half_grid_of m stream e value job.grid) x full first last within refl

    -- no vector with the bit is nearer
    pub not_nearer : (value : Bool) (x : List Point) → is_in job.grid x ≡ true → has_bit m stream e value x ≡ true
        → least_of stream e value ≤ distance_of job.system x
    unfolding half_of
    not_nearer value x on told = (half_near value).nearest x (in_half value x ∙ and_from (is_in job.grid x) (has_bit m stream e value x) on told)

    -- the nearest one of the job is in one of the halves
    record IsEither (least : ℕ) : Type 0 where
      pub value : Bool
      pub less : least_of stream e value ≤ least

    in_either : IsEither (near job).distance
    in_either =
        let x = (near job).vector in
        let on : is_in job.grid x ≡ true = (is_near job is_job.grid).within in
        let mine : is_in (replicate (length job.grid) (axes_of m)) x ≡ true = subst (λ (g : List Axes). is_in g x ≡ true) full on in
        let bit = has_either m stream e x
        (is_some-label_of m (get_or x (stream - 1) no_point) ∙ on_stream (axes_of m) (length job.grid) (stream - 1) x mine (omega arith)) in
        record { value = bit.value; less = not_nearer bit.value x on bit.told }

    module _ (clip : ℕ) (new : List ℕ) (walked : IsLowered (Tells m (leaves (from_last job.system job.grid) [] 0)) (replicate 48 clip) new) where
      place_within : (value : Bool) → place_of m stream e value < 48
      place_within true = let few = few-bits m (stream - 1) (omega (arith, is_job.grid.few)) in omega arith
      place_within false = let few = few-bits m (stream - 1) (omega (arith, is_job.grid.few)) in omega arith

      at_clip : (j : ℕ) → j < 48 → slice_index (replicate 48 clip) j ≡ clip
      at_clip j lt = get_or-replicate 48 j clip 0 lt

      -- it isn't above the least distance of the half, and not above the clip
      upper : (value : Bool) → slice_index new (place_of m stream e value) ≤ least_of stream e value
      unfolding half_of
      upper value =
          let x = (near (half stream e value)).vector in
          let parts = and_parts (is_in job.grid x) (has_bit m stream e value x) (sym (in_half value x) ∙ (half_near value).within) in
          let v : Reached = (levels_of x, distance_of job.system x) in
          walked.low (place_of m stream e value) (least_of stream e value) record {
            vector = v;
            stream = stream;
            bit = e;
            value = value;
            among = path_leaf (from_last job.system job.grid) [] 0 v (way_to job.system job.grid x is_job.streams parts.0);
            first = first;
            within = within;
            has = ap (has_bit m stream e value) (points_back x) ∙ parts.1;
            place = refl;
            distance = refl;
          }

      upper_clip : (value : Bool) → slice_index new (place_of m stream e value) ≤ clip
      upper_clip value = omega (arith, walked.falls (place_of m stream e value), at_clip (place_of m stream e value) (place_within value))

      -- and not below both
      abbrev bound : Bool → ℕ → ℕ
      bound value j = if nat_eq j (place_of m stream e value) then min (least_of stream e value) clip else 0

      bound_at : (value : Bool) (j n : ℕ) → (j ≡ place_of m stream e value → min (least_of stream e value) clip ≤ n) → bound value j ≤ n
      bound_at value j n there = elim (cases_Bool (nat_eq j (place_of m stream e value))) [
        | inl same ↦ rw same (there (eqb-true j (place_of m stream e value) same))
        | inr other ↦ rw other (omega arith)
      ]

      bound_here : (value : Bool) → bound value (place_of m stream e value) ≡ min (least_of stream e value) clip
      bound_here value =
          let at = place_of m stream e value in
          let same : nat_eq at at ≡ true = grind (arith, nat_tests) in
          rw same refl

      heard : (value : Bool) (j n : ℕ) → Tells m (leaves (from_last job.system job.grid) [] 0) j n → j ≡ place_of m stream e value
          → min (least_of stream e value) clip ≤ n
      heard value j n h at =
          let lead = leads job.system job.grid h.vector is_job.streams (leaf_path (from_last job.system job.grid) [] 0 h.vector h.among) in
          let x = lead.vector in
          let points : points_from h.vector.0 ≡ x = ap (λ (u : Reached). points_from u.0) lead.is ∙ points_back x in
          let told : has_bit m h.stream h.bit h.value x ≡ true = ap (has_bit m h.stream h.bit h.value) (sym points) ∙ h.has in
          let both = sides_apart ((h.stream - 1) * bits_of m + h.bit) ((stream - 1) * bits_of m + e) h.value value (sym h.place ∙ at) in
          let bits = bits_apart m (h.stream - 1) (stream - 1) h.bit e h.within within both.0 in
          let streams : h.stream ≡ stream = omega (arith, bits.0, h.first, first) in
          let mine : has_bit m stream e value x ≡ true =
          ap (λ (k : ℕ). has_bit m k e value x) (sym streams) ∙ ap (λ (k : ℕ). has_bit m h.stream k value x) (sym bits.1)
          ∙ ap (λ (v : Bool). has_bit m h.stream h.bit v x) (sym both.1) ∙ told in
          let far : h.vector.1 ≡ distance_of job.system x = ap (λ (u : Reached). u.1) lead.is in
          omega (arith, not_nearer value x lead.within mine, h.distance, far)

      lower : (value : Bool) → min (least_of stream e value) clip ≤ slice_index new (place_of m stream e value)
      lower value =
          let at = place_of m stream e value in
          let long : length (replicate 48 clip) ≡ 48 = length-replicate 48 clip in
          let all = walked.sound (bound value)
          (λ j there. bound_at value j (slice_index (replicate 48 clip) j) (λ same. omega (arith, at_clip j (omega (arith, there, long)))))
          (λ j n h. bound_at value j n (heard value j n h)) at (omega (arith, place_within value, long)) in
          omega (arith, all, bound_here value)

      exact : (value : Bool) → slice_index new (place_of m stream e value) ≡ min (least_of stream e value) clip
      exact value = omega (arith, lower value, upper value, upper_clip value)

      near_one : (near job).distance + 65535 ≤ clip → (least_of stream e false + 65535 ≤ clip) ⊎ (least_of stream e true + 65535 ≤ clip)
      near_one enough = by in_either.value in_either.less
        where
          by : (value : Bool) → least_of stream e value ≤ (near job).distance
              → (least_of stream e false + 65535 ≤ clip) ⊎ (least_of stream e true + 65535 ≤ clip)
          by true le = inr (omega arith)
          by false le = inl (omega arith)

      -- so it gives the weight
      pub weight_is : (near job).distance + 65535 ≤ clip → (zero one : ℕ) → zero ≡ place_of m stream e false → one ≡ place_of m stream e true
          → weight_of (slice_index new zero) (slice_index new one) ≡ weight_at m job stream e
      unfolding weight_at
      weight_is enough z o is_z is_o =
          clipped (least_of stream e false) (least_of stream e true) clip (slice_index new z) (slice_index new o)
          (ap (slice_index new) is_z ∙ exact false) (ap (slice_index new) is_o ∙ exact true) (near_one enough)
