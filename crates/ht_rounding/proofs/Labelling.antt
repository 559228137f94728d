-- The labels of levels in lanes.
use Rattle.std.proofs.Common.{◌≡◌, ℕ, zero, suc, ◌+◌, ◌-◌, ◌*◌, ◌/◌, ◌%◌, ◌^◌, ◌<◌, ◌≤◌, ℤ, List, [], ◌∷◌, Option, Some, false, true, ◌&&◌, arith, refl, ap}
use Rattle.std.proofs.Common.{subst, sym, ◌∙◌}
use Rattle.std.specs.Prelude.{bit_xor, map, replicate, slice_index, unwrap_or}
use Rattle.std.specs.Int.{cast_signed, cast_unsigned, w32}
use Rattle.std.proofs.lemmas.Bool.{and_parts, both_ways}
use Rattle.std.proofs.lemmas.Int.{of_z-to_z}
use Rattle.std.proofs.Math.Nat.{mul-le-mul}
use Rattle.ht_map.specs.Gray.{bits_at, joined, label_of}
use Rattle.ht_rate.specs.declared.kinds.Modulation.{Modulation}
use Rattle.ht_rate.specs.declared.kinds.Modulation.TheVariants.{Bpsk, Qpsk, Qam16, Qam64}
use Rattle.ht_pam.specs.Ladders.{has, level}
use Rattle.ht_pam.specs.declared.point.Point.{Point}
use Rattle.ht_metric.specs.Vectors.{is_in}
use Rattle.ht_metric.specs.Jobs.{JobView, IsJob, IsNear, near}
use Rattle.ht_metric.specs.declared.found.Found.{Found}
use Rattle.ht_pam.specs.declared.axes.Axes.{Axes}
use Rattle.ht_metric.proofs.Finding.{is_near}
use Rattle.ht_rounding.specs.declared.levels.Levels.{Levels}
use Rattle.ht_rounding.specs.declared.levels.Levels.TheVariants.{One, Two, Four, Eight}
use Rattle.ht_rounding.specs.declared.eight.Eight.{Eight as EightLanes}
use Rattle.ht_rounding.specs.declared.eight.Labelled.{Labelled}
use Rattle.ht_rounding.specs.InLanes.{Finds, IsInLane, axes_of}
use Rattle.ht_rounding.specs.Labels.{HasJob, IsLabelled, IsNamed, NamedBy, axis_of, i_levels, label_by, labels_in, q_levels}
use Rattle.ht_rounding.specs.Proposals.{IsLevel, full, size_of}
use Rattle.ht_rounding.specs.Words.{lesser}
use Rattle.ht_rounding.proofs.Rooms.{among, lesser-left, lesser-right}

-- the Gray code of the level in a lane, where the levels reach from minus this number to this number
abbrev gray_of : ℕ → ℕ → ℕ
gray_of n x = bit_xor (((n + x) % 2 ^ 32) / 2) ((((n + x) % 2 ^ 32) / 2) / 2)

named_at : (l : Levels) (n x g b : ℕ) (v : ℤ) → x < 2 ^ 32 → cast_signed w32 x ≡ v → g ≡ gray_of n x → gray_of n (cast_unsigned w32 v) ≡ b
    → bits_at (axis_of l) v ≡ Some b → b < 8 → NamedBy l x g
named_at l n x g b v lt e eg code named few =
    let is : x ≡ cast_unsigned w32 v = sym (of_z-to_z w32 x lt) ∙ ap (cast_unsigned w32) e in
    let same : g ≡ b = eg ∙ ap (gray_of n) is ∙ code in
    record {
      is = ap (λ (z : ℤ). bits_at (axis_of l) z) e ∙ named ∙ ap Some (sym same);
      few = omega (arith, same, few);
    }

by_level : (l : Levels) (x g : ℕ) → x < 2 ^ 32 → g ≡ gray_of (size_of l - 1) x → IsNamed l x g
unfolding bits_at
by_level One x g lt eg (zero, within, e) = named_at One 0 x g 0 (level 1 0) lt e eg refl refl (omega arith)
by_level One x g lt eg (suc j, within, e) = absurd (omega (arith, within))
by_level Two x g lt eg (zero, within, e) = named_at Two 1 x g 0 (level 2 0) lt e eg refl refl (omega arith)
by_level Two x g lt eg (suc zero, within, e) = named_at Two 1 x g 1 (level 2 1) lt e eg refl refl (omega arith)
by_level Two x g lt eg (suc (suc j), within, e) = absurd (omega (arith, within))
by_level Four x g lt eg (zero, within, e) = named_at Four 3 x g 0 (level 4 0) lt e eg refl refl (omega arith)
by_level Four x g lt eg (suc zero, within, e) = named_at Four 3 x g 1 (level 4 1) lt e eg refl refl (omega arith)
by_level Four x g lt eg (suc (suc zero), within, e) = named_at Four 3 x g 3 (level 4 2) lt e eg refl refl (omega arith)
by_level Four x g lt eg (suc (suc (suc zero)), within, e) = named_at Four 3 x g 2 (level 4 3) lt e eg refl refl (omega arith)
by_level Four x g lt eg (suc (suc (suc (suc j))), within, e) = absurd (omega (arith, within))
by_level Eight x g lt eg (zero, within, e) = named_at Eight 7 x g 0 (level 8 0) lt e eg refl refl (omega arith)
by_level Eight x g lt eg (suc zero, within, e) = named_at Eight 7 x g 1 (level 8 1) lt e eg refl refl (omega arith)
by_level Eight x g lt eg (suc (suc zero), within, e) = named_at Eight 7 x g 3 (level 8 2) lt e eg refl refl (omega arith)
by_level Eight x g lt eg (suc (suc (suc zero)), within, e) = named_at Eight 7 x g 2 (level 8 3) lt e eg refl refl (omega arith)
by_level Eight x g lt eg (suc (suc (suc (suc zero))), within, e) = named_at Eight 7 x g 6 (level 8 4) lt e eg refl refl (omega arith)
by_level Eight x g lt eg (suc (suc (suc (suc (suc zero)))), within, e) = named_at Eight 7 x g 7 (level 8 5) lt e eg refl refl (omega arith)
by_level Eight x g lt eg (suc (suc (suc (suc (suc (suc zero))))), within, e) = named_at Eight 7 x g 5 (level 8 6) lt e eg refl refl (omega arith)
by_level Eight x g lt eg (suc (suc (suc (suc (suc (suc (suc zero)))))), within, e) = named_at Eight 7 x g 4 (level 8 7) lt e eg refl refl (omega arith)
by_level Eight x g lt eg (suc (suc (suc (suc (suc (suc (suc (suc j))))))), within, e) = absurd (omega (arith, within))

pub named : (l : Levels) (x n r p h g : ℕ) → x < 2 ^ 32 → n ≡ size_of l → r ≡ (n - 1 + x) % 2 ^ 32 → p ≡ r / 2 → h ≡ p / 2 → g ≡ bit_xor p h → IsNamed l x g
named l x n r p h g lt en er ep eh eg = by_level l x g lt
    (eg ∙ ap (λ (m : ℕ). bit_xor p m) eh ∙ ap (λ (m : ℕ). bit_xor m (m / 2)) (ep ∙ ap (λ (m : ℕ). m / 2) (er ∙ ap (λ (m : ℕ). (m - 1 + x) % 2 ^ 32) en)))

few_levels : (l : Levels) → size_of l ≤ 8
few_levels One = omega arith
few_levels Two = omega arith
few_levels Four = omega arith
few_levels Eight = omega arith

product_few : (a n : ℕ) → a < 8 → n ≤ 8 → a * n ≤ 56
product_few a n few small = let b : a ≤ 7 = omega (arith, few) in mul-le-mul b small

-- the bits of I, and behind them those of Q
pub labelled : (i q : Levels) (x y a b n m r : ℕ) → NamedBy i x a → NamedBy q y b → n ≡ size_of q → m ≡ (a * n) % 2 ^ 32 → r ≡ (m + b) % 2 ^ 32
    → joined (size_of q) (bits_at (axis_of i) (cast_signed w32 x)) (bits_at (axis_of q) (cast_signed w32 y)) ≡ Some (r % 256)
labelled i q x y a b n m r na nb en em er =
    let most = product_few a n na.few (omega (arith, en, few_levels q)) in
    let few = nb.few in
    let sum : a * size_of q + b ≡ r % 256 = ap (λ (k : ℕ). a * k + b) (sym en) ∙ omega (arith, em, er, most, few) in
    ap (λ o. joined (size_of q) o (bits_at (axis_of q) (cast_signed w32 y))) na.is ∙ ap (λ o. joined (size_of q) (Some a) o) nb.is ∙ ap Some sum

-- each point has such levels
abbrev pub HaveLevels : Levels → Levels → List Point → Type 0
HaveLevels i q [] = Unit {0}
HaveLevels i q (p ∷ ps) = (IsLevel (size_of i) p.i × IsLevel (size_of q) p.q) × HaveLevels i q ps

in_grid : (i q : Levels) (n : ℕ) (ps : List Point) → is_in (replicate n (axes_of i q)) ps ≡ true → HaveLevels i q ps
in_grid i q zero [] h = tt
in_grid i q zero (p ∷ ps) h = absurd (both_ways false refl h)
in_grid i q (suc n) [] h = absurd (both_ways false refl h)
in_grid i q (suc n) (p ∷ ps) h =
    let both = and_parts (has (full i) p.i && has (full q) p.q) (is_in (replicate n (axes_of i q)) ps) h in
    let parts = and_parts (has (full i) p.i) (has (full q) p.q) both.0 in
    ((among i p.i parts.0, among q p.q parts.1), in_grid i q n ps both.1)

levels_found : (i q : Levels) (n : ℕ) (job : JobView) (ps : List Point) (rho : ℕ) → IsJob job → job.grid ≡ replicate n (axes_of i q)
    → near job ≡ record { vector = ps; distance = rho } → HaveLevels i q ps
levels_found i q n job ps rho valid grid found =
    let first : IsNear job (near job).vector = is_near job valid.grid in
    let within : is_in job.grid ps ≡ true = ap (λ (f : Found). is_in job.grid f.vector) (sym found) ∙ first.within in
    in_grid i q n ps (ap (λ (g : List Axes). is_in g ps) (sym grid) ∙ within)

-- a lane whose points are the first nearest vector is labelled
pub lane_labelled : (i q : Levels) (eight : EightLanes) (r : Labelled) (k n spare sure : ℕ) (job : JobView) (ps : List Point) (rho : ℕ)
    → sure ≡ lesser spare (slice_index eight.plain k) → 0 < sure → HasJob i q eight n k job
    → (0 < spare → IsInLane i q eight.channel eight.samples k n job → Finds ps rho job)
    → slice_index r.distance k ≡ rho → (HaveLevels i q ps → map (label_by i q) ps ≡ labels_in r k) → IsLabelled (label_by i q) r k job
lane_labelled i q eight r k n spare sure job ps rho es some has finds far labels =
    let plain : 0 < slice_index eight.plain k = omega (arith, es, some, lesser-right spare (slice_index eight.plain k)) in
    let left : 0 < spare = omega (arith, es, some, lesser-left spare (slice_index eight.plain k)) in
    let here = has plain in
    let found = finds left here in
    record {
      distance = far ∙ sym (ap (λ (f : Found). f.distance) found.near);
      labels = ap (λ (f : Found). map (label_by i q) f.vector) found.near ∙ labels (levels_found i q n job ps rho here.valid here.grid found.near);
    }

-- one label more in front
label_more : (i q : Levels) (p : Point) (ps : List Point) (l : ℕ) (ls : List ℕ)
    → joined (size_of q) (bits_at (axis_of i) p.i) (bits_at (axis_of q) p.q) ≡ Some l → map (label_by i q) ps ≡ ls
    → map (label_by i q) (p ∷ ps) ≡ l ∷ ls
label_more i q p ps l ls e f = ap (λ (n : ℕ). n ∷ map (label_by i q) ps) (ap (λ (o : Option ℕ). unwrap_or o 0) e) ∙ ap (λ (ms : List ℕ). l ∷ ms) f

-- a label is that of a point with levels
abbrev pub Labels : Levels → Levels → Point → ℕ → Type 0
Labels i q p l = IsLevel (size_of i) p.i → IsLevel (size_of q) p.q → joined (size_of q) (bits_at (axis_of i) p.i) (bits_at (axis_of q) p.q) ≡ Some l

pub of_one : (i q : Levels) (a : Point) (la : ℕ) → Labels i q a la → HaveLevels i q (a ∷ []) → map (label_by i q) (a ∷ []) ≡ la ∷ []
of_one i q a la na h = label_more i q a [] la [] (na h.0.0 h.0.1) refl

pub of_two : (i q : Levels) (a b : Point) (la lb : ℕ) → Labels i q a la → Labels i q b lb → HaveLevels i q (a ∷ b ∷ [])
    → map (label_by i q) (a ∷ b ∷ []) ≡ la ∷ lb ∷ []
of_two i q a b la lb na nb h = label_more i q a (b ∷ []) la (lb ∷ []) (na h.0.0 h.0.1) (of_one i q b lb nb h.1)

pub of_three : (i q : Levels) (a b c : Point) (la lb lc : ℕ) → Labels i q a la → Labels i q b lb → Labels i q c lc → HaveLevels i q (a ∷ b ∷ c ∷ [])
    → map (label_by i q) (a ∷ b ∷ c ∷ []) ≡ la ∷ lb ∷ lc ∷ []
of_three i q a b c la lb lc na nb nc h = label_more i q a (b ∷ c ∷ []) la (lb ∷ lc ∷ []) (na h.0.0 h.0.1) (of_two i q b c lb lc nb nc h.1)

pub of_four : (i q : Levels) (a b c d : Point) (la lb lc ld : ℕ) → Labels i q a la → Labels i q b lb → Labels i q c lc → Labels i q d ld
    → HaveLevels i q (a ∷ b ∷ c ∷ d ∷ []) → map (label_by i q) (a ∷ b ∷ c ∷ d ∷ []) ≡ la ∷ lb ∷ lc ∷ ld ∷ []
of_four i q a b c d la lb lc ld na nb nc nd h =
    label_more i q a (b ∷ c ∷ d ∷ []) la (lb ∷ lc ∷ ld ∷ []) (na h.0.0 h.0.1) (of_three i q b c d lb lc ld nb nc nd h.1)

-- the labels by the levels of a constellation are those of its points
same_labels : (m : Modulation) (r : Labelled) (k : ℕ) (job : JobView) → IsLabelled (label_by (i_levels m) (q_levels m)) r k job
    → IsLabelled (λ p. unwrap_or (label_of m p) 0) r k job
unfolding label_of
same_labels Bpsk r k job is = record { distance = is.distance; labels = is.labels }
same_labels Qpsk r k job is = record { distance = is.distance; labels = is.labels }
same_labels Qam16 r k job is = record { distance = is.distance; labels = is.labels }
same_labels Qam64 r k job is = record { distance = is.distance; labels = is.labels }

pub for_modulation : (m x : Modulation) (eight : EightLanes) (n : ℕ) (r : Labelled) (k : ℕ) (job : JobView) → m ≡ x
    → (HasJob (i_levels x) (q_levels x) eight n k job → IsLabelled (label_by (i_levels x) (q_levels x)) r k job)
    → HasJob (i_levels m) (q_levels m) eight n k job → IsLabelled (λ p. unwrap_or (label_of m p) 0) r k job
for_modulation m x eight n r k job is labels has = same_labels m r k job
    (subst (λ (y : Modulation). HasJob (i_levels y) (q_levels y) eight n k job → IsLabelled (label_by (i_levels y) (q_levels y)) r k job) (sym is) labels has)
