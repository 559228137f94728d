-- Grids and systems of jobs.
use Rattle.std.proofs.Common.{◌≡◌, ℕ, zero, suc, ◌+◌, ◌-◌, ◌≤◌, ℤ, List, [], ◌∷◌, ◌++◌, length, take}
use Rattle.std.proofs.Common.{drop, replicate, map, refl, sym, ap, ◌∙◌, arith, w8, to_z, of_z, FitsSigned}
use Rattle.std.proofs.lemmas.Int.{to_z-of_z}
use Rattle.std.proofs.lemmas.List.{length_push}
use Rattle.std.specs.List.{range_with_len}
use Rattle.std.proofs.lemmas.List.FromFn.{length-map-range_with_len, map-range_with_len_more}
use Rattle.std.proofs.Math.Seq.{take-append_seam}
use Rattle.ht_rate.specs.declared.rates.Rate.{Rate}
use Rattle.ht_rate.specs.Rates.{streams_of}
use Rattle.ht_pam.specs.declared.axes.Axes.{Axes}
use Rattle.ht_map.specs.Constellation.{grid_of}
use Rattle.ht_metric.specs.declared.sample.Sample.{Sample}
use Rattle.ht_pam.specs.Ladders.{Rungs}
use Rattle.ht_metric.specs.Jobs.{JobView}
use Rattle.ht_metric.specs.Rows.{Leg, Row, rows_of, no_sample}
use Rattle.ht_capture.specs.declared.items.FrameHead.{FrameHead}
use Rattle.ht_capture.specs.declared.places.Present.{Present}
use Rattle.ht_capture.specs.Frames.{pilot_grid, grid_at, one_point, job_at}
use Rattle.ht_capture.specs.Numbers.{sample_at}
use Rattle.ht_capture.specs.Systems.{legs_at, triangle_of, triangle_octets, samples_at}

pub ones : (len m : ℕ) → len ≡ m → 1 ≤ len → len ≡ (m - 1) + 1
ones len m e some = omega arith

length_replicate : {A : Type 0} (n : ℕ) (x : A) → length (replicate n x) ≡ n
length_replicate zero x = refl
length_replicate (suc n) x = ap suc (length_replicate n x)

pub length-grid_of : (rate : Rate) (grid : List Axes) → grid ≡ grid_of rate → length grid ≡ streams_of rate
unfolding grid_of
length-grid_of rate grid is = ap (λ (g : List Axes). length g) is ∙ length_replicate (streams_of rate) _

pub length-pilot_grid : (rate : Rate) (symbol pilot : ℕ) (grid : List Axes) → grid ≡ pilot_grid rate symbol pilot → length grid ≡ streams_of rate
unfolding pilot_grid
length-pilot_grid rate symbol pilot grid is = ap (λ (g : List Axes). length g) is ∙ length-map-range_with_len _ 1 (streams_of rate)

pub length-legs_at : (n : ℕ) (octets : List ℕ) (at : ℕ) → length (legs_at n octets at) ≡ n
length-legs_at zero octets at = refl
length-legs_at (suc n) octets at = ap suc (length-legs_at n octets _)

pub length-triangle_of : (n : ℕ) (octets : List ℕ) (legs : List Leg) → legs ≡ triangle_of n octets → length legs ≡ n
unfolding triangle_of
length-triangle_of n octets legs is = ap (λ (g : List Leg). length g) is ∙ length-legs_at n octets 0

-- behind the samples of this many rows stand those that fill the array
pub drop-samples_at : (n : ℕ) (octets : List ℕ) (at : ℕ) (more : List Sample) → drop n (samples_at n octets at ++ more) ≡ more
drop-samples_at zero octets at more = refl
drop-samples_at (suc n) octets at more = drop-samples_at n octets (at + 8) more

-- a system looks at as many samples as it has rows
pub rows-padded : (legs : List Leg) (n : ℕ) (octets : List ℕ) (at : ℕ) (more : List Sample) → length legs ≡ n
    → rows_of legs (samples_at n octets at ++ more) ≡ rows_of legs (samples_at n octets at)
rows-padded [] n octets at more len = refl
rows-padded (leg ∷ legs) zero octets at more len = absurd (omega arith)
rows-padded (leg ∷ legs) (suc n) octets at more len =
    ap (λ (rest : List Row). record { diagonal = leg.diagonal; right = leg.right; sample = sample_at octets at } ∷ rest)
    (rows-padded legs n octets (at + 8) more (omega arith))

-- one stream more
pub more_points : (f : ℕ → Axes) (grid next : List Axes) (x : Axes) (n : ℕ) → grid ≡ map f (range_with_len 1 n) → next ≡ grid ++ x ∷ [] → x ≡ f (n + 1)
    → next ≡ map f (range_with_len 1 (n + 1))
more_points f grid next x n is more at =
    let place : 1 + n ≡ n + 1 = omega arith in
    more ∙ (ap (λ (g : List Axes). g ++ x ∷ []) is
    ∙ (ap (λ (y : Axes). map f (range_with_len 1 n) ++ y ∷ []) at ∙ sym (map-range_with_len_more f 1 n (n + 1) place)))

pub point_is : (v w : ℤ) (i q : Rungs) → FitsSigned w8 v → v ≡ w → i ≡ (one_point (to_z w8 (of_z w8 v))).i → q ≡ record { size = 1; mask = 1 }
    → (let axes : Axes = record { i = i; q = q } in axes) ≡ one_point w
point_is v w i q f same p r =
    let made : Rungs → Rungs → Axes = λ a b. record { i = a; q = b } in
    ap (λ a. made a q) p ∙ (ap (λ b. made (one_point (to_z w8 (of_z w8 v))).i b) r ∙ ap one_point (to_z-of_z w8 v f ∙ same))

pub more_count : (grid next : List Axes) (x : Axes) (n : ℕ) → length grid ≡ n → next ≡ grid ++ x ∷ [] → length next ≡ n + 1
more_count grid next x n is more = ap (λ (g : List Axes). length g) more ∙ (length_push grid x ∙ ap (λ k. k + 1) is)

pub job_made : (head : FrameHead) (symbol number n : ℕ) (p : Present) (octets : List ℕ) (at : ℕ) (grid : List Axes) (system : List Row) (ys : List Sample)
    → grid ≡ grid_at head.rate symbol p.carrier → system ≡ rows_of p.triangle ys → n ≡ streams_of head.rate
    → ys ≡ samples_at n octets at ++ replicate (4 - n) no_sample → length p.triangle ≡ streams_of head.rate
    → (let job : JobView =
    record { number = number; place = record { frame = head.frame; symbol = symbol; carrier = p.carrier }; grid = grid; system = system } in job)
    ≡ job_at head symbol number p octets at
unfolding job_at
job_made head symbol number n p octets at grid system ys g s m y len =
    let made : List Axes → List Row → JobView =
    λ a b. record { number = number; place = record { frame = head.frame; symbol = symbol; carrier = p.carrier }; grid = a; system = b } in
    let rows : system ≡ rows_of p.triangle (samples_at (streams_of head.rate) octets at) =
    s ∙ (ap (rows_of p.triangle) y
    ∙ (rows-padded p.triangle n octets at (replicate (4 - n) no_sample) (len ∙ sym m) ∙ ap (λ k. rows_of p.triangle (samples_at k octets at)) m)) in
    ap (λ a. made a system) g ∙ ap (λ b. made (grid_at head.rate symbol p.carrier) b) rows

-- the samples behind those of the rows
pub unused_samples : (n m : ℕ) (octets : List ℕ) (at : ℕ) (ys : List Sample)
    → ys ≡ samples_at n octets at ++ replicate (4 - n) no_sample → m ≡ n → drop m ys ≡ replicate (4 - m) no_sample
unused_samples n m octets at ys y same =
    ap (λ k. drop k ys) same ∙ (ap (drop n) y ∙ (drop-samples_at n octets at (replicate (4 - n) no_sample) ∙ ap (λ k. replicate (4 - k) no_sample) (sym same)))

-- octets written over all of a list are that list
pub written-all : {A : Type 0} (into rest : List A) (n : ℕ) → length into ≡ n → take n (into ++ rest) ≡ into
written-all into rest n len = ap (λ m. take m (into ++ rest)) (sym len) ∙ take-append_seam into rest

pub asks_legs : (len : ℕ) (rate other : Rate) → len ≡ triangle_octets (streams_of other)
    → rate ≡ other → 2 ≤ len → len ≡ (triangle_octets (streams_of rate) - 1) + 1
asks_legs len rate other is same some =
    let e : len ≡ triangle_octets (streams_of rate) = is ∙ ap (λ r. triangle_octets (streams_of r)) (sym same) in
    let one : 1 ≤ len = omega (arith, some) in ones len _ e one
