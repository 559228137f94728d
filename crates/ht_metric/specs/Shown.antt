-- The fields of the types of this crate, from what they show.
use Rattle.std.specs.Prelude.{◌≡◌, ℕ, List, length, take}
use Rattle.std.proofs.Common.{arith, ap, ◌∙◌}
use Rattle.std.proofs.lemmas.List.{length-take}
use Rattle.ht_pam.specs.declared.point.Point.{Point}
use Rattle.ht_metric.specs.Vectors.{IsPaddedVector, no_point}
use Rattle.ht_metric.specs.Rows.{Leg, Row, IsTriangle, IsSampled, no_tap, no_sample, entries_of, legs_of, rows_of}
use Rattle.ht_metric.specs.Arrays.{filled, legs, samples, diagonals, entries, filled-take, length-legs_of, legs-rows_of, samples-rows_of}
use Rattle.ht_metric.specs.Arrays.{diagonals-legs_of, entries-legs_of, entries_few}
use Rattle.ht_metric.specs.declared.vector.Vector.TheInside.{Inside as VectorFields}
use Rattle.ht_metric.specs.declared.triangle.Triangle.TheInside.{Inside as TriangleFields}
use Rattle.ht_metric.specs.declared.system.System.TheInside.{Inside as SystemFields}
use Rattle.ht_metric.specs.declared.tap.Tap.{Tap}
use Rattle.ht_metric.specs.declared.sample.Sample.{Sample}

-- the fields of a vector
abbrev pub vector_fields : List Point → VectorFields
vector_fields x = record { points = filled 4 no_point x; len = length x }

pub vector_fields-shown : (v : VectorFields) → IsPaddedVector v.len v.points → vector_fields (take v.len v.points) ≡ v
vector_fields-shown v p =
    let n = v.len in
    let xs = v.points in
    let count : length (take n xs) ≡ n = let few = p.within in let four = p.places in omega (arith, length-take n xs) in
    ap (λ (m : ℕ). let back : VectorFields = record { points = filled 4 no_point (take n xs); len = m } in back) count
    ∙ ap (λ (points : List Point). let back : VectorFields = record { points = points; len = n } in back) (filled-take 4 n no_point xs count p.unused)

-- the fields of a triangle
abbrev pub triangle_fields : List Leg → TriangleFields
triangle_fields rows = record { streams = length rows; diagonal = filled 4 0 (diagonals rows); above = filled 6 no_tap (entries rows) }

pub triangle_fields-shown : (t : TriangleFields) → IsTriangle t.streams t.diagonal t.above → triangle_fields (legs_of t.streams t.diagonal t.above) ≡ t
triangle_fields-shown t p =
    let n = t.streams in
    let ds = t.diagonal in
    let ts = t.above in
    let few = p.few in
    let four = p.diagonals in
    let six = p.entries in
    let ds_front : length (take n ds) ≡ n = omega (arith, length-take n ds) in
    let ts_front : length (take (entries_of n) ts) ≡ entries_of n = omega (arith, entries_few n few, length-take (entries_of n) ts) in
    let ds_back : filled 4 0 (diagonals (legs_of n ds ts)) ≡ ds =
    ap (λ (xs : List ℕ). filled 4 0 xs) (diagonals-legs_of n ds ts (omega arith)) ∙ filled-take 4 n 0 ds ds_front p.unused_diagonals in
    let ts_back : filled 6 no_tap (entries (legs_of n ds ts)) ≡ ts =
    ap (λ (xs : List Tap). filled 6 no_tap xs) (entries-legs_of n ds ts) ∙ filled-take 6 (entries_of n) no_tap ts ts_front p.unused_entries in
    let at : ℕ → List ℕ → List Tap → TriangleFields = λ m xs ys. record { streams = m; diagonal = xs; above = ys } in
    ap (λ m. at m (filled 4 0 (diagonals (legs_of n ds ts))) (filled 6 no_tap (entries (legs_of n ds ts)))) (length-legs_of n ds ts)
    ∙ ap (λ xs. at n xs (filled 6 no_tap (entries (legs_of n ds ts)))) ds_back
    ∙ ap (λ ys. at n ds ys) ts_back

-- the fields of a system
abbrev pub system_fields : List Row → SystemFields
system_fields rows = record { triangle = legs rows; y = filled 4 no_sample (samples rows) }

pub system_fields-shown : (s : SystemFields) → IsSampled s.triangle s.y → system_fields (rows_of s.triangle s.y) ≡ s
system_fields-shown s p =
    let rows = s.triangle in
    let ys = s.y in
    let few = p.few in
    let four = p.samples in
    let front : length (take (length rows) ys) ≡ length rows = omega (arith, length-take (length rows) ys) in
    let back : filled 4 no_sample (samples (rows_of rows ys)) ≡ ys =
    ap (λ (xs : List Sample). filled 4 no_sample xs) (samples-rows_of rows ys (omega arith)) ∙ filled-take 4 (length rows) no_sample ys front p.unused in
    let at : List Leg → List Sample → SystemFields = λ legs samples. record { triangle = legs; y = samples } in
    ap (λ l. at l (filled 4 no_sample (samples (rows_of rows ys)))) (legs-rows_of rows ys)
    ∙ ap (λ xs. at rows xs) back
