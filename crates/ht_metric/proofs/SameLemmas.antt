-- Tests of equality.
use Rattle.std.proofs.Common.{◌≡◌, ℕ, Bool, ◌&&◌, List, sym, ap, ◌∙◌}
use Rattle.std.specs.Prelude.{◌==◌}
use Rattle.std.specs.Cmp.Lexicographic.{pointwise}
use Rattle.std.specs.Bool.{Decides}
use Rattle.std.proofs.Math.Bool.{and_assoc}
use Rattle.std.proofs.lemmas.Bool.Decides.{Decides-like}
use Rattle.ht_metric.specs.Rows.{Leg, Row, IsTriangle, IsSampled, legs_of, rows_of}
use Rattle.ht_metric.specs.Shown.{triangle_fields, triangle_fields-shown, system_fields, system_fields-shown}
use Rattle.ht_metric.specs.declared.tap.Tap.{Tap}
use Rattle.ht_metric.specs.declared.sample.Sample.{Sample}
use Rattle.ht_metric.specs.declared.triangle.Triangle.TheInside.{Inside as TriangleFields}
use Rattle.ht_metric.specs.declared.system.System.TheInside.{Inside as SystemFields}
use Rattle.ht_metric.specs.contracts.tap.TapPartialEq.TheImpl as taps
use Rattle.ht_metric.specs.contracts.triangle.TrianglePartialEq.TheImpl as triangles
use Rattle.ht_metric.specs.contracts.sample.SamplePartialEq.TheImpl as samples

-- triangles with the same fields have the same rows
pub triangles_decide : (t u : TriangleFields) (x y : List Leg) (same : Bool)
    → IsTriangle t.streams t.diagonal t.above → IsTriangle u.streams u.diagonal u.above
    → legs_of t.streams t.diagonal t.above ≡ x → legs_of u.streams u.diagonal u.above ≡ y
    → Decides same (((t.streams ≡ u.streams) × (t.diagonal ≡ u.diagonal)) × (t.above ≡ u.above)) → Decides same (x ≡ y)
triangles_decide t u x y same p q e f =
    let back : x ≡ y → t ≡ u =
    λ is. sym (triangle_fields-shown t p) ∙ ap triangle_fields (e ∙ is ∙ sym f) ∙ triangle_fields-shown u q in
    Decides-like _
    (λ is. sym e ∙ ap (λ (n : ℕ). legs_of n t.diagonal t.above) is.0.0 ∙ ap (λ (ds : List ℕ). legs_of u.streams ds t.above) is.0.1
    ∙ ap (λ (ts : List Tap). legs_of u.streams u.diagonal ts) is.1 ∙ f)
    (λ is. let all = back is in
    ((ap (λ (v : TriangleFields). v.streams) all, ap (λ (v : TriangleFields). v.diagonal) all), ap (λ (v : TriangleFields). v.above) all))

-- and so have systems
pub systems_decide : (s u : SystemFields) (x y : List Row) (same : Bool) → IsSampled s.triangle s.y → IsSampled u.triangle u.y
    → rows_of s.triangle s.y ≡ x → rows_of u.triangle u.y ≡ y
    → Decides same ((s.triangle ≡ u.triangle) × (s.y ≡ u.y)) → Decides same (x ≡ y)
systems_decide s u x y same p q e f =
    let back : x ≡ y → s ≡ u = λ is. sym (system_fields-shown s p) ∙ ap system_fields (e ∙ is ∙ sym f) ∙ system_fields-shown u q in
    Decides-like _
    (λ is. sym e ∙ ap (λ (legs : List Leg). rows_of legs s.y) is.0 ∙ ap (λ (ys : List Sample). rows_of u.triangle ys) is.1 ∙ f)
    (λ is. (ap (λ (v : SystemFields). v.triangle) (back is), ap (λ (v : SystemFields). v.y) (back is)))

-- `==` of triangles is `==` of the fields that their rows give
pub triangles_compare : (t u : TriangleFields) (x y : List Leg) (streams diagonals all : Bool)
    → IsTriangle t.streams t.diagonal t.above → IsTriangle u.streams u.diagonal u.above
    → legs_of t.streams t.diagonal t.above ≡ x → legs_of u.streams u.diagonal u.above ≡ y
    → streams ≡ (t.streams == u.streams) → diagonals ≡ (streams && pointwise ◌==◌ t.diagonal u.diagonal)
    → all ≡ (diagonals && pointwise taps.eq-value.it t.above u.above)
    → all ≡ ((triangle_fields x).streams == (triangle_fields y).streams
    && (pointwise ◌==◌ (triangle_fields x).diagonal (triangle_fields y).diagonal
    && pointwise taps.eq-value.it (triangle_fields x).above (triangle_fields y).above))
triangles_compare t u x y streams diagonals all p q e f a b d =
    let test : TriangleFields → TriangleFields → Bool =
    λ v w. v.streams == w.streams && (pointwise ◌==◌ v.diagonal w.diagonal && pointwise taps.eq-value.it v.above w.above) in
    let left : t ≡ triangle_fields x = sym (triangle_fields-shown t p) ∙ ap triangle_fields e in
    let right : u ≡ triangle_fields y = sym (triangle_fields-shown u q) ∙ ap triangle_fields f in
    d ∙ ap (λ (r : Bool). r && pointwise taps.eq-value.it t.above u.above) (b ∙ ap (λ (r : Bool). r && pointwise ◌==◌ t.diagonal u.diagonal) a)
    ∙ and_assoc (t.streams == u.streams) _ _
    ∙ ap (λ (v : TriangleFields). test v u) left ∙ ap (λ (w : TriangleFields). test (triangle_fields x) w) right

-- and so it is of systems
pub systems_compare : (s u : SystemFields) (x y : List Row) (same all : Bool)
    → IsSampled s.triangle s.y → IsSampled u.triangle u.y → rows_of s.triangle s.y ≡ x → rows_of u.triangle u.y ≡ y
    → same ≡ triangles.eq-value.it s.triangle u.triangle → all ≡ (same && pointwise samples.eq-value.it s.y u.y)
    → all ≡ (triangles.eq-value.it (system_fields x).triangle (system_fields y).triangle
    && pointwise samples.eq-value.it (system_fields x).y (system_fields y).y)
systems_compare s u x y same all p q e f a b =
    let test : SystemFields → SystemFields → Bool = λ v w. triangles.eq-value.it v.triangle w.triangle && pointwise samples.eq-value.it v.y w.y in
    let left : s ≡ system_fields x = sym (system_fields-shown s p) ∙ ap system_fields e in
    let right : u ≡ system_fields y = sym (system_fields-shown u q) ∙ ap system_fields f in
    b ∙ ap (λ (r : Bool). r && pointwise samples.eq-value.it s.y u.y) a
    ∙ ap (λ (v : SystemFields). test v u) left ∙ ap (λ (w : SystemFields). test (system_fields x) w) right
