-- The best of all vectors of a grid is the first nearest one.
use Rattle.std.proofs.Common.{refl, ◌≡◌, ℕ, ◌<◌, ℤ, List, [], ◌∷◌, map, length, Option, Some, None, arith, ap, ◌∙◌, sym, length-append}
use Rattle.std.specs.Prelude.{unwrap_or}
use Rattle.std.specs.List.{All, fold, flat_map}
use Rattle.std.proofs.lemmas.List.{length-map}
use Rattle.std.proofs.lemmas.List.Elements.{All-head, All-tail}
use Rattle.ht_nearest.specs.Nearest.{keep, first_nearest}
use Rattle.ht_nearest.proofs.Bests as bests
use Rattle.ht_pam.specs.Ladders.{levels}
use Rattle.ht_pam.specs.Grids.{AreLadders, IsGrid}
use Rattle.ht_pam.specs.declared.axes.Axes.{Axes}
use Rattle.ht_pam.specs.declared.point.Point.{Point}
use Rattle.ht_pam.proofs.Tables.{levels_some}
use Rattle.ht_metric.specs.Rows.{Row}
use Rattle.ht_metric.specs.Distance.{distance_of}
use Rattle.ht_metric.specs.Vectors.{before, is_in, points, vectors}
use Rattle.ht_metric.specs.Jobs.{JobView, IsNear, found_at, near}
use Rattle.ht_metric.specs.declared.found.Found.{Found}
use Rattle.ht_metric.specs.declared.hit.Hit.{Hit}
use Rattle.ht_metric.specs.Hits.{found_of}
use Rattle.ht_metric.specs.Trying.{ends_of}
use Rattle.ht_metric.proofs.Order.{vector_order}
use Rattle.ht_metric.proofs.Enumerating.{vectors_enumerate}
use Rattle.ht_metric.proofs.Ends.{ends_all}

-- what the code tried are the vectors of the grid
pub tried : (job : JobView) (grid : List Axes) (rows : List Row) (front : List Point) (o : Option (List Point))
    → grid ≡ job.grid → rows ≡ job.system → front ≡ []
    → o ≡ fold (keep (distance_of rows) before) None (ends_of grid front) → first_nearest (distance_of job.system) before (vectors job.grid) ≡ o
tried job grid rows front o g r f e =
    sym (e ∙ ap (λ (rs : List Row). fold (keep (distance_of rs) before) None (ends_of grid front)) r
    ∙ ap (λ (gs : List Axes). fold (keep (distance_of job.system) before) None (ends_of gs front)) g
    ∙ ap (λ (x : List Point). fold (keep (distance_of job.system) before) None (ends_of job.grid x)) f
    ∙ ap (λ (xs : List (List Point)). fold (keep (distance_of job.system) before) None xs) (ends_all job.grid))

pub tried_near : (job : JobView) (x : List Point) → first_nearest (distance_of job.system) before (vectors job.grid) ≡ Some x → IsNear job x
tried_near job x e =
    bests.found (is_in job.grid) (distance_of job.system) before (vector_order (is_in job.grid)) (vectors job.grid) x (vectors_enumerate job.grid) e

flat_some : {X Y : Type 0} (f : X → List Y) (xs : List X) → 0 < length xs → ((x : X) → 0 < length (f x)) → 0 < length (flat_map f xs)
flat_some f [] some each = absurd (omega arith)
flat_some f (x ∷ xs) some each = omega (arith, length-append (f x) (flat_map f xs), each x)

points_some : (a : Axes) → AreLadders a → 0 < length (points a)
points_some a good =
    let at : ℤ → ℤ → Point = λ i q. record { i = i; q = q } in
    flat_some (λ i. map (at i) (levels a.q)) (levels a.i) (levels_some a.i good.i)
    (λ i. let n = length-map (levels a.q) (at i) in let some = levels_some a.q good.q in omega arith)

-- a grid has a vector
pub vectors_some : (grid : List Axes) → All AreLadders grid → 0 < length (vectors grid)
vectors_some [] good = omega arith
vectors_some (a ∷ grid) good =
    let rest = vectors_some grid (All-tail AreLadders a grid good) in
    flat_some (λ p. map (λ x. p ∷ x) (vectors grid)) (points a) (points_some a (All-head AreLadders a grid good))
    (λ p. let n = length-map (vectors grid) (λ (x : List Point). p ∷ x) in omega arith)

-- what was found, as the code has it
pub found_same : (job : JobView) (x v : List Point) (d e : ℕ) (rows : List Row) → v ≡ x → d ≡ e → e ≡ distance_of rows x → rows ≡ job.system
    → (let found : Found = record { vector = v; distance = d } in found_at job x ≡ found)
found_same job x v d e rows p q r s =
    let make : List Point → ℕ → Found = λ y n. record { vector = y; distance = n } in
    sym (ap (λ y. make y d) p ∙ ap (λ n. make x n) (q ∙ r ∙ ap (λ (rs : List Row). distance_of rs x) s))

-- the first nearest vector is the answer over all vectors
pub near_is : (job : JobView) (x : List Point) → IsNear job x → near job ≡ found_at job x
near_is job x is =
    ap (λ (o : Option (List Point)). found_at job (unwrap_or o []))
    (bests.finds (is_in job.grid) (distance_of job.system) before (vector_order (is_in job.grid)) (vectors job.grid) x (vectors_enumerate job.grid) is)

-- what a hit says was found
pub found_near : (hit : Hit) → found_of hit ≡ near hit.job
found_near hit =
    let with_distance : ℕ → Found = λ d. record { vector = hit.vector; distance = d } in
    ap with_distance hit.far ∙ sym (near_is hit.job hit.vector hit.near)

answered : (job : JobView) (o : Option (List Point)) → IsGrid job.grid
    → first_nearest (distance_of job.system) before (vectors job.grid) ≡ o → IsNear job (unwrap_or o [])
answered job None grid e = absurd (bests.best_of_some (distance_of job.system) before (vectors job.grid) (vectors_some job.grid grid.ladders) e)
answered job (Some x) grid e = tried_near job x e

-- and the answer is first nearest
pub is_near : (job : JobView) → IsGrid job.grid → IsNear job (near job).vector
is_near job grid = answered job (first_nearest (distance_of job.system) before (vectors job.grid)) grid refl
