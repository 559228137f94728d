-- A vector of a grid has a point for each stream, with both parts from -7 to 7.
use Rattle.std.proofs.Common.{◌≡◌, ℤ, List, [], ◌∷◌, length, true, false, unsigned_abs, ◌≤◌, ◌&&◌, ap, refl}
use Rattle.std.specs.List.{All}
use Rattle.std.specs.Prelude.{suc}
use Rattle.std.proofs.lemmas.Bool.{and_parts, both_ways}
use Rattle.std.proofs.lemmas.List.Elements.{All-nil, All-cons, All-head, All-tail, All-contains}
use Rattle.ht_nearest.proofs.Bests.{Contains-Among}
use Rattle.ht_pam.specs.Ladders.{Rungs, IsLadder, levels, has}
use Rattle.ht_pam.specs.Grids.{AreLadders}
use Rattle.ht_pam.specs.declared.axes.Axes.{Axes}
use Rattle.ht_pam.specs.declared.point.Point.{Point}
use Rattle.ht_pam.proofs.Tables.{levels_small}
use Rattle.ht_metric.specs.Distance.{IsInRange}
use Rattle.ht_metric.specs.Vectors.{is_in}
use Rattle.ht_metric.proofs.Enumerating.{among_list}

small_level : (l : Rungs) (x : ℤ) → IsLadder l → has l x ≡ true → unsigned_abs x ≤ 7
small_level l x ladder h =
    All-contains (λ y. unsigned_abs y ≤ 7) (levels l) x (levels_small l ladder) (Contains-Among (levels l) x (among_list x (levels l) h))

pub long_as_grid : (grid : List Axes) (x : List Point) → is_in grid x ≡ true → length x ≡ length grid
long_as_grid [] [] h = refl
long_as_grid [] (p ∷ x) h = absurd (both_ways false refl h)
long_as_grid (a ∷ grid) [] h = absurd (both_ways false refl h)
long_as_grid (a ∷ grid) (p ∷ x) h = ap suc (long_as_grid grid x (and_parts (has a.i p.i && has a.q p.q) (is_in grid x) h).1)

pub small_points : (grid : List Axes) (x : List Point) → All AreLadders grid → is_in grid x ≡ true → All IsInRange x
small_points [] [] good h = All-nil IsInRange
small_points [] (p ∷ x) good h = absurd (both_ways false refl h)
small_points (a ∷ grid) [] good h = absurd (both_ways false refl h)
small_points (a ∷ grid) (p ∷ x) good h =
    let both = and_parts (has a.i p.i && has a.q p.q) (is_in grid x) h in
    let parts = and_parts (has a.i p.i) (has a.q p.q) both.0 in
    let ladders = All-head AreLadders a grid good in
    let small : IsInRange p = record { i = small_level a.i p.i ladders.i parts.0; q = small_level a.q p.q ladders.q parts.1 } in
    All-cons IsInRange p x small (small_points grid x (All-tail AreLadders a grid good) both.1)
