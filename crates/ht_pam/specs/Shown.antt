-- The fields of a grid, from what it shows.
use Rattle.std.specs.Prelude.{◌≡◌, ℕ, ◌-◌, List, ◌++◌, length, take, drop, replicate}
use Rattle.std.proofs.Common.{arith, ap, ◌∙◌}
use Rattle.std.proofs.lemmas.List.{take-append-drop, length-take}
use Rattle.ht_pam.specs.Grids.{IsGrid, IsPaddedGrid, no_axes}
use Rattle.ht_pam.specs.declared.axes.Axes.{Axes}
use Rattle.ht_pam.specs.declared.grid.Grid.TheInside.{Inside as GridFields}

abbrev pub grid_fields : List Axes → GridFields
grid_fields g = record { streams = length g; axes = g ++ replicate (4 - length g) no_axes }

-- what is kept of an array and what fills it are the array
padded : {A : Type 0} (n : ℕ) (xs : List A) (x : A) → drop n xs ≡ replicate (4 - n) x → take n xs ++ replicate (4 - n) x ≡ xs
padded n xs x e = rw (← e) (take-append-drop n xs)

pub grid_fields-shown : (g : GridFields) → IsPaddedGrid g.streams g.axes × IsGrid (take g.streams g.axes) → grid_fields (take g.streams g.axes) ≡ g
grid_fields-shown g p =
    let n = g.streams in
    let xs = g.axes in
    let few = p.0.within in
    let four = p.0.places in
    let e : length (take n xs) ≡ n = omega (arith, length-take n xs) in
    ap (λ (m : ℕ). let back : GridFields = record { streams = m; axes = take n xs ++ replicate (4 - m) no_axes } in back) e
    ∙ ap (λ (axes : List Axes). let back : GridFields = record { streams = n; axes = axes } in back) (padded n xs no_axes p.0.unused)
