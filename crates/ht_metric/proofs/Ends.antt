-- The vectors that begin with given points, and the best of them.
use Rattle.std.proofs.Common.{◌≡◌, ◌-◌, ℕ, ◌+◌, ◌<◌, ◌≤◌, List, [], ◌∷◌, ◌++◌, map, length, drop, get_or}
use Rattle.std.proofs.Common.{Option, arith, ap, ◌∙◌, sym, refl, length-append, append_assoc, add-one}
use Rattle.std.specs.List.{fold, flat_map}
use Rattle.std.proofs.lemmas.List.{map-append, map-id, drop_all}
use Rattle.std.proofs.lemmas.List.Sums.{fold-append}
use Rattle.std.proofs.Math.Seq.{drop-cons}
use Rattle.ht_nearest.specs.Nearest.{keep}
use Rattle.ht_pam.specs.Ladders.{Rungs}
use Rattle.ht_pam.specs.Grids.{no_axes}
use Rattle.ht_pam.specs.declared.axes.Axes.{Axes}
use Rattle.ht_pam.specs.declared.point.Point.{Point}
use Rattle.ht_metric.specs.Vectors.{before, points, choices, vectors}
use Rattle.ht_metric.specs.Trying.{ends_of}

-- the vectors that begin with these points, then have one of the list, and then end so
abbrev pub ends_by : List Point → List (List Point) → List Point → List (List Point)
ends_by front rest [] = []
ends_by front rest (p ∷ ps) = map (λ x. front ++ p ∷ x) rest ++ ends_by front rest ps

map_map : {X Y Z : Type 0} (f : Y → Z) (g : X → Y) (xs : List X) → map f (map g xs) ≡ map (λ x. f (g x)) xs
map_map f g [] = refl
map_map f g (x ∷ xs) = ap (λ ys. f (g x) ∷ ys) (map_map f g xs)

map_same : {X Y : Type 0} (f g : X → Y) → ((x : X) → f x ≡ g x) → (xs : List X) → map f xs ≡ map g xs
map_same f g e [] = refl
map_same f g e (x ∷ xs) = ap (λ y. y ∷ map f xs) (e x) ∙ ap (λ ys. g x ∷ ys) (map_same f g e xs)

ends_by-is : (front : List Point) (rest : List (List Point)) (ps : List Point)
    → map (λ x. front ++ x) (flat_map (λ p. map (λ x. p ∷ x) rest) ps) ≡ ends_by front rest ps
ends_by-is front rest [] = refl
ends_by-is front rest (p ∷ ps) =
    map-append (λ x. front ++ x) (map (λ x. p ∷ x) rest) (flat_map (λ p. map (λ x. p ∷ x) rest) ps)
    ∙ ap (λ ys. ys ++ map (λ x. front ++ x) (flat_map (λ p. map (λ x. p ∷ x) rest) ps)) (map_map (λ x. front ++ x) (λ x. p ∷ x) rest)
    ∙ ap (λ ys. map (λ x. front ++ p ∷ x) rest ++ ys) (ends_by-is front rest ps)

-- what follows these points, where there is one more stream
pub behind : List Axes → List Point → List (List Point)
behind grid front = choices (map points (drop (length front + 1) grid))

pub ends_next : (grid : List Axes) (front : List Point) → length front < length grid
    → ends_of grid front ≡ ends_by front (behind grid front) (points (get_or grid (length front) no_axes))
unfolding behind
ends_next grid front below =
    let e : drop (length front) grid ≡ get_or grid (length front) no_axes ∷ drop (length front + 1) grid =
    rw add-one (drop-cons grid (length front) no_axes below) in
    ap (λ (g : List Axes). map (λ x. front ++ x) (choices (map points g))) e
    ∙ ends_by-is front (choices (map points (drop (length front + 1) grid))) (points (get_or grid (length front) no_axes))

-- the ends of the points with one more
ends_more : (grid : List Axes) (front : List Point) (p : Point) → ends_of grid (front ++ p ∷ []) ≡ map (λ x. front ++ p ∷ x) (behind grid front)
unfolding behind
ends_more grid front p =
    ap (λ (n : ℕ). map (λ x. (front ++ p ∷ []) ++ x) (choices (map points (drop n grid)))) (length-append front (p ∷ []))
    ∙ map_same (λ x. (front ++ p ∷ []) ++ x) (λ x. front ++ p ∷ x) (λ x. append_assoc front (p ∷ []) x) (choices (map points (drop (length front + 1) grid)))

module _ (cost : List Point → ℕ) where
  -- nothing is left to try
  pub tried_all : (start now : Option (List Point)) (front : List Point)
      (rest : List (List Point)) (ps : List Point) (k : ℕ) (all : List (List Point)) → length ps ≤ k
      → fold (keep cost before) now (ends_by front rest (drop k ps)) ≡ fold (keep cost before) start all → now ≡ fold (keep cost before) start all
  tried_all start now front rest ps k all end e =
      sym (ap (λ (qs : List Point). fold (keep cost before) now (ends_by front rest qs)) (drop_all k ps end)) ∙ e

  -- one more point was tried
  pub tried_one : (start now next : Option (List Point)) (grid : List Axes) (front following : List Point)
      (ps : List Point) (k : ℕ) (d : Point) (all : List (List Point)) → k < length ps
      → following ≡ front ++ get_or ps k d ∷ []
      → next ≡ fold (keep cost before) now (ends_of grid following)
      → fold (keep cost before) now (ends_by front (behind grid front) (drop k ps)) ≡ fold (keep cost before) start all
      → fold (keep cost before) next (ends_by front (behind grid front) (drop (k + 1) ps)) ≡ fold (keep cost before) start all
  tried_one start now next grid front following ps k d all below is step e =
      let K = keep cost before in
      let rest = behind grid front in
      let p = get_or ps k d in
      let here : drop k ps ≡ p ∷ drop (k + 1) ps = rw add-one (drop-cons ps k d below) in
      let ends : next ≡ fold K now (map (λ x. front ++ p ∷ x) rest) =
      step ∙ ap (λ (x : List Point). fold K now (ends_of grid x)) is ∙ ap (λ xs. fold K now xs) (ends_more grid front p) in
      ap (λ (o : Option (List Point)). fold K o (ends_by front rest (drop (k + 1) ps))) ends
      ∙ sym (fold-append K now (map (λ x. front ++ p ∷ x) rest) (ends_by front rest (drop (k + 1) ps)))
      ∙ sym (ap (λ (qs : List Point). fold K now (ends_by front rest qs)) here) ∙ e

-- with no points, all vectors are left
pub ends_all : (grid : List Axes) → ends_of grid [] ≡ vectors grid
ends_all grid = map-id (choices (map points grid))

-- all points of the next stream are left
pub ends_start : (grid : List Axes) (front ps : List Point) (k : ℕ) (i q : Rungs) → length front < length grid → k ≡ length front + 1
    → i ≡ (get_or grid (k - 1) no_axes).i → q ≡ (get_or grid (k - 1) no_axes).q → ps ≡ points (record { i = i; q = q })
    → ends_by front (behind grid front) ps ≡ ends_of grid front
ends_start grid front ps k i q below at e f is =
    let place : k - 1 ≡ length front = omega arith in
    let make : Rungs → Rungs → Axes = λ a b. record { i = a; q = b } in
    let here : make i q ≡ get_or grid (length front) no_axes =
    ap (λ (a : Rungs). make a q) e ∙ ap (λ (b : Rungs). make (get_or grid (k - 1) no_axes).i b) f ∙ ap (λ (m : ℕ). get_or grid m no_axes) place in
    ap (λ (qs : List Point). ends_by front (behind grid front) qs) (is ∙ ap (λ (a : Axes). points a) here) ∙ sym (ends_next grid front below)
