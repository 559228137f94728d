-- The best of all ways down is the first nearest vector.
use Rattle.std.proofs.Common.{◌≡◌, ℕ, ◌<◌, ◌≤◌, ℤ, List, [], ◌∷◌, ◌++◌, length, drop, Bool, true}
use Rattle.std.proofs.Common.{false, ◌&&◌, ◌||◌, not, arith, inl, inr, refl, ap, sym, ◌∙◌, subst}
use Rattle.std.specs.Prelude.{nat_lt}
use Rattle.std.specs.List.{All}
use Rattle.std.proofs.lemmas.List.{drop_all}
use Rattle.std.proofs.lemmas.List.Elements.{All-head, All-tail}
use Rattle.std.proofs.lemmas.Bool.Decides.{nat_tests}
use Rattle.ht_pam.specs.Grids.{AreLadders}
use Rattle.ht_pam.specs.declared.axes.Axes.{Axes}
use Rattle.ht_pam.specs.declared.point.Point.{Point}
use Rattle.ht_metric.specs.Rows.{Row}
use Rattle.ht_metric.specs.Distance.{distance_of}
use Rattle.ht_metric.specs.Vectors.{is_in, levels_of, before}
use Rattle.ht_metric.specs.declared.found.Found.{Found}
use Rattle.ht_metric.specs.Jobs.{JobView, IsJob, IsNear, near}
use Rattle.ht_metric.proofs.Finding.{near_is, found_same}
use Rattle.ht_sphere.specs.Coordinates.{Real, from_last, points_from, quadrature, in_phase}
use Rattle.ht_sphere.specs.Tree.{Reached, rounding}
use Rattle.ht_sphere.specs.Searching.{leaves, better, IsBestOf, Among}
use Rattle.ht_sphere.proofs.Paths.{AreGood, rounding_path, leaf_path, path_leaf}
use Rattle.ht_sphere.proofs.Rows.{LeadsTo, leads, way_to}

good_both : (cs ds : List Real) → AreGood cs → AreGood ds → AreGood (cs ++ ds)
good_both [] ds g h = h
good_both (c ∷ cs) ds g h = (g.0, good_both cs ds g.1 h)

pub good_rows : (rows : List Row) (grid : List Axes) → All AreLadders grid → AreGood (from_last rows grid)
good_rows [] grid h = tt
good_rows (row ∷ rows) [] h = tt
good_rows (row ∷ rows) (a ∷ grid) h =
    let first = All-head AreLadders a grid h in
    good_both (from_last rows grid) (quadrature (length rows) row a ∷ in_phase (length rows) row a ∷ [])
    (good_rows rows grid (All-tail AreLadders a grid h)) (first.q, (first.i, tt))

pub points_back : (x : List Point) → points_from (levels_of x) ≡ x
points_back [] = refl
points_back (p ∷ x) = ap (λ (rest : List Point). p ∷ rest) (points_back x)

not_nearer : (m n : ℕ) (b : Bool) → (nat_lt m n || (not (nat_lt n m) && b)) ≡ false → n ≤ m
not_nearer m n b h = grind (arith, nat_tests)

not_tied : (m n : ℕ) (b : Bool) → b ≡ true → (nat_lt m n || (not (nat_lt n m) && b)) ≡ false → n < m
not_tied m n true e h = grind (arith, nat_tests)
not_tied m n false e h = absurd (cc)

module _ (job : JobView) (v : Reached) (same : length job.grid ≡ length job.system)
    (best : IsBestOf (rounding (from_last job.system job.grid) [] 0) (leaves (from_last job.system job.grid) [] 0) v) where
  abbrev all : List Real
  all = from_last job.system job.grid

  pub found : AreGood (from_last job.system job.grid) → LeadsTo job.system job.grid v
  found good =
      let among : Among (leaves all [] 0) v = elim best.one [
        | inl e ↦ subst (Among (leaves all [] 0)) (sym e) (path_leaf all [] 0 (rounding all [] 0) (rounding_path all [] 0 good))
        | inr there ↦ there
      ] in
      leads job.system job.grid v same (leaf_path all [] 0 v among)

  not_better : (x y : List Point) → v ≡ (levels_of x, distance_of job.system x) → is_in job.grid y ≡ true
      → better (levels_of y, distance_of job.system y) (levels_of x, distance_of job.system x) ≡ false
  not_better x y e h =
      subst (λ (u : Reached). better (levels_of y, distance_of job.system y) u ≡ false) e
      (best.none_is (levels_of y, distance_of job.system y) (path_leaf all [] 0 (levels_of y, distance_of job.system y) (way_to job.system job.grid y same h)))

  pub is_near : (x : List Point) → is_in job.grid x ≡ true → v ≡ (levels_of x, distance_of job.system x) → IsNear job x
  is_near x within e = record {
    within = within;
    nearest = λ y h. not_nearer (distance_of job.system y) (distance_of job.system x) _ (not_better x y e h);
    first = λ y h b. not_tied (distance_of job.system y) (distance_of job.system x) (before y x) b (not_better x y e h);
  }

-- the answer to a job
pub answered : (job : JobView) (items : List Real) (levels : List ℤ) (d : ℕ) (vector : List Point) → IsJob job → items ≡ from_last job.system job.grid
    → IsBestOf (rounding items [] 0) (leaves items [] 0) (levels, d) → vector ≡ points_from levels → IsNear job vector × (d ≡ distance_of job.system vector)
answered job items levels d vector is all best points =
    let v : Reached = (levels, d) in
    let mine : IsBestOf (rounding (from_last job.system job.grid) [] 0) (leaves (from_last job.system job.grid) [] 0) v =
    subst (λ (l : List Real). IsBestOf (rounding l [] 0) (leaves l [] 0) v) all best in
    let lead = found job v is.streams mine (good_rows job.system job.grid is.grid.ladders) in
    let x = lead.vector in
    let same : vector ≡ x = points ∙ ap (λ (u : Reached). points_from u.0) lead.is ∙ points_back x in (
      subst (λ (y : List Point). IsNear job y) (sym same) (is_near job v is.streams mine x lead.within lead.is),
      ap (λ (u : Reached). u.1) lead.is ∙ ap (λ (y : List Point). distance_of job.system y) (sym same),
    )

pub found_is : (job : JobView) (levels : List ℤ) (d : ℕ) (vector : List Point) → IsJob job
    → IsBestOf (rounding (from_last job.system job.grid) [] 0) (leaves (from_last job.system job.grid) [] 0) (levels, d)
    → vector ≡ points_from levels → (let f : Found = record { vector = vector; distance = d } in f ≡ near job) × IsNear job vector
found_is job levels d vector is best points =
    let a = answered job (from_last job.system job.grid) levels d vector is refl best points in
    (sym (near_is job vector a.0 ∙ found_same job vector vector d d job.system refl refl a.1 refl), a.0)

-- no coordinate is behind the last one
pub none_behind : (xs : List ℤ) (items : List Real) → length xs ≡ length items → drop (length items) xs ≡ []
none_behind xs items e = drop_all (length items) xs (omega arith)
