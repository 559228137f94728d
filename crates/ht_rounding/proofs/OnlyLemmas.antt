-- The vector of a grid that has no other is its first nearest one.
use Rattle.std.proofs.Common.{◌≡◌, ℕ, ◌+◌, ◌<◌, ◌≤◌, ℤ, pos, negsuc, Bool, true, false, ◌&&◌, List, []}
use Rattle.std.proofs.Common.{◌∷◌, ◌++◌, length, take, slice_index_or, length-append, arith, inl, inr, refl, ap, subst, sym, ◌∙◌}
use Rattle.std.specs.List.{All}
use Rattle.std.proofs.lemmas.Bool.{and_parts, both_ways}
use Rattle.std.proofs.lemmas.List.{take_more}
use Rattle.ht_nearest.proofs.Bests as bests
use Rattle.ht_pam.specs.Grids.{no_axes}
use Rattle.ht_pam.specs.Ladders.{Rungs, has, levels}
use Rattle.ht_pam.specs.declared.axes.Axes.{Axes}
use Rattle.ht_pam.specs.declared.point.Point.{Point}
use Rattle.ht_metric.specs.Distance.{IsInRange, distance_of}
use Rattle.ht_metric.specs.Jobs.{JobView, IsJob, found_at, near}
use Rattle.ht_metric.specs.Vectors.{before, is_in}
use Rattle.ht_metric.proofs.Allowed.{long_as_grid, small_points}
use Rattle.ht_metric.proofs.Enumerating.{among_list}
use Rattle.ht_metric.proofs.Finding.{near_is}
use Rattle.ht_metric.proofs.Order.{vector_order}
use Rattle.ht_rounding.specs.Only.{AreOnly, IsOnly}

only_by : (l : Rungs) (v : ℤ) → has l v ≡ true → levels l ≡ v ∷ [] → IsOnly l v
only_by l v h e = record {
  allowed = h;
  other = λ y other. elim (subst (λ (xs : List ℤ). bests.Among xs y) e (among_list y (levels l) other)) [ inl f ↦ sym f | inr none ↦ absurd none ];
}

pub only_one : (l : Rungs) → l ≡ record { size = 2; mask = 2 } → IsOnly l (pos 1)
only_one l e = subst (λ (m : Rungs). IsOnly m (pos 1)) (sym e) (only_by (record { size = 2; mask = 2 }) (pos 1) refl refl)

pub only_minus_one : (l : Rungs) → l ≡ record { size = 2; mask = 1 } → IsOnly l (negsuc 0)
only_minus_one l e = subst (λ (m : Rungs). IsOnly m (negsuc 0)) (sym e) (only_by (record { size = 2; mask = 1 }) (negsuc 0) refl refl)

pub only_zero : (l : Rungs) → l ≡ record { size = 1; mask = 1 } → IsOnly l (pos 0)
only_zero l e = subst (λ (m : Rungs). IsOnly m (pos 0)) (sym e) (only_by (record { size = 1; mask = 1 }) (pos 0) refl refl)

only_behind : (grid : List Axes) (ps : List Point) (a : Axes) (p : Point) → AreOnly grid ps → IsOnly a.i p.i → IsOnly a.q p.q
    → AreOnly (grid ++ a ∷ []) (ps ++ p ∷ [])
only_behind [] [] a p all i q = ((i, q), tt)
only_behind [] (o ∷ ps) a p all i q = absurd all
only_behind (b ∷ grid) [] a p all i q = absurd all
only_behind (b ∷ grid) (o ∷ ps) a p all i q = (all.0, only_behind grid ps a p all.1 i q)

-- one stream more
pub only_more : (grid : List Axes) (ps : List Point) (n : ℕ) (p : Point) → n < length grid → AreOnly (take n grid) ps
    → IsOnly (slice_index_or grid n no_axes).i p.i → IsOnly (slice_index_or grid n no_axes).q p.q → AreOnly (take (n + 1) grid) (ps ++ p ∷ [])
only_more grid ps n p lt all i q =
    subst (λ (g : List Axes). AreOnly g (ps ++ p ∷ [])) (sym (take_more grid n no_axes lt))
    (only_behind (take n grid) ps (slice_index_or grid n no_axes) p all i q)

is_member : (grid : List Axes) (ps : List Point) → AreOnly grid ps → is_in grid ps ≡ true
is_member [] [] all = refl
is_member [] (p ∷ ps) all = absurd all
is_member (a ∷ grid) [] all = absurd all
is_member (a ∷ grid) (p ∷ ps) all =
    ap (λ (b : Bool). (b && has a.q p.q) && is_in grid ps) all.0.0.allowed ∙ ap (λ (b : Bool). b && is_in grid ps) all.0.1.allowed ∙ is_member grid ps all.1

no_other : (grid : List Axes) (ps qs : List Point) → AreOnly grid ps → is_in grid qs ≡ true → qs ≡ ps
no_other [] [] [] all h = refl
no_other [] [] (o ∷ qs) all h = absurd (both_ways false refl h)
no_other [] (p ∷ ps) qs all h = absurd all
no_other (a ∷ grid) [] qs all h = absurd all
no_other (a ∷ grid) (p ∷ ps) [] all h = absurd (both_ways false refl h)
no_other (a ∷ grid) (p ∷ ps) (o ∷ qs) all h =
    let both = and_parts (has a.i o.i && has a.q o.q) (is_in grid qs) h in
    let parts = and_parts (has a.i o.i) (has a.q o.q) both.0 in
    let i : o.i ≡ p.i = all.0.0.other o.i parts.0 in
    let q : o.q ≡ p.q = all.0.1.other o.q parts.1 in
    let point : ℤ → ℤ → Point = λ x y. record { i = x; q = y } in
    ap (λ (x : ℤ). point x o.q ∷ qs) i ∙ ap (λ (y : ℤ). point p.i y ∷ qs) q ∙ ap (λ (xs : List Point). p ∷ xs) (no_other grid ps qs all.1 both.1)

pub only_near : (job : JobView) (ps : List Point) → AreOnly job.grid ps → near job ≡ found_at job ps
only_near job ps all =
    let cost : List Point → ℕ = distance_of job.system in
    near_is job ps (record {
      within = is_member job.grid ps all;
      nearest = λ y h. subst (λ (z : List Point). cost ps ≤ cost z) (sym (no_other job.grid ps y all h)) (omega arith);
      first = λ y h earlier.
          let here : before ps ps ≡ true = ap (λ (z : List Point). before z ps) (sym (no_other job.grid ps y all h)) ∙ earlier in
          absurd (both_ways (before ps ps) ((vector_order (is_in job.grid)).apart ps) here);
    })

pub only_long : (job : JobView) (ps : List Point) → IsJob job → AreOnly job.grid ps → length ps ≡ length job.system
only_long job ps valid all = long_as_grid job.grid ps (is_member job.grid ps all) ∙ valid.streams

pub only_small : (job : JobView) (ps : List Point) → IsJob job → AreOnly job.grid ps → All IsInRange ps
only_small job ps valid all = small_points job.grid ps valid.grid.ladders (is_member job.grid ps all)

-- one step of a walk over the streams
pub only_next : (grid : List Axes) (ps new : List Point) (n m : ℕ) (p : Point) → n < length grid → AreOnly (take n grid) ps × (length ps ≡ n) → m ≡ n
    → IsOnly (slice_index_or grid m no_axes).i p.i × IsOnly (slice_index_or grid m no_axes).q p.q → new ≡ ps ++ p ∷ []
    → AreOnly (take (n + 1) grid) new × (length new ≡ n + 1)
only_next grid ps new n m p lt before e is en =
    let here = subst (λ (k : ℕ). IsOnly (slice_index_or grid k no_axes).i p.i × IsOnly (slice_index_or grid k no_axes).q p.q) e is in (
      subst (λ (xs : List Point). AreOnly (take (n + 1) grid) xs) (sym en) (only_more grid ps n p lt before.0 here.0 here.1),
      ap (λ (xs : List Point). length xs) en ∙ length-append ps (p ∷ []) ∙ ap (λ (k : ℕ). k + 1) before.1,
    )
