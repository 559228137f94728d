-- The list of a grid's vectors has them all.
use Rattle.std.proofs.Common.{◌≡◌, ℤ, List, [], ◌∷◌, map, true, false, ◌&&◌, inl, inr, ap, refl, subst}
use Rattle.std.specs.List.{list_any}
use Rattle.std.specs.Ordering.{int_eq}
use Rattle.std.proofs.lemmas.Bool.{and_parts, and_from, or_cases, or_left, or_right, both_ways}
use Rattle.std.proofs.lemmas.Bool.Decides.{Decides-int_eq}
use Rattle.ht_nearest.specs.Nearest.{Enumerates}
use Rattle.ht_nearest.proofs.Bests.{Among, Contains-Among, Among-Contains}
use Rattle.ht_pam.specs.Ladders.{levels, has}
use Rattle.ht_pam.specs.declared.axes.Axes.{Axes}
use Rattle.ht_pam.specs.declared.point.Point.{Point}
use Rattle.ht_metric.specs.Vectors.{is_in, points, vectors}
use Rattle.ht_nearest.proofs.Members.{among_map, mapped, among_flat, flattened}

pub among_list : (x : ℤ) (ys : List ℤ) → list_any (λ y. int_eq y x) ys ≡ true → Among ys x
among_list x [] h = absurd (both_ways false refl h)
among_list x (y ∷ ys) h = elim (or_cases (int_eq y x) (list_any (λ y. int_eq y x) ys) h) [
  | inl here ↦ inl ((Decides-int_eq y x).0 here)
  | inr rest ↦ inr (among_list x ys rest)
]

in_list : (x : ℤ) (ys : List ℤ) → Among ys x → list_any (λ y. int_eq y x) ys ≡ true
in_list x [] h = absurd h
in_list x (y ∷ ys) h = elim h [
  | inl e ↦ or_left (int_eq y x) (list_any (λ y. int_eq y x) ys) ((Decides-int_eq y x).1 e)
  | inr rest ↦ or_right (int_eq y x) (list_any (λ y. int_eq y x) ys) (in_list x ys rest)
]

abbrev at : ℤ → ℤ → Point
at i q = record { i = i; q = q }

among_points : (a : Axes) (p : Point) → (has a.i p.i && has a.q p.q) ≡ true → Among (points a) p
among_points a p h =
    let both = and_parts (has a.i p.i) (has a.q p.q) h in
    among_flat (λ i. map (at i) (levels a.q)) (levels a.i) p.i p (among_list p.i (levels a.i) both.0)
    (among_map (at p.i) (levels a.q) p.q (among_list p.q (levels a.q) both.1))

in_points : (a : Axes) (p : Point) → Among (points a) p → (has a.i p.i && has a.q p.q) ≡ true
in_points a p h =
    let row = flattened (λ i. map (at i) (levels a.q)) (levels a.i) p h in
    let cell = mapped (at row.0) (levels a.q) p row.2 in
    let i : row.0 ≡ p.i = ap (λ (r : Point). r.i) cell.2 in
    let q : cell.0 ≡ p.q = ap (λ (r : Point). r.q) cell.2 in
    and_from (has a.i p.i) (has a.q p.q)
    (subst (λ (x : ℤ). has a.i x ≡ true) i (in_list row.0 (levels a.i) row.1))
    (subst (λ (x : ℤ). has a.q x ≡ true) q (in_list cell.0 (levels a.q) cell.1))

among_vectors : (grid : List Axes) (x : List Point) → is_in grid x ≡ true → Among (vectors grid) x
among_vectors [] [] h = inl refl
among_vectors [] (p ∷ x) h = absurd (both_ways false refl h)
among_vectors (a ∷ grid) [] h = absurd (both_ways false refl h)
among_vectors (a ∷ grid) (p ∷ x) h =
    let both = and_parts (has a.i p.i && has a.q p.q) (is_in grid x) h in
    among_flat (λ r. map (λ y. r ∷ y) (vectors grid)) (points a) p (p ∷ x) (among_points a p both.0)
    (among_map (λ y. p ∷ y) (vectors grid) x (among_vectors grid x both.1))

in_vectors : (grid : List Axes) (x : List Point) → Among (vectors grid) x → is_in grid x ≡ true
in_vectors [] [] h = refl
in_vectors [] (p ∷ x) h = elim h [ inl e ↦ cc | inr none ↦ absurd none ]
in_vectors (a ∷ grid) [] h =
    let first = flattened (λ r. map (λ y. r ∷ y) (vectors grid)) (points a) [] h in
    let rest = mapped (λ y. first.0 ∷ y) (vectors grid) [] first.2 in
    let e : first.0 ∷ rest.0 ≡ [] = rest.2 in
    cc
in_vectors (a ∷ grid) (p ∷ x) h =
    let first = flattened (λ r. map (λ y. r ∷ y) (vectors grid)) (points a) (p ∷ x) h in
    let rest = mapped (λ y. first.0 ∷ y) (vectors grid) (p ∷ x) first.2 in
    let whole : first.0 ∷ rest.0 ≡ p ∷ x = rest.2 in
    let e : first.0 ≡ p = cc in
    let f : rest.0 ≡ x = cc in
    and_from (has a.i p.i && has a.q p.q) (is_in grid x)
    (subst (λ (r : Point). (has a.i r.i && has a.q r.q) ≡ true) e (in_points a first.0 first.1))
    (subst (λ (y : List Point). is_in grid y ≡ true) f (in_vectors grid rest.0 rest.1))

pub vectors_enumerate : (grid : List Axes) → Enumerates (is_in grid) (vectors grid)
vectors_enumerate grid = record {
  sound = λ x h. in_vectors grid x (Among-Contains (vectors grid) x h);
  whole = λ x h. Contains-Among (vectors grid) x (among_vectors grid x h);
}
