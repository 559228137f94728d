-- Tests of equality.
use Rattle.std.proofs.Common.{◌≡◌, ℕ, ◌+◌, ◌<◌, ◌≤◌, Bool, ◌&&◌, List, length, take, get_or, sym, ap, ◌∙◌, arith, refl}
use Rattle.std.specs.Bool.{Decides}
use Rattle.std.proofs.lemmas.Bool.Decides.{Decides-and, Decides-like}
use Rattle.std.proofs.lemmas.List.{get_or-take, get_or_default, take-take, take_all, take_more_same}
use Rattle.ht_pam.specs.Grids.{IsGrid, IsPaddedGrid}
use Rattle.ht_pam.specs.Shown.{grid_fields, grid_fields-shown}
use Rattle.ht_pam.specs.declared.axes.Axes.{Axes}
use Rattle.ht_pam.specs.declared.grid.Grid.TheInside.{Inside as GridFields}

-- lists whose first items are the same, up to one further
module _ {X : Type 0} (xs ys : List X) (i : ℕ) (same : take (i + 1) xs ≡ take (i + 1) ys) where
  earlier : take i xs ≡ take i ys
  earlier = sym (take-take i (i + 1) xs (omega arith)) ∙ ap (λ (zs : List X). take i zs) same ∙ take-take i (i + 1) ys (omega arith)

  last : (d : X) → get_or xs i d ≡ get_or ys i d
  last d =
      sym (get_or-take (i + 1) xs i d (omega arith)) ∙ ap (λ (zs : List X). get_or zs i d) same ∙ get_or-take (i + 1) ys i d (omega arith)

-- a test of the first items of two lists of n items, behind another test: the next item is tested too
pub more_same : {X P : Type 0} (n : ℕ) (xs ys : List X) (i : ℕ) (d e : X) (same r : Bool) → length xs ≡ n → length ys ≡ n → i < n
    → Decides same (P × (take i xs ≡ take i ys)) → Decides r (get_or xs i d ≡ get_or ys i e)
    → Decides (same && r) (P × (take (i + 1) xs ≡ take (i + 1) ys))
more_same n xs ys i d e same r long wide below first next =
    let lt : i < length xs = omega arith in
    let under : i < length ys = omega arith in
    let at : get_or ys i e ≡ get_or ys i d = get_or_default ys i e d under in
    Decides-like _
    (λ h. (h.0.0, take_more_same xs ys i d lt under h.0.1 (h.1 ∙ at)))
    (λ h. ((h.0, earlier xs ys i h.1), last xs ys i h.1 d ∙ sym at))
    (Decides-and _ _ first next)

-- and where no items are left, the lists are tested
pub all_same : {X P : Type 0} (n : ℕ) (xs ys : List X) (i : ℕ) (same : Bool) → length xs ≡ n → length ys ≡ n → n ≤ i
    → Decides same (P × (take i xs ≡ take i ys)) → Decides same (P × (xs ≡ ys))
all_same n xs ys i same long wide all =
    Decides-like _ (λ h. (h.0, sym (take_all i xs (omega arith)) ∙ h.1 ∙ take_all i ys (omega arith))) (λ h. (h.0, ap (λ zs. take i zs) h.1))

-- before the first item, no more than the other test is asked
pub none_same : {X P : Type 0} (xs ys : List X) (same : Bool) → Decides same P → Decides same (P × (take 0 xs ≡ take 0 ys))
none_same xs ys same = Decides-like _ (λ p. (p, refl)) (λ h. h.0)

-- grids with the same streams have the same fields
pub grids_decide : (s u : GridFields) (g h : List Axes) (same : Bool)
    → IsPaddedGrid s.streams s.axes × IsGrid (take s.streams s.axes) → IsPaddedGrid u.streams u.axes × IsGrid (take u.streams u.axes)
    → take s.streams s.axes ≡ g → take u.streams u.axes ≡ h
    → Decides same ((s.streams ≡ u.streams) × (s.axes ≡ u.axes)) → Decides same (g ≡ h)
grids_decide s u g h same p q e f =
    let back : g ≡ h → s ≡ u = λ is. sym (grid_fields-shown s p) ∙ ap grid_fields (e ∙ is ∙ sym f) ∙ grid_fields-shown u q in
    Decides-like _
    (λ is. sym e ∙ ap (λ (n : ℕ). take n s.axes) is.0 ∙ ap (λ (axes : List Axes). take u.streams axes) is.1 ∙ f)
    (λ is. (ap (λ (v : GridFields). v.streams) (back is), ap (λ (v : GridFields). v.axes) (back is)))
