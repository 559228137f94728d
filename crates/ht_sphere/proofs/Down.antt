-- The coordinates of the first streams.
use Rattle.std.proofs.Common.{◌≡◌, ℕ, zero, suc, ◌-◌, ◌*◌, ◌<◌, ◌≤◌, ℤ, List, [], ◌∷◌, ◌++◌}
use Rattle.std.proofs.Common.{length, drop, get_or, append_assoc, append-nil, arith, ap, sym, ◌∙◌}
use Rattle.std.proofs.lemmas.List.{length-drop, drop_all}
use Rattle.std.proofs.Math.Seq.{drop-cons}
use Rattle.ht_pam.specs.declared.axes.Axes.{Axes}
use Rattle.ht_pam.specs.Grids.{no_axes}
use Rattle.ht_metric.specs.Rows.{Row, no_row}
use Rattle.ht_metric.specs.Jobs.{JobView, IsJob}
use Rattle.ht_sphere.specs.Tree.{Reached, rounding}
use Rattle.ht_sphere.specs.Coordinates.{Real, in_phase, quadrature, from_last, down, from_q, q_at, i_at}

pub down_more : (rows : List Row) (grid : List Axes) (k : ℕ) → 0 < k → down rows grid k ≡ from_q rows grid (k - 1)
down_more rows grid k some = let back : k ≡ suc (k - 1) = omega arith in ap (down rows grid) back

joined : (rows : List Row) (grid : List Axes) (k : ℕ) → length grid ≡ length rows → k ≤ length rows
    → from_last (drop k rows) (drop k grid) ++ down rows grid k ≡ from_last rows grid
joined rows grid zero same within = append-nil (from_last rows grid)
joined rows grid (suc j) same within =
    let row = get_or rows j no_row in
    let a = get_or grid j no_axes in
    let behind = from_last (drop (suc j) rows) (drop (suc j) grid) in
    let left : length (drop (suc j) rows) ≡ length rows - suc j = length-drop (suc j) rows in
    let one : from_last (drop j rows) (drop j grid) ≡ behind ++ q_at rows grid j ∷ i_at rows grid j ∷ [] =
    ap (λ (xs : List Row). from_last xs (drop j grid)) (drop-cons rows j no_row (omega arith))
    ∙ ap (λ (ys : List Axes). from_last (row ∷ drop (suc j) rows) ys) (drop-cons grid j no_axes (omega arith))
    ∙ ap (λ (n : ℕ). behind ++ quadrature n row a ∷ in_phase n row a ∷ []) left in
    sym (append_assoc behind (q_at rows grid j ∷ i_at rows grid j ∷ []) (down rows grid j))
    ∙ ap (λ (cs : List Real). cs ++ down rows grid j) (sym one)
    ∙ joined rows grid j same (omega arith)

-- of all streams, they are all coordinates
pub down_all : (rows : List Row) (grid : List Axes) → length grid ≡ length rows → down rows grid (length rows) ≡ from_last rows grid
down_all rows grid same =
    let none : drop (length rows) rows ≡ [] = drop_all (length rows) rows (omega arith) in
    sym (ap (λ (xs : List Row). from_last xs (drop (length rows) grid) ++ down rows grid (length rows)) none)
    ∙ joined rows grid (length rows) same (omega arith)

pub down_system : (job : JobView) (rows : List Row) (k : ℕ) → IsJob job → rows ≡ job.system
    → k ≡ length rows → down job.system job.grid k ≡ from_last job.system job.grid
down_system job rows k is same e =
    let all : k ≡ length job.system = e ∙ ap length same in
    ap (down job.system job.grid) all ∙ down_all job.system job.grid is.streams

-- no coordinate is behind the last one
pub none_left : {A : Type 0} (xs : List A) (k : ℕ) → length xs ≤ 2 * k → drop (2 * k) xs ≡ []
none_left xs k few = drop_all (2 * k) xs few

pub found_all : (cs ds : List Real) (s : List ℤ) (w : Reached) → cs ≡ ds → s ≡ [] → rounding cs s 0 ≡ w → rounding ds [] 0 ≡ w
found_all cs ds s w e f h = sym (ap (λ (c : List Real). rounding c s 0) e ∙ ap (λ (t : List ℤ). rounding ds t 0) f) ∙ h
