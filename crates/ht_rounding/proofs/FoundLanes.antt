-- The rows of a lane's job one after the other.
use Rattle.std.proofs.Common.{◌≡◌, ℕ, ◌+◌, ◌-◌, ◌^◌, ◌<◌, List, [], ◌∷◌, length, drop, replicate, slice_index_or, arith, refl, ap, ◌∙◌}
use Rattle.ht_pam.specs.declared.axes.Axes.{Axes}
use Rattle.ht_metric.specs.declared.tap.Tap.{Tap}
use Rattle.ht_metric.specs.Distance.{received}
use Rattle.ht_metric.specs.Rows.{Row, no_tap}
use Rattle.ht_metric.specs.Jobs.{JobView, IsJob}
use Rattle.ht_metric.specs.Vectors.{levels_of}
use Rattle.ht_sphere.specs.Coordinates.{from_last}
use Rattle.ht_sphere.specs.Tree.{Reached}
use Rattle.ht_rounding.specs.declared.levels.Levels.{Levels}
use Rattle.ht_rounding.specs.declared.rows.Parts.{Parts}
use Rattle.ht_rounding.specs.declared.streams.RowLanes.{RowLanes}
use Rattle.ht_rounding.specs.RowSteps.{IsRowSure, point_of}
use Rattle.ht_rounding.specs.InLanes.{IsRowIn, AreRowsIn, axes_of, Finds}
use Rattle.ht_rounding.proofs.Settling.{left_by, settled-none, settled-row, settled-found, point-few}

-- the entries of a row, those of the next stream first
abbrev pub tap_1 : Row → Tap
tap_1 row = slice_index_or row.right 0 no_tap

abbrev pub tap_2 : Row → Tap
tap_2 row = slice_index_or (drop 1 row.right) 0 no_tap

abbrev pub tap_3 : Row → Tap
tap_3 row = slice_index_or (drop 1 (drop 1 row.right)) 0 no_tap

-- the rows in their lanes, one by one
abbrev lanes_of : RowLanes → RowLanes → RowLanes → RowLanes → List RowLanes
lanes_of a b c d = a ∷ b ∷ c ∷ d ∷ []

module _ (a b c d : RowLanes) (u v w x : Parts) (k : ℕ) where
  abbrev pub In : List Row → Type 0
  In rows = AreRowsIn (a ∷ b ∷ c ∷ d ∷ []) (u ∷ v ∷ w ∷ x ∷ []) k rows

  pub split_one : (rows : List Row) → length rows ≡ 1 → In rows → (r : Row) × (rows ≡ r ∷ []) × IsRowIn a u k 0 r
  split_one (r ∷ []) e h = (r, refl, h.0)
  split_one [] e h = absurd (omega (arith, e))
  split_one (r ∷ s ∷ rows) e h = absurd (omega (arith, e))

  pub split_two : (rows : List Row) → length rows ≡ 2 → In rows → (r : Row) × (s : Row) × (rows ≡ r ∷ s ∷ []) × IsRowIn a u k 1 r × IsRowIn b v k 0 s
  split_two (r ∷ s ∷ []) e h = (r, s, refl, h.0, h.1.0)
  split_two [] e h = absurd (omega (arith, e))
  split_two (r ∷ []) e h = absurd (omega (arith, e))
  split_two (r ∷ s ∷ t ∷ rows) e h = absurd (omega (arith, e))

  pub split_three : (rows : List Row) → length rows ≡ 3 → In rows
      → (r : Row) × (s : Row) × (t : Row) × (rows ≡ r ∷ s ∷ t ∷ []) × IsRowIn a u k 2 r × IsRowIn b v k 1 s × IsRowIn c w k 0 t
  split_three (r ∷ s ∷ t ∷ []) e h = (r, s, t, refl, h.0, h.1.0, h.1.1.0)
  split_three [] e h = absurd (omega (arith, e))
  split_three (r ∷ []) e h = absurd (omega (arith, e))
  split_three (r ∷ s ∷ []) e h = absurd (omega (arith, e))
  split_three (r ∷ s ∷ t ∷ o ∷ rows) e h = absurd (omega (arith, e))

  pub split_four : (rows : List Row) → length rows ≡ 4 → In rows
      → (r : Row) × (s : Row) × (t : Row) × (o : Row) × (rows ≡ r ∷ s ∷ t ∷ o ∷ []) × IsRowIn a u k 3 r × IsRowIn b v k 2 s × IsRowIn c w k 1 t
      × IsRowIn d x k 0 o
  split_four (r ∷ s ∷ t ∷ o ∷ []) e h = (r, s, t, o, refl, h.0, h.1.0, h.1.1.0, h.1.1.1.0)
  split_four [] e h = absurd (omega (arith, e))
  split_four (r ∷ []) e h = absurd (omega (arith, e))
  split_four (r ∷ s ∷ []) e h = absurd (omega (arith, e))
  split_four (r ∷ s ∷ t ∷ []) e h = absurd (omega (arith, e))
  split_four (r ∷ s ∷ t ∷ o ∷ p ∷ rows) e h = absurd (omega (arith, e))

abbrev most : ℕ
most = 2 ^ 32 - 1

module _ (i q : Levels) (job : JobView) (valid : IsJob job) where
  -- the coordinates of a job with these rows
  coordinates : (rows : List Row) (n : ℕ) → job.system ≡ rows → job.grid ≡ replicate n (axes_of i q)
      → from_last job.system job.grid ≡ from_last rows (replicate n (axes_of i q))
  coordinates rows n e f = ap (λ (r : List Row). from_last r job.grid) e ∙ ap (λ (g : List Axes). from_last rows g) f

  pub found_one : (r : Row) (xi xq s n : ℕ) → job.system ≡ r ∷ [] → job.grid ≡ replicate 1 (axes_of i q)
      → IsRowSure i q r.diagonal most 0 xi xq s n (left_by (received r.sample) [] []) → 0 < s → Finds (point_of xi xq ∷ []) n job
  found_one r xi xq s n e f sure some =
      let p = point_of xi xq in
      record {
        near = settled-found job _ most n (n + s) (p ∷ []) valid (coordinates (r ∷ []) 1 e f)
            (settled-row i q r.diagonal r.sample [] [] [] most 0 xi xq s n (levels_of (p ∷ []), n) (n + s) sure (settled-none (levels_of (p ∷ [])) n s))
            (omega (arith, some));
        few = (point-few i q _ _ _ _ _ _ _ _ sure, tt);
      }

  pub found_two : (r1 r2 : Row) (i1 q1 s1 n1 i2 q2 s2 n2 : ℕ) → job.system ≡ r1 ∷ r2 ∷ [] → job.grid ≡ replicate 2 (axes_of i q)
      → IsRowSure i q r2.diagonal most 0 i2 q2 s2 n2 (left_by (received r2.sample) [] [])
      → IsRowSure i q r1.diagonal s2 n2 i1 q1 s1 n1 (left_by (received r1.sample) (tap_1 r1 ∷ []) (point_of i2 q2 ∷ []))
      → 0 < s1 → Finds (point_of i1 q1 ∷ point_of i2 q2 ∷ []) n1 job
  found_two r1 r2 i1 q1 s1 n1 i2 q2 s2 n2 e f sure2 sure1 some =
      let p1 = point_of i1 q1 in
      let p2 = point_of i2 q2 in
      let ps = p1 ∷ p2 ∷ [] in
      let w : Reached = (levels_of ps, n1) in
      let off = n1 + s1 in
      record {
        near = settled-found job _ most n1 off ps valid (coordinates (r1 ∷ r2 ∷ []) 2 e f)
            (settled-row i q r2.diagonal r2.sample [] [] _ most 0 i2 q2 s2 n2 w off sure2
            (settled-row i q r1.diagonal r1.sample (tap_1 r1 ∷ []) (p2 ∷ []) [] s2 n2 i1 q1 s1 n1 w off sure1 (settled-none (levels_of ps) n1 s1)))
            (omega (arith, some));
        few = (point-few i q _ _ _ _ _ _ _ _ sure1, (point-few i q _ _ _ _ _ _ _ _ sure2, tt));
      }

  pub found_three : (r1 r2 r3 : Row) (i1 q1 s1 n1 i2 q2 s2 n2 i3 q3 s3 n3 : ℕ) → job.system ≡ r1 ∷ r2 ∷ r3 ∷ [] → job.grid ≡ replicate 3 (axes_of i q)
      → IsRowSure i q r3.diagonal most 0 i3 q3 s3 n3 (left_by (received r3.sample) [] [])
      → IsRowSure i q r2.diagonal s3 n3 i2 q2 s2 n2 (left_by (received r2.sample) (tap_1 r2 ∷ []) (point_of i3 q3 ∷ []))
      → IsRowSure i q r1.diagonal s2 n2 i1 q1 s1 n1 (left_by (received r1.sample) (tap_1 r1 ∷ tap_2 r1 ∷ []) (point_of i2 q2 ∷ point_of i3 q3 ∷ []))
      → 0 < s1 → Finds (point_of i1 q1 ∷ point_of i2 q2 ∷ point_of i3 q3 ∷ []) n1 job
  found_three r1 r2 r3 i1 q1 s1 n1 i2 q2 s2 n2 i3 q3 s3 n3 e f sure3 sure2 sure1 some =
      let p1 = point_of i1 q1 in
      let p2 = point_of i2 q2 in
      let p3 = point_of i3 q3 in
      let ps = p1 ∷ p2 ∷ p3 ∷ [] in
      let w : Reached = (levels_of ps, n1) in
      let off = n1 + s1 in
      record {
        near = settled-found job _ most n1 off ps valid (coordinates (r1 ∷ r2 ∷ r3 ∷ []) 3 e f)
            (settled-row i q r3.diagonal r3.sample [] [] _ most 0 i3 q3 s3 n3 w off sure3
            (settled-row i q r2.diagonal r2.sample (tap_1 r2 ∷ []) (p3 ∷ []) _ s3 n3 i2 q2 s2 n2 w off sure2
            (settled-row i q r1.diagonal r1.sample (tap_1 r1 ∷ tap_2 r1 ∷ []) (p2 ∷ p3 ∷ []) [] s2 n2 i1 q1 s1 n1 w off sure1
            (settled-none (levels_of ps) n1 s1)))) (omega (arith, some));
        few = (point-few i q _ _ _ _ _ _ _ _ sure1, (point-few i q _ _ _ _ _ _ _ _ sure2, (point-few i q _ _ _ _ _ _ _ _ sure3, tt)));
      }

  pub found_four : (r1 r2 r3 r4 : Row) (i1 q1 s1 n1 i2 q2 s2 n2 i3 q3 s3 n3 i4 q4 s4 n4 : ℕ) → job.system ≡ r1 ∷ r2 ∷ r3 ∷ r4 ∷ []
      → job.grid ≡ replicate 4 (axes_of i q)
      → IsRowSure i q r4.diagonal most 0 i4 q4 s4 n4 (left_by (received r4.sample) [] [])
      → IsRowSure i q r3.diagonal s4 n4 i3 q3 s3 n3 (left_by (received r3.sample) (tap_1 r3 ∷ []) (point_of i4 q4 ∷ []))
      → IsRowSure i q r2.diagonal s3 n3 i2 q2 s2 n2 (left_by (received r2.sample) (tap_1 r2 ∷ tap_2 r2 ∷ []) (point_of i3 q3 ∷ point_of i4 q4 ∷ []))
      → IsRowSure i q r1.diagonal s2 n2 i1 q1 s1 n1
      (left_by (received r1.sample) (tap_1 r1 ∷ tap_2 r1 ∷ tap_3 r1 ∷ []) (point_of i2 q2 ∷ point_of i3 q3 ∷ point_of i4 q4 ∷ []))
      → 0 < s1 → Finds (point_of i1 q1 ∷ point_of i2 q2 ∷ point_of i3 q3 ∷ point_of i4 q4 ∷ []) n1 job
  found_four r1 r2 r3 r4 i1 q1 s1 n1 i2 q2 s2 n2 i3 q3 s3 n3 i4 q4 s4 n4 e f sure4 sure3 sure2 sure1 some =
      let p1 = point_of i1 q1 in
      let p2 = point_of i2 q2 in
      let p3 = point_of i3 q3 in
      let p4 = point_of i4 q4 in
      let ps = p1 ∷ p2 ∷ p3 ∷ p4 ∷ [] in
      let w : Reached = (levels_of ps, n1) in
      let off = n1 + s1 in
      record {
        near = settled-found job _ most n1 off ps valid (coordinates (r1 ∷ r2 ∷ r3 ∷ r4 ∷ []) 4 e f)
            (settled-row i q r4.diagonal r4.sample [] [] _ most 0 i4 q4 s4 n4 w off sure4
            (settled-row i q r3.diagonal r3.sample (tap_1 r3 ∷ []) (p4 ∷ []) _ s4 n4 i3 q3 s3 n3 w off sure3
            (settled-row i q r2.diagonal r2.sample (tap_1 r2 ∷ tap_2 r2 ∷ []) (p3 ∷ p4 ∷ []) _ s3 n3 i2 q2 s2 n2 w off sure2
            (settled-row i q r1.diagonal r1.sample (tap_1 r1 ∷ tap_2 r1 ∷ tap_3 r1 ∷ []) (p2 ∷ p3 ∷ p4 ∷ []) [] s2 n2 i1 q1 s1 n1 w off sure1
            (settled-none (levels_of ps) n1 s1)))))
            (omega (arith, some));
        few = (
          point-few i q _ _ _ _ _ _ _ _ sure1,
          (point-few i q _ _ _ _ _ _ _ _ sure2, (point-few i q _ _ _ _ _ _ _ _ sure3, (point-few i q _ _ _ _ _ _ _ _ sure4, tt))),
        );
      }
