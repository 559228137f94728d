-- Jobs that were put into lanes.
use Rattle.std.proofs.Common.{◌≡◌, ℕ, ◌-◌, ◌^◌, ◌<◌, ◌≤◌, List, [], ◌∷◌, length, drop, slice_index, slice_index_or, arith, refl, subst, ◌∙◌}
use Rattle.ht_metric.specs.declared.tap.Tap.{Tap}
use Rattle.ht_metric.specs.Rows.{Row, no_row, no_tap}
use Rattle.ht_rounding.specs.declared.rows.Parts.{Parts}
use Rattle.ht_rounding.specs.declared.streams.RowLanes.{RowLanes}
use Rattle.ht_rounding.specs.declared.loading.Part.TheVariants.{SampleRe, SampleIm, EntryRe, EntryIm}
use Rattle.ht_rounding.specs.RowSteps.{IsEntry}
use Rattle.ht_rounding.specs.InLanes.{AreRowsIn}
use Rattle.ht_rounding.specs.Loading.{IsShort, IsPartOf, IsDiagonal, IsRowOf}
use Rattle.ht_rounding.specs.Words.{lesser}
use Rattle.ht_rounding.proofs.Rooms.{lesser-is, lesser-right}

-- an entry by the entries before it
second_entry : (right : List Tap) → slice_index_or right 1 no_tap ≡ slice_index_or (drop 1 right) 0 no_tap
second_entry [] = refl
second_entry (r ∷ rs) = refl

third_entry : (right : List Tap) → slice_index_or right 2 no_tap ≡ slice_index_or (drop 1 (drop 1 right)) 0 no_tap
third_entry [] = refl
third_entry (r ∷ []) = refl
third_entry (r ∷ s ∷ rs) = refl

entry : (a b : ℕ) (r t : Tap) → r ≡ t → IsShort a r.re → IsShort b r.im → IsEntry a b t
entry a b r t e p q = subst (λ (u : Tap). IsEntry a b u) e record { re = p.is; im = q.is; few_re = p.few; few_im = q.few }

pub row-loaded : (lanes : RowLanes) (y : Parts) (k number : ℕ) (rows : List Row)
    → (number ≤ length rows → slice_index lanes.diagonal k ≡ (slice_index_or rows (number - 1) no_row).diagonal)
    → IsPartOf (EntryRe 0) number rows (slice_index lanes.next.re k) → IsPartOf (EntryIm 0) number rows (slice_index lanes.next.im k)
    → IsPartOf (EntryRe 1) number rows (slice_index lanes.second.re k) → IsPartOf (EntryIm 1) number rows (slice_index lanes.second.im k)
    → IsPartOf (EntryRe 2) number rows (slice_index lanes.third.re k) → IsPartOf (EntryIm 2) number rows (slice_index lanes.third.im k)
    → IsPartOf SampleRe number rows (slice_index y.re k) → IsPartOf SampleIm number rows (slice_index y.im k) → IsRowOf lanes y k number rows
row-loaded lanes y k number rows d ra ia rb ib rc ic yr yi le =
    let row = slice_index_or rows (number - 1) no_row in
    let re = yr le in
    let im = yi le in
    record {
      diagonal = d le;
      sample = record { re = re.held; im = im.held };
      within = record { re = re.within; im = im.within };
      next = λ some. entry _ _ (slice_index_or row.right 0 no_tap) _ refl (ra le some) (ia le some);
      second = λ some. entry _ _ (slice_index_or row.right 1 no_tap) _ (second_entry row.right) (rb le some) (ib le some);
      third = λ some. entry _ _ (slice_index_or row.right 2 no_tap) _ (third_entry row.right) (rc le some) (ic le some);
    }

pub rows-loaded : (a b c d : RowLanes) (u v w x : Parts) (k : ℕ) (rows : List Row) → length rows ≤ 4 → IsRowOf a u k 1 rows
    → IsRowOf b v k 2 rows → IsRowOf c w k 3 rows
    → IsRowOf d x k 4 rows → AreRowsIn (a ∷ b ∷ c ∷ d ∷ []) (u ∷ v ∷ w ∷ x ∷ []) k rows
rows-loaded a b c d u v w x k [] few p q r s = tt
rows-loaded a b c d u v w x k (e ∷ []) few p q r s = (p (omega arith), tt)
rows-loaded a b c d u v w x k (e ∷ f ∷ []) few p q r s = (p (omega arith), (q (omega arith), tt))
rows-loaded a b c d u v w x k (e ∷ f ∷ g ∷ []) few p q r s =
    (p (omega arith), (q (omega arith), (r (omega arith), tt)))
rows-loaded a b c d u v w x k (e ∷ f ∷ g ∷ h ∷ []) few p q r s = (
  p (omega arith),
  (q (omega arith), (r (omega arith), (s (omega arith), tt))),
)
rows-loaded a b c d u v w x k (e ∷ f ∷ g ∷ h ∷ o ∷ rows) few p q r s = absurd (omega (arith, few))

-- a diagonal that was cut at 65535
pub cut-diagonal : (n raw bound d : ℕ) → n ≡ lesser raw bound → bound ≡ 65535 → IsDiagonal raw d → n ≡ d
cut-diagonal n raw bound d e b r = e ∙ lesser-is raw bound (omega (arith, b, r.few)) ∙ r.is

pub cut-small : (n raw bound : ℕ) → n ≡ lesser raw bound → bound ≡ 65535 → n < 2 ^ 16
cut-small n raw bound e b = omega (arith, e, b, lesser-right raw bound)
