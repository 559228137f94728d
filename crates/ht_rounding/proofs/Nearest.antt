-- A level of a full ladder whose gap is below the diagonal is the first one.
use Rattle.std.proofs.Common.{◌≡◌, ℕ, zero, suc, ◌-◌, ◌*◌, ◌^◌, ◌<◌, ◌≤◌, ℤ, pos, ◌+ℤ◌, ◌-ℤ◌, ◌*ℤ◌, true, unsigned_abs, arith, inl, inr, ap, sym, ◌∙◌, refl}
use Rattle.std.specs.Int.{cast_signed, w32}
use Rattle.std.specs.Int.Signed.{◌<ℤ◌, ◌≤ℤ◌}
use Rattle.std.proofs.lemmas.Bool.{cases_lt}
use Rattle.std.proofs.lemmas.Int.{ints}
use Rattle.ht_nearest.proofs.Bests as bests
use Rattle.ht_pam.specs.Ladders.{IsLadder, level, levels, has}
use Rattle.ht_pam.specs.Zigzags.{gap, nearest_first}
use Rattle.ht_pam.proofs.EndLemmas.{times_less}
use Rattle.ht_pam.proofs.ZigzagLemmas.{ascending}
use Rattle.ht_sphere.specs.Coordinates.{first_of}
use Rattle.ht_sphere.proofs.Bests.{walk_some}
use Rattle.ht_sphere.proofs.Paths.{in_order, has_sorted, first_among}
use Rattle.ht_sphere.proofs.Margins.{least_first, margin_at_one}
use Rattle.ht_rounding.specs.declared.levels.Levels.{Levels}
use Rattle.ht_rounding.specs.declared.levels.Levels.TheVariants.{One, Two, Four, Eight}
use Rattle.ht_rounding.specs.Words.{Holds}
use Rattle.ht_rounding.specs.Proposals.{size_of, full, IsLevel, Proposes, IsSure, farthest}

pub full-ladder : (l : Levels) → IsLadder (full l)
full-ladder One = record { size = inl refl; some = omega arith; within = omega arith }
full-ladder Two = record { size = inr (inl refl); some = omega arith; within = omega arith }
full-ladder Four = record { size = inr (inr (inl refl)); some = omega arith; within = omega arith }
full-ladder Eight = record { size = inr (inr (inr refl)); some = omega arith; within = omega arith }

-- its levels by their places
pub place-of : (l : Levels) (x : ℤ) → bests.Among (levels (full l)) x → IsLevel (size_of l) x
place-of One x h = elim h [ inl e ↦ (0, omega arith, sym e) | inr none ↦ absurd none ]
place-of Two x h = elim h [ inl e ↦ (0, omega arith, sym e) | inr h ↦ elim h [ inl e ↦ (1, omega arith, sym e) | inr none ↦ absurd none ] ]
place-of Four x h = elim h [
  | inl e ↦ (0, omega arith, sym e)
  | inr h ↦ elim h [
    | inl e ↦ (1, omega arith, sym e)
    | inr h ↦ elim h [ inl e ↦ (2, omega arith, sym e) | inr h ↦ elim h [ inl e ↦ (3, omega arith, sym e) | inr none ↦ absurd none ] ]
  ]
]
place-of Eight x h = elim h [
  | inl e ↦ (0, omega arith, sym e)
  | inr h ↦ elim h [
    | inl e ↦ (1, omega arith, sym e)
    | inr h ↦ elim h [
      | inl e ↦ (2, omega arith, sym e)
      | inr h ↦ elim h [
        | inl e ↦ (3, omega arith, sym e)
        | inr h ↦ elim h [
          | inl e ↦ (4, omega arith, sym e)
          | inr h ↦ elim h [
            | inl e ↦ (5, omega arith, sym e)
            | inr h ↦ elim h [ inl e ↦ (6, omega arith, sym e) | inr h ↦ elim h [ inl e ↦ (7, omega arith, sym e) | inr none ↦ absurd none ] ]
          ]
        ]
      ]
    ]
  ]
]

-- and back
has-place : (l : Levels) (j : ℕ) → j < size_of l → has (full l) (level (size_of l) j) ≡ true
has-place One zero lt = refl
has-place One (suc j) lt = absurd (omega arith)
has-place Two zero lt = refl
has-place Two (suc zero) lt = refl
has-place Two (suc (suc j)) lt = absurd (omega arith)
has-place Four zero lt = refl
has-place Four (suc zero) lt = refl
has-place Four (suc (suc zero)) lt = refl
has-place Four (suc (suc (suc zero))) lt = refl
has-place Four (suc (suc (suc (suc j)))) lt = absurd (omega arith)
has-place Eight zero lt = refl
has-place Eight (suc zero) lt = refl
has-place Eight (suc (suc zero)) lt = refl
has-place Eight (suc (suc (suc zero))) lt = refl
has-place Eight (suc (suc (suc (suc zero)))) lt = refl
has-place Eight (suc (suc (suc (suc (suc zero))))) lt = refl
has-place Eight (suc (suc (suc (suc (suc (suc zero)))))) lt = refl
has-place Eight (suc (suc (suc (suc (suc (suc (suc zero))))))) lt = refl
has-place Eight (suc (suc (suc (suc (suc (suc (suc (suc j)))))))) lt = absurd (omega arith)

pub has-level : (l : Levels) (x : ℤ) → IsLevel (size_of l) x → has (full l) x ≡ true
has-level l x p = ap (λ (y : ℤ). has (full l) y) p.2 ∙ has-place l p.0 p.1

few-levels : (l : Levels) → size_of l ≤ 8
few-levels One = omega arith
few-levels Two = omega arith
few-levels Four = omega arith
few-levels Eight = omega arith

pub seven : (l : Levels) (x : ℤ) → IsLevel (size_of l) x → unsigned_abs x ≤ 7
seven l x p = omega (arith, ints, p.1, p.2, few-levels l)

-- two levels that are both nearer than the diagonal are the same
apart : (t : ℤ) (d : ℕ) (x y : ℤ) → (x +ℤ pos 1) <ℤ y → gap t d x < d → gap t d y < d → ⊥
apart t d x y h a b =
    let m = times_less d x (x +ℤ pos 1) (omega (arith, ints)) in
    let n = times_less d (x +ℤ pos 1) y h in
    plain t d (pos d *ℤ x) (pos d *ℤ y) (omega (arith, ints)) a b
  where
    plain : (t : ℤ) (d : ℕ) (p q : ℤ) → (p +ℤ pos (2 * d)) ≤ℤ q → unsigned_abs (t -ℤ p) < d → unsigned_abs (t -ℤ q) < d → ⊥
    plain t d p q h a b = omega (arith, ints)

same-level : (size : ℕ) (t : ℤ) (d : ℕ) (x y : ℤ) → IsLevel size x → IsLevel size y → gap t d x < d → gap t d y < d → x ≡ y
same-level size t d x y p q a b =
    let i = p.0 in
    let j = q.0 in
    elim (cases_lt i j) [
      | inl less ↦ absurd (apart t d x y (omega (arith, ints, p.2, q.2, less)) a b)
      | inr more ↦ elim (cases_lt j i) [
        | inl less ↦ absurd (apart t d y x (omega (arith, ints, p.2, q.2, less)) b a)
        | inr other ↦ let s : i ≡ j = omega arith in p.2 ∙ ap (level size) s ∙ sym q.2
      ]
    ]

pub nearest-first : (l : Levels) (t : ℤ) (d : ℕ) (x : ℤ) → IsLevel (size_of l) x → gap t d x < d → x ≡ first_of (full l) t d
nearest-first l t d x is near =
    let walk = nearest_first (gap t d) (levels (full l)) in
    let y = first_of (full l) t d in
    let one : bests.Among walk y = first_among walk (walk_some (full l) (gap t d) (full-ladder l)) in
    let other = has_sorted (full l) (gap t d) x (has-level l x is) in
    let least : gap t d y ≤ gap t d x = least_first (gap t d) walk x (ascending (gap t d) (levels (full l))) other in
    same-level (size_of l) t d x y is (place-of l y (in_order (gap t d) (levels (full l)) y one)) near (omega (arith, least, near))

-- so a proposal with a gap below the diagonal is sure
pub sure : (l : Levels) (t d x g : ℕ) (z : ℤ) → g < 2 ^ 15 → Proposes (size_of l) farthest t d x g → g < d → unsigned_abs z ≤ farthest → Holds t z
    → IsSure l d x g (4 * d * (d - g)) z
sure l t d x g z small p near within h =
    let e = p.gap small z within h in
    let v = cast_signed w32 x in
    let first = nearest-first l z d v p.level (omega (arith, e, near)) in
    record {
      gap = e;
      first = first;
      margin = margin_at_one (full l) z d v (4 * d * (d - g)) (full-ladder l) first (ap (λ (n : ℕ). 4 * d * (d - n)) (sym e));
      few = seven l v p.level;
    }
