-- The walk of a certificate, step by step.
use Rattle.std.proofs.Math.IntN.{zero-*ℤ}
use Rattle.std.proofs.Common.{◌≡◌, ℕ, zero, suc, ◌+◌, ◌*◌, ℤ, pos, ◌-ℤ◌, List, [], ◌∷◌, ◌++◌, map, length, drop, Bool}
use Rattle.std.proofs.Common.{true, false, unsigned_abs, refl, ap, sym, ◌∙◌, arith}
use Rattle.ht_pam.specs.Ladders.{Rungs, levels}
use Rattle.ht_pam.specs.Zigzags.{gap, From, nearest_first, put}
use Rattle.ht_pam.proofs.ZigzagLemmas.{put_first}
use Rattle.ht_pam.specs.declared.axes.Axes.{Axes}
use Rattle.ht_metric.specs.Rows.{Row}
use Rattle.ht_sphere.specs.Coordinates.{Real, cost, down}
use Rattle.ht_sphere.proofs.Steps.{Step}
use Rattle.ht_witness.specs.Walks.{Suffix, longer, below, entered}

-- with a diagonal of 0 all levels are as near
no_gap : (x : ℤ) → gap (pos 0) 0 x ≡ 0
no_gap x = ap (λ (z : ℤ). unsigned_abs (pos 0 -ℤ z)) (zero-*ℤ x)

from_none : (cost : ℤ → ℕ) (n : ℕ) (xs : List ℤ) → n ≡ 0 → From cost n xs
from_none cost n [] e = tt
from_none cost n (x ∷ xs) e = (omega arith, from_none cost n xs e)

pub flat : (xs : List ℤ) → nearest_first (gap (pos 0) 0) xs ≡ xs
flat [] = refl
flat (x ∷ xs) = ap (put (gap (pos 0) 0) x) (flat xs) ∙ put_first (gap (pos 0) 0) x xs (from_none (gap (pos 0) 0) (gap (pos 0) 0 x) xs (no_gap x))

-- the number of coordinates of the first streams
pub length-down : (rows : List Row) (grid : List Axes) (k : ℕ) → length (down rows grid k) ≡ 2 * k
length-down rows grid zero = refl
length-down rows grid (suc k) = let under = length-down rows grid k in omega (arith, under)

abbrev pub suffix : List Real → List ℤ → ℕ → Suffix
suffix ahead levels partial = record { ahead = ahead; levels = levels; partial = partial }

-- the levels that are left: at the start all of them, then the next one, and none in the end
module _ {State Outcome : Type 0} (outcome : State → List Suffix → Outcome) (c : Real) (cs : List Real) (s : List ℤ) (p : ℕ) where
  pub begun : (state : State) (l : Rungs) (walk : List ℤ) (rest : List Suffix) → l ≡ c.ladder → walk ≡ levels l
      → outcome state (below (c ∷ cs) s p ++ rest) ≡ outcome state (map (longer c cs s p) walk ++ rest)
  begun state l walk rest e is = ap (λ (w : List ℤ). outcome state (map (longer c cs s p) w ++ rest)) (ap levels (sym e) ∙ sym is)

  pub over : (state : State) (before : Outcome) (walk : List ℤ) (rest : List Suffix) → walk ≡ []
      → before ≡ outcome state (map (longer c cs s p) walk ++ rest) → before ≡ outcome state rest
  over state before walk rest e h = h ∙ ap (λ (w : List ℤ). outcome state (map (longer c cs s p) w ++ rest)) e

  pub arrived : (state : State) (before : Outcome) (walk xs all : List ℤ) (place n : ℕ) (x : ℤ) (rest : List Suffix) → walk ≡ x ∷ xs → Step c s all place n x
      → before ≡ outcome state (map (longer c cs s p) walk ++ rest)
      → before ≡ outcome state (suffix cs (drop place all) (p + n) ∷ (map (longer c cs s p) xs ++ rest))
  arrived state before walk xs all place n x rest e is h =
      let todo = map (longer c cs s p) xs ++ rest in
      h ∙ ap (λ (w : List ℤ). outcome state (map (longer c cs s p) w ++ rest)) e
      ∙ sym (ap (λ (t : List ℤ). outcome state (suffix cs t (p + n) ∷ todo)) is.chosen
      ∙ ap (λ (m : ℕ). outcome state (suffix cs (x ∷ s) (p + m) ∷ todo)) is.costs)

-- what a visit of a suffix leaves to be walked
module _ {State Outcome : Type 0} (outcome : State → List Suffix → Outcome) (old new : State) (before : Outcome) (s : Suffix) (rest : List Suffix)
    (b : Bool) where
  pub opened_by : b ≡ true → before ≡ outcome old (s ∷ rest) → outcome old (s ∷ rest) ≡ outcome new (entered b s ++ rest)
      → before ≡ outcome new (below s.ahead s.levels s.partial ++ rest)
  opened_by e h k = h ∙ k ∙ ap (λ (m : Bool). outcome new (entered m s ++ rest)) e

  pub cut_by : b ≡ false → before ≡ outcome old (s ∷ rest) → outcome old (s ∷ rest) ≡ outcome new (entered b s ++ rest) → before ≡ outcome new rest
  cut_by e h k = h ∙ k ∙ ap (λ (m : Bool). outcome new (entered m s ++ rest)) e
