-- Grids of one vector.
use Rattle.std.specs.Prelude.{◌≡◌, ℤ, true, List, [], ◌∷◌}
use Rattle.ht_pam.specs.Ladders.{Rungs, has}
use Rattle.ht_pam.specs.declared.axes.Axes.{Axes}
use Rattle.ht_pam.specs.declared.point.Point.{Point}

-- the level is allowed, and no other is
pub record IsOnly (ladder : Rungs) (x : ℤ) : Type 0 where
  pub allowed : has ladder x ≡ true
  pub other : (y : ℤ) → has ladder y ≡ true → y ≡ x

-- the point of each stream is the only one
abbrev pub AreOnly : List Axes → List Point → Type 0
AreOnly [] [] = Unit {0}
AreOnly [] (p ∷ ps) = ⊥
AreOnly (a ∷ grid) [] = ⊥
AreOnly (a ∷ grid) (p ∷ ps) = (IsOnly a.i p.i × IsOnly a.q p.q) × AreOnly grid ps
