-- Worked values.
use Rattle.std.proofs.Common.{◌≡◌, ℕ, zero, suc, [], ◌∷◌, Some, None, refl}
use Rattle.std.specs.Prelude.{nat_lt}
use Rattle.ht_nearest.specs.Nearest.{first_nearest}

-- how far the numbers 0 to 3 are away
abbrev cost : ℕ → ℕ
cost zero = 5
cost (suc zero) = 3
cost (suc (suc zero)) = 4
cost (suc (suc (suc n))) = 3

-- 1 and 3 are nearest, and 1 is before 3, wherever it stands in the list
ascending : first_nearest cost nat_lt (0 ∷ 1 ∷ 2 ∷ 3 ∷ []) ≡ Some 1
ascending = refl

descending : first_nearest cost nat_lt (3 ∷ 2 ∷ 1 ∷ 0 ∷ []) ≡ Some 1
descending = refl

-- of no candidates none is nearest
none : first_nearest cost nat_lt [] ≡ None
none = refl
