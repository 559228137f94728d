-- Worked values.
use Rattle.std.proofs.Common.{◌≡◌, pos, negsuc, [], ◌∷◌, true, false, refl}
use Rattle.ht_pam.specs.Ladders.{level, levels, has}
use Rattle.ht_pam.specs.Zigzags.{gap, nearest_first}

-- 64-QAM, 16-QAM, QPSK and the Q of BPSK
eight : levels (record { size = 8; mask = 255 }) ≡ negsuc 6 ∷ negsuc 4 ∷ negsuc 2 ∷ negsuc 0 ∷ pos 1 ∷ pos 3 ∷ pos 5 ∷ pos 7 ∷ []
eight = refl

four : levels (record { size = 4; mask = 15 }) ≡ negsuc 2 ∷ negsuc 0 ∷ pos 1 ∷ pos 3 ∷ []
four = refl

two : levels (record { size = 2; mask = 3 }) ≡ negsuc 0 ∷ pos 1 ∷ []
two = refl

one : levels (record { size = 1; mask = 1 }) ≡ pos 0 ∷ []
one = refl

-- the outermost levels alone, and one pilot value
ends : levels (record { size = 8; mask = 129 }) ≡ negsuc 6 ∷ pos 7 ∷ []
ends = refl

minus : levels (record { size = 2; mask = 1 }) ≡ negsuc 0 ∷ []
minus = refl

plus : levels (record { size = 2; mask = 2 }) ≡ pos 1 ∷ []
plus = refl

-- a level that isn't allowed, one that isn't a level, and one that is allowed
masked : has (record { size = 8; mask = 129 }) (pos 5) ≡ false
masked = refl

even : has (record { size = 4; mask = 15 }) (pos 2) ≡ false
even = refl

allowed : has (record { size = 4; mask = 8 }) (pos 3) ≡ true
allowed = refl

lowest_of_eight : level 8 0 ≡ negsuc 6
lowest_of_eight = refl

-- 64-QAM with d = 10: target 24 is nearest to 30, then 10; at target 0 the lower of two comes first
near_three : nearest_first (gap (pos 24) 10) (levels (record { size = 8; mask = 255 }))
    ≡ pos 3 ∷ pos 1 ∷ pos 5 ∷ negsuc 0 ∷ pos 7 ∷ negsuc 2 ∷ negsuc 4 ∷ negsuc 6 ∷ []
near_three = refl

lower_first : nearest_first (gap (pos 0) 10) (levels (record { size = 4; mask = 15 })) ≡ negsuc 0 ∷ pos 1 ∷ negsuc 2 ∷ pos 3 ∷ []
lower_first = refl

-- with no diagonal all levels are as near
no_diagonal : nearest_first (gap (pos 9) 0) (levels (record { size = 8; mask = 129 })) ≡ negsuc 6 ∷ pos 7 ∷ []
no_diagonal = refl
