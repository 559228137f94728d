-- The definitions at given values, by computation.
use Rattle.std.proofs.Common.{◌≡◌, ℕ, List, [], ◌∷◌, true, false, pos, negsuc, map, replicate, refl}
use Rattle.std.specs.List.{range_with_len}
use Rattle.std.specs.Int.{from_bool}
use mathlib.Core.Bool.{xor}
use Rattle.ht_scramble.specs.Sequence.{delayed, sequence, first_seven, scrambled, polarity_at}

-- bits of the sequence as numbers
bits_from : ℕ → ℕ → ℕ → List ℕ
bits_from seed start count = map (λ t. from_bool (sequence seed t)) (range_with_len start count)

-- 00001110 11110010 11001001 00000010 00100110 00101110 1011, from the all-ones state
all_ones : bits_from 127 0 52 ≡
    0 ∷ 0 ∷ 0 ∷ 0 ∷ 1 ∷ 1 ∷ 1 ∷ 0 ∷ 1 ∷ 1 ∷ 1 ∷ 1 ∷ 0 ∷ 0 ∷ 1 ∷ 0 ∷ 1 ∷ 1 ∷ 0 ∷ 0 ∷ 1 ∷ 0 ∷ 0 ∷ 1 ∷ 0 ∷ 0
    ∷ 0 ∷ 0 ∷ 0 ∷ 0 ∷ 1 ∷ 0 ∷ 0 ∷ 0 ∷ 1 ∷ 0 ∷ 0 ∷ 1 ∷ 1 ∷ 0 ∷ 0 ∷ 0 ∷ 1 ∷ 0 ∷ 1 ∷ 1 ∷ 1 ∷ 0 ∷ 1 ∷ 0 ∷ 1 ∷ 1 ∷ []
unfolding xor bits_from sequence delayed
all_ones = refl

-- the last seven of 127 are ones, and then the sequence begins again
ends : bits_from 127 120 15 ≡ 1 ∷ 1 ∷ 1 ∷ 1 ∷ 1 ∷ 1 ∷ 1 ∷ 0 ∷ 0 ∷ 0 ∷ 0 ∷ 1 ∷ 1 ∷ 1 ∷ 0 ∷ []
unfolding xor bits_from sequence delayed
ends = refl

-- SERVICE and the octet a5 from the all-ones state: 00001110 11110010 01101100
service_and_a5 : scrambled 127
    (false ∷ false ∷ false ∷ false ∷ false ∷ false ∷ false ∷ false ∷ false ∷ false ∷ false ∷ false ∷ false ∷ false ∷ false ∷ false ∷ true ∷ false
    ∷ true ∷ false ∷ false ∷ true ∷ false ∷ true ∷ [])
    ≡ false ∷ false ∷ false ∷ false ∷ true ∷ true ∷ true ∷ false ∷ true ∷ true ∷ true ∷ true
    ∷ false ∷ false ∷ true ∷ false ∷ false ∷ true ∷ true ∷ false ∷ true ∷ true ∷ false ∷ false ∷ []
unfolding xor sequence delayed
service_and_a5 = refl

first_of_127 : first_seven 127 ≡ false ∷ false ∷ false ∷ false ∷ true ∷ true ∷ true ∷ []
unfolding xor sequence delayed
first_of_127 = refl

-- zeros become the sequence, and the sequence zeros
there_and_back : (scrambled 127 (replicate 8 false) ≡ false ∷ false ∷ false ∷ false ∷ true ∷ true ∷ true ∷ false ∷ [])
    × (scrambled 127 (false ∷ false ∷ false ∷ false ∷ true ∷ true ∷ true ∷ []) ≡ replicate 7 false)
unfolding xor sequence delayed
there_and_back = (refl, refl)

-- the polarity of the symbols 0, 3, 4 and 126
polarities : map polarity_at (0 ∷ 3 ∷ 4 ∷ 126 ∷ []) ≡ pos 1 ∷ pos 1 ∷ negsuc 0 ∷ negsuc 0 ∷ []
unfolding xor polarity_at sequence delayed
polarities = refl
