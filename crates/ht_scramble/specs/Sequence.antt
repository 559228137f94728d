-- The scrambling sequence, of the generator x^7 + x^4 + 1 (IEEE Std 802.11-2012, clause 18.3.5.5).
use Rattle.std.specs.Prelude.{◌≤◌, ℕ, zero, suc, ℤ, pos, negsuc, List, [], ◌∷◌, Bool, true, false, slice_index_or}
use Rattle.std.specs.Bool.{xor}
use Rattle.ht_bits.specs.Bits.{bit, number_of}

-- a seed is a number of seven bits that isn't 0
abbrev pub IsSeed : ℕ → Type 0
IsSeed value = (1 ≤ value) × (value ≤ 127)

-- s(t - 7) at t: bit i of the seed stands at -1 - i, and from 0 on s(t) = s(t - 7) xor s(t - 4)
unfoldable pub delayed : ℕ → ℕ → Bool
delayed seed zero = bit seed 6
delayed seed (suc zero) = bit seed 5
delayed seed (suc (suc zero)) = bit seed 4
delayed seed (suc (suc (suc zero))) = bit seed 3
delayed seed (suc (suc (suc (suc zero)))) = bit seed 2
delayed seed (suc (suc (suc (suc (suc zero))))) = bit seed 1
delayed seed (suc (suc (suc (suc (suc (suc zero)))))) = bit seed 0
delayed seed (suc (suc (suc (suc (suc (suc (suc t))))))) =
    xor (delayed seed t) (delayed seed (suc (suc (suc t))))

-- s(t)
unfoldable pub sequence : ℕ → ℕ → Bool
sequence seed t = delayed seed (suc (suc (suc (suc (suc (suc (suc t)))))))

-- s(0) to s(6)
abbrev pub first_seven : ℕ → List Bool
first_seven seed =
    sequence seed 0 ∷ sequence seed 1 ∷ sequence seed 2 ∷ sequence seed 3
    ∷ sequence seed 4 ∷ sequence seed 5 ∷ sequence seed 6 ∷ []

-- the bits of the seed whose sequence begins with these: s(t - 7) = s(t) xor s(t - 4), for t from 6 down to 0
abbrev pub seed_bits : Bool → Bool → Bool → Bool → Bool → Bool → Bool → List Bool
seed_bits s0 s1 s2 s3 s4 s5 s6 =
    xor s6 s2 ∷ xor s5 s1 ∷ xor s4 s0 ∷ xor s3 (xor s6 s2)
    ∷ xor s2 (xor s5 s1) ∷ xor s1 (xor s4 s0) ∷ xor s0 (xor s3 (xor s6 s2)) ∷ []

-- the seed of the first seven bits of a list; 0, which is no seed, where all of them are 0
abbrev pub seed_of : List Bool → ℕ
seed_of bits =
    let first : ℕ → Bool = λ t. slice_index_or bits t false in
    number_of (seed_bits (first 0) (first 1) (first 2) (first 3) (first 4) (first 5) (first 6))

-- bits from place t on, each added to that of the sequence
abbrev pub scrambled_from : ℕ → ℕ → List Bool → List Bool
scrambled_from seed t [] = []
scrambled_from seed t (first ∷ rest) = xor first (sequence seed t) ∷ scrambled_from seed (suc t) rest

-- bit t has s(t) added
abbrev pub scrambled : ℕ → List Bool → List Bool
scrambled seed bits = scrambled_from seed 0 bits

-- 1 for a bit that is 0, -1 for a bit that is 1
abbrev pub sign : Bool → ℤ
sign false = pos 1
sign true = negsuc 0

-- p[t], the pilot polarity: the sign of s(t) from the all-ones state (clause 18.3.5.10)
unfoldable pub polarity_at : ℕ → ℤ
polarity_at t = sign (sequence 127 t)
