-- Scrambled lists by their places, and scrambled twice.
use Rattle.std.proofs.Common.{◌≡◌, ℕ, zero, suc, ◌+◌, ◌<◌, [], ◌∷◌, List, Bool, true, false, length, get_or, refl, ap, ◌∙◌, arith}
use mathlib.Core.Bool.{xor}
use Rattle.ht_scramble.specs.Sequence.{sequence, scrambled_from, scrambled}

pub length-scrambled_from : (seed s : ℕ) (bits : List Bool) → length (scrambled_from seed s bits) ≡ length bits
length-scrambled_from seed s [] = refl
length-scrambled_from seed s (first ∷ rest) = ap (λ n. suc n) (length-scrambled_from seed (suc s) rest)

scrambled_from-at : (seed s : ℕ) (bits : List Bool) (t : ℕ) → t < length bits
    → get_or (scrambled_from seed s bits) t false ≡ xor (get_or bits t false) (sequence seed (s + t))
scrambled_from-at seed s [] t lt = absurd (omega arith)
scrambled_from-at seed s (first ∷ rest) zero lt =
    let e : s ≡ s + 0 = omega arith in ap (λ n. xor first (sequence seed n)) e
scrambled_from-at seed s (first ∷ rest) (suc t) lt =
    let e : suc s + t ≡ s + suc t = omega arith in
    scrambled_from-at seed (suc s) rest t (omega arith) ∙ ap (λ n. xor (get_or rest t false) (sequence seed n)) e

pub scrambled-at : (seed : ℕ) (bits : List Bool) (t : ℕ) → t < length bits → get_or (scrambled seed bits) t false ≡ xor (get_or bits t false) (sequence seed t)
scrambled-at seed bits t lt =
    let e : 0 + t ≡ t = omega arith in
    scrambled_from-at seed 0 bits t lt ∙ ap (λ n. xor (get_or bits t false) (sequence seed n)) e

-- a list that has the scrambled bit at each place is the scrambled one
from_places : (seed s : ℕ) (old new : List Bool) → length new ≡ length old
    → ((k : ℕ) → k < length new → get_or new k false ≡ xor (get_or old k false) (sequence seed (s + k))) → new ≡ scrambled_from seed s old
from_places seed s [] [] long at = refl
from_places seed s [] (y ∷ ys) long at = absurd (omega (arith, long))
from_places seed s (x ∷ xs) [] long at = absurd (omega (arith, long))
from_places seed s (x ∷ xs) (y ∷ ys) long at =
    let e : s + 0 ≡ s = omega arith in
    let here : y ≡ xor x (sequence seed s) = at 0 (omega arith) ∙ ap (λ n. xor x (sequence seed n)) e in
    ap (λ b. b ∷ ys) here
    ∙ ap (λ zs. xor x (sequence seed s) ∷ zs)
    (from_places seed (suc s) xs ys (omega (arith, long))
    (λ k lt. let f : s + suc k ≡ suc s + k = omega arith in at (suc k) (omega arith) ∙ ap (λ n. xor (get_or xs k false) (sequence seed n)) f))

pub scrambled-from_places : (seed : ℕ) (old new : List Bool) → length new ≡ length old
    → ((k : ℕ) → k < length new → get_or new k false ≡ xor (get_or old k false) (sequence seed k)) → new ≡ scrambled seed old
scrambled-from_places seed old new long at =
    from_places seed 0 old new long (λ k lt. let e : k ≡ 0 + k = omega arith in at k lt ∙ ap (λ n. xor (get_or old k false) (sequence seed n)) e)

xor_twice : (a b : Bool) → xor (xor a b) b ≡ a
unfolding xor
xor_twice false false = refl
xor_twice false true = refl
xor_twice true false = refl
xor_twice true true = refl

pub scrambled_from-twice : (seed s : ℕ) (bits : List Bool) → scrambled_from seed s (scrambled_from seed s bits) ≡ bits
scrambled_from-twice seed s [] = refl
scrambled_from-twice seed s (first ∷ rest) =
    ap (λ b. b ∷ scrambled_from seed (suc s) (scrambled_from seed (suc s) rest)) (xor_twice first (sequence seed s))
    ∙ ap (λ bs. first ∷ bs) (scrambled_from-twice seed (suc s) rest)
