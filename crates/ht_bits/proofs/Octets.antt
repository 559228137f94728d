-- Octets, their bits, and the numbers that bits give.
use Rattle.std.proofs.Common.{◌≡◌, ℕ, zero, suc, ◌+◌, ◌-◌, ◌*◌, ◌/◌, ◌%◌, ◌^◌, ◌<◌, ◌≤◌, List, [], ◌∷◌, ◌++◌, Bool, true, false}
use Rattle.std.proofs.Common.{◌==◌, length, get_or, take, drop, slice_range, append_assoc, refl, ap, sym, ◌∙◌, subst, arith, lit<}
use Rattle.std.specs.Int.{bit_at, from_bool}
use Rattle.std.proofs.Math.Nat.{pow-suc, pow-le-pow_right, mod-eq_of_lt}
use Rattle.std.proofs.lemmas.List.{take_more, length-take-le, length-drop, drop-drop}
use Rattle.std.proofs.lemmas.Bool.{agree_below, agree_below_at, eqb-true}
use Rattle.std.proofs.lemmas.Nat.Bits.{bit_at_lowest, bit_at-suc}
use Rattle.ht_bits.specs.Bits.{bit, octet_bits, bits_of, number_of, octets_of}

-- ---- numbers and bits
pub from_bool-lt : (b : Bool) → from_bool b < 2
from_bool-lt false = omega arith
from_bool-lt true = omega arith

-- a number of n bits is below 2^n
pub number_of-lt : (bits : List Bool) → number_of bits < 2 ^ length bits
number_of-lt [] = omega arith
number_of-lt (first ∷ rest) = omega (arith, number_of-lt rest, from_bool-lt first, pow-suc 2 (length rest))

-- one more bit at the end
pub number_of-push : (bits : List Bool) (last : Bool) → number_of (bits ++ last ∷ []) ≡ number_of bits + from_bool last * 2 ^ length bits
number_of-push [] last = omega arith
number_of-push (first ∷ rest) last = grind (arith, number_of-push rest last, pow-suc 2 (length rest))

lowest : (b : Bool) (n : ℕ) → (from_bool b + 2 * n) % 2 ≡ from_bool b
lowest false n = omega arith
lowest true n = omega arith

half : (b : Bool) (n : ℕ) → (from_bool b + 2 * n) / 2 ≡ n
half false n = omega arith
half true n = omega arith

is_one : (b : Bool) → (from_bool b == 1) ≡ b
is_one false = refl
is_one true = refl

-- bit k of a number is the one at k of the bits that give it
pub bit-number_of : (bits : List Bool) (k : ℕ) → k < length bits → bit (number_of bits) k ≡ get_or bits k false
bit-number_of [] k lt = absurd (omega arith)
bit-number_of (first ∷ rest) zero lt =
    ap (λ n. n == 1) (bit_at_lowest (number_of (first ∷ rest)) ∙ lowest first (number_of rest)) ∙ is_one first
bit-number_of (first ∷ rest) (suc k) lt =
    ap (λ n. n == 1) (bit_at-suc (number_of (first ∷ rest)) k ∙ ap (λ n. bit_at n k) (half first (number_of rest)))
    ∙ bit-number_of rest k (omega arith)

-- ---- one octet
-- eight bits, each of which is that of an octet, are the octet's
pub octet_bits-from : (bits : List Bool) (octet : ℕ) → length bits ≡ 8
    → ((k : ℕ) → k < 8 → get_or bits k false ≡ bit octet k) → bits ≡ octet_bits octet
unfolding octet_bits
octet_bits-from (a ∷ b ∷ c ∷ d ∷ e ∷ f ∷ g ∷ h ∷ []) octet long at =
    let p0 : a ≡ bit octet 0 = at 0 (lit< tt) in
    let p1 : b ≡ bit octet 1 = at 1 (lit< tt) in
    let p2 : c ≡ bit octet 2 = at 2 (lit< tt) in
    let p3 : d ≡ bit octet 3 = at 3 (lit< tt) in
    let p4 : e ≡ bit octet 4 = at 4 (lit< tt) in
    let p5 : f ≡ bit octet 5 = at 5 (lit< tt) in
    let p6 : g ≡ bit octet 6 = at 6 (lit< tt) in
    let p7 : h ≡ bit octet 7 = at 7 (lit< tt) in
    cc
octet_bits-from bits octet long at = absurd (omega (arith, long))

-- an octet has the bits that give it
pub octet_bits-number_of : (bits : List Bool) → length bits ≡ 8 → octet_bits (number_of bits) ≡ bits
octet_bits-number_of bits long =
    sym (octet_bits-from bits (number_of bits) long (λ k lt. sym (bit-number_of bits k (omega arith))))

returns_to : ℕ → Bool
returns_to octet = number_of (octet_bits octet) == octet

every_octet : agree_below returns_to (λ _. true) 256 ≡ true
unfolding returns_to octet_bits
every_octet = refl

-- an octet is what its bits give
pub number_of-octet_bits : (octet : ℕ) → octet < 256 → number_of (octet_bits octet) ≡ octet
unfolding returns_to
number_of-octet_bits octet lt = eqb-true _ _ (agree_below_at returns_to (λ _. true) 256 octet every_octet lt)

-- ---- lists of octets
pub length-bits_of : (octets : List ℕ) → length (bits_of octets) ≡ 8 * length octets
unfolding octet_bits
length-bits_of [] = omega arith
length-bits_of (octet ∷ octets) = omega (arith, length-bits_of octets)

octet_bits-at : (octet : ℕ) (rest : List Bool) (i : ℕ) → i < 8 → get_or (octet_bits octet ++ rest) i false ≡ bit octet i
unfolding octet_bits
octet_bits-at octet rest zero lt = refl
octet_bits-at octet rest (suc zero) lt = refl
octet_bits-at octet rest (suc (suc zero)) lt = refl
octet_bits-at octet rest (suc (suc (suc zero))) lt = refl
octet_bits-at octet rest (suc (suc (suc (suc zero)))) lt = refl
octet_bits-at octet rest (suc (suc (suc (suc (suc zero))))) lt = refl
octet_bits-at octet rest (suc (suc (suc (suc (suc (suc zero)))))) lt = refl
octet_bits-at octet rest (suc (suc (suc (suc (suc (suc (suc zero))))))) lt = refl
octet_bits-at octet rest (suc (suc (suc (suc (suc (suc (suc (suc i)))))))) lt = absurd (omega arith)

octet_bits-after : (octet : ℕ) (rest : List Bool) (i : ℕ) → get_or (octet_bits octet ++ rest) (8 + i) false ≡ get_or rest i false
unfolding octet_bits
octet_bits-after octet rest i =
    let e : 8 + i ≡ suc (suc (suc (suc (suc (suc (suc (suc i))))))) = omega arith in
    ap (λ n. get_or (octet_bits octet ++ rest) n false) e

-- bit 8 * m + i is bit i of octet m
pub bits_of-at : (octets : List ℕ) (m i : ℕ) → m < length octets → i < 8 → get_or (bits_of octets) (8 * m + i) false ≡ bit (get_or octets m 0) i
bits_of-at [] m i within lt = absurd (omega arith)
bits_of-at (octet ∷ octets) zero i within lt =
    let e : 8 * 0 + i ≡ i = omega arith in
    ap (λ n. get_or (bits_of (octet ∷ octets)) n false) e ∙ octet_bits-at octet (bits_of octets) i lt
bits_of-at (octet ∷ octets) (suc m) i within lt =
    let e : 8 * suc m + i ≡ 8 + (8 * m + i) = omega arith in
    ap (λ n. get_or (bits_of (octet ∷ octets)) n false) e
    ∙ octet_bits-after octet (bits_of octets) (8 * m + i)
    ∙ bits_of-at octets m i (omega arith) lt

octets_of-octet : (octet : ℕ) (rest : List Bool) → octets_of (octet_bits octet ++ rest) ≡ number_of (octet_bits octet) ∷ octets_of rest
unfolding octet_bits
octets_of-octet octet rest = refl

-- octets are what their bits give
pub octets_of-bits_of : (octets : List ℕ) → ((k : ℕ) → k < length octets → get_or octets k 0 < 256) → octets_of (bits_of octets) ≡ octets
octets_of-bits_of [] small = refl
octets_of-bits_of (octet ∷ octets) small =
    octets_of-octet octet (bits_of octets)
    ∙ ap (λ n. n ∷ octets_of (bits_of octets)) (number_of-octet_bits octet (small 0 (omega arith)))
    ∙ ap (λ xs. octet ∷ xs) (octets_of-bits_of octets (λ k lt. small (suc k) (omega arith)))

-- eight bits at a time
pub bits_of-octets_of : (bits : List Bool) → length bits % 8 ≡ 0 → bits_of (octets_of bits) ≡ bits
bits_of-octets_of (a ∷ b ∷ c ∷ d ∷ e ∷ f ∷ g ∷ h ∷ rest) whole =
    ap (λ xs. xs ++ bits_of (octets_of rest)) (octet_bits-number_of (a ∷ b ∷ c ∷ d ∷ e ∷ f ∷ g ∷ h ∷ []) refl)
    ∙ ap (λ xs. a ∷ b ∷ c ∷ d ∷ e ∷ f ∷ g ∷ h ∷ xs) (bits_of-octets_of rest (omega arith))
bits_of-octets_of [] whole = refl
bits_of-octets_of bits whole = absurd (omega arith)

-- ---- the loops
-- one more bit of an octet
pub octet-step : (bits : List Bool) (place octet value : ℕ) → length bits ≤ 8 → place < length bits
    → octet ≡ number_of (take place bits) → value ≡ from_bool (get_or bits place false)
    → (octet + value * 2 ^ place % 256 < 256) × (octet + value * 2 ^ place % 256 ≡ number_of (take (place + 1) bits))
octet-step bits place octet value long lt was is = (omega (arith, same, below, room), same)
  where
    more : number_of (take (place + 1) bits) ≡ octet + value * 2 ^ place
    more =
        ap number_of (take_more bits place false (omega arith))
        ∙ number_of-push (take place bits) (get_or bits place false)
        ∙ ap (λ n. number_of (take place bits) + from_bool (get_or bits place false) * 2 ^ n) (length-take-le place bits (omega arith))
        ∙ ap (λ n. n + from_bool (get_or bits place false) * 2 ^ place) (sym was)
        ∙ ap (λ n. octet + n * 2 ^ place) (sym is)

    below : number_of (take (place + 1) bits) < 2 ^ (place + 1)
    below = subst (λ n. number_of (take (place + 1) bits) < 2 ^ n) (length-take-le (place + 1) bits (omega arith)) (number_of-lt (take (place + 1) bits))

    room : 2 ^ (place + 1) ≤ 256
    room = pow-le-pow_right (omega arith) {j = 8} (omega arith)

    same : octet + value * 2 ^ place % 256 ≡ number_of (take (place + 1) bits)
    same = ap (λ n. octet + n) (mod-eq_of_lt (omega (arith, more, below, room))) ∙ sym more

-- the first octet of eight bits or more
octets_of-first : (bits : List Bool) → 8 ≤ length bits → octets_of bits ≡ number_of (take 8 bits) ∷ octets_of (drop 8 bits)
octets_of-first (a ∷ b ∷ c ∷ d ∷ e ∷ f ∷ g ∷ h ∷ rest) enough = refl
octets_of-first bits enough = absurd (omega arith)

-- one more octet
pub octets-step : (bits : List Bool) (m octet : ℕ) (old new all : List ℕ) → m < length bits / 8
    → octet ≡ number_of (slice_range bits (8 * m) (8 * (m + 1))) → new ≡ old ++ octet ∷ []
    → old ++ octets_of (drop (8 * m) bits) ≡ all → new ++ octets_of (drop (8 * (m + 1)) bits) ≡ all
octets-step bits m octet old new all within is pushed was =
    let long : 8 ≤ length (drop (8 * m) bits) = omega (arith, length-drop (8 * m) bits) in
    let width : 8 * (m + 1) - 8 * m ≡ 8 = omega arith in
    let next : octet ≡ number_of (take 8 (drop (8 * m) bits)) = is ∙ ap (λ n. number_of (take n (drop (8 * m) bits))) width in
    let end : 8 * m + 8 ≡ 8 * (m + 1) = omega arith in
    let later : drop 8 (drop (8 * m) bits) ≡ drop (8 * (m + 1)) bits = drop-drop 8 (8 * m) bits ∙ ap (λ n. drop n bits) end in
    ap (λ xs. xs ++ octets_of (drop (8 * (m + 1)) bits)) pushed
    ∙ append_assoc old (octet ∷ []) (octets_of (drop (8 * (m + 1)) bits))
    ∙ ap (λ n. old ++ (n ∷ octets_of (drop (8 * (m + 1)) bits))) next
    ∙ ap (λ xs. old ++ (number_of (take 8 (drop (8 * m) bits)) ∷ octets_of xs)) (sym later)
    ∙ ap (λ xs. old ++ xs) (sym (octets_of-first (drop (8 * m) bits) long))
    ∙ was
