-- The bits of SERVICE, octets, tail and pads.
use Rattle.std.proofs.Common.{◌≡◌, ℕ, zero, suc, ◌+◌, ◌-◌, ◌<◌, ◌≤◌, List, [], ◌∷◌, ◌++◌, take, drop}
use Rattle.std.proofs.Common.{replicate, length, Bool, false, get_or, refl, ap, sym, ◌∙◌, arith}
use Rattle.std.proofs.Math.Seq.{take-append_seam}
use Rattle.std.proofs.lemmas.List.{length-append, length-replicate, length-take, length-drop}
use Rattle.std.proofs.lemmas.List.{get_or_append_left, get_or-append_right, get_or-take, get_or-drop, get_or-replicate}
use Rattle.ht_bits.specs.Bits.{bits_of}
use Rattle.ht_bits.proofs.Octets.{length-bits_of}
use Rattle.ht_scramble.specs.Sequence.{scrambled}
use Rattle.ht_scramble.proofs.Lists.{length-scrambled_from}
use Rattle.ht_data.specs.Data.{service_and_octets, data_of, zeroed, scrambled_data_of}

-- zeros behind a list
resized : (xs ys : List Bool) (n len count : ℕ) → len ≡ length xs → n ≡ len + count
    → ys ≡ take n xs ++ replicate (n - len) false → ys ≡ xs ++ replicate count false
resized xs ys n len count dl dn e =
    let rest : n - len ≡ count = omega arith in
    let long : take n xs ≡ xs = all xs n (omega arith) in
    e ∙ ap (λ (l : List Bool). l ++ replicate (n - len) false) long ∙ ap (λ (k : ℕ). xs ++ replicate k false) rest
  where
    all : (xs : List Bool) (n : ℕ) → length xs ≤ n → take n xs ≡ xs
    all [] zero le = refl
    all [] (suc n) le = refl
    all (x ∷ xs) zero le = absurd (omega arith)
    all (x ∷ xs) (suc n) le = ap (λ (l : List Bool). x ∷ l) (all xs n (omega arith))

pub data-built : (bytes : List ℕ) (none service both psdu out : List Bool) (n len count : ℕ) → none ≡ [] → service ≡ none ++ replicate 16 false
    → both ≡ service ++ psdu → psdu ≡ bits_of bytes → len ≡ length both → n ≡ len + count → out ≡ take n both ++ replicate (n - len) false
    → out ≡ data_of bytes count
data-built bytes none service both psdu out n len count is_none is_service is_both is_psdu is_len is_n is_out =
    let start : service ≡ replicate 16 false = is_service ∙ ap (λ (l : List Bool). l ++ replicate 16 false) is_none in
    let octets : both ≡ replicate 16 false ++ bits_of bytes =
    is_both ∙ ap (λ (l : List Bool). l ++ psdu) start ∙ ap (λ (l : List Bool). replicate 16 false ++ l) is_psdu in
    resized both out n len count is_len is_n is_out
    ∙ ap (λ (l : List Bool). l ++ replicate count false) octets

pub length-data_of : (octets : List ℕ) (zeros : ℕ) → length (data_of octets zeros) ≡ service_and_octets octets + zeros
length-data_of octets zeros =
    omega (
      arith,
      length-append (replicate 16 false ++ bits_of octets) (replicate zeros false),
      length-append (replicate 16 false) (bits_of octets),
      length-replicate 16 false,
      length-replicate zeros false,
      length-bits_of octets,
    )

pub length-scrambled : (seed : ℕ) (octets : List ℕ) (zeros : ℕ) → length (scrambled seed (data_of octets zeros)) ≡ service_and_octets octets + zeros
length-scrambled seed octets zeros = length-scrambled_from seed 0 (data_of octets zeros) ∙ length-data_of octets zeros

length-zeroed : (at count : ℕ) (bits : List Bool) → at + count ≤ length bits → length (zeroed at count bits) ≡ length bits
length-zeroed at count bits le =
    omega (
      arith,
      length-append (take at bits ++ replicate count false) (drop (at + count) bits),
      length-append (take at bits) (replicate count false),
      length-replicate count false,
      length-take at bits,
      length-drop (at + count) bits,
    )

-- tail and pads stand behind SERVICE and the octets
pub length-scrambled_data_of : (seed : ℕ) (octets : List ℕ) (tail pads : ℕ)
    → length (scrambled_data_of seed octets tail pads) ≡ service_and_octets octets + (tail + pads)
length-scrambled_data_of seed octets tail pads =
    let all = length-scrambled seed octets (tail + pads) in
    length-zeroed (service_and_octets octets) tail (scrambled seed (data_of octets (tail + pads))) (omega arith) ∙ all

-- bits stay as many when they are scrambled
pub within-scrambled : (bits new : List Bool) (seed most : ℕ) → most ≤ length bits → new ≡ scrambled seed bits → most ≤ length new
within-scrambled bits new seed most le is = omega (arith, ap length is, length-scrambled_from seed 0 bits)

-- what is written into a whole vector is what it has
pub rewritten : (bits old : List Bool) (len : ℕ) → length bits ≡ len → take len (bits ++ drop (length bits) old) ≡ bits
rewritten bits old len same = ap (λ (n : ℕ). take n (bits ++ drop (length bits) old)) (sym same) ∙ take-append_seam bits (drop (length bits) old)

-- bits with zeros in the place of some
pub zeroed-at : (bits : List Bool) (at count k : ℕ) → at + count ≤ length bits
    → ((k < at → get_or (zeroed at count bits) k false ≡ get_or bits k false)
    × (at ≤ k → k < at + count → get_or (zeroed at count bits) k false ≡ false)
    × (at + count ≤ k → get_or (zeroed at count bits) k false ≡ get_or bits k false))
zeroed-at bits at count k le =
    let low : length (take at bits) ≡ at = omega (arith, length-take at bits) in
    let mid : length (take at bits ++ replicate count false) ≡ at + count =
    omega (arith, length-append (take at bits) (replicate count false), length-replicate count false) in (
      λ lt.
          get_or_append_left (take at bits ++ replicate count false) (drop (at + count) bits) false k (omega arith)
          ∙ get_or_append_left (take at bits) (replicate count false) false k (omega arith)
          ∙ get_or-take at bits k false lt,
      λ ge lt.
          get_or_append_left (take at bits ++ replicate count false) (drop (at + count) bits) false k (omega arith)
          ∙ get_or-append_right (take at bits) (replicate count false) at k false low ge
          ∙ get_or-replicate count (k - at) false false (omega arith),
      λ ge.
          let back : at + count + (k - (at + count)) ≡ k = omega arith in
          get_or-append_right (take at bits ++ replicate count false) (drop (at + count) bits) (at + count) k false mid ge
          ∙ get_or-drop (at + count) bits (k - (at + count)) false
          ∙ ap (λ (x : ℕ). get_or bits x false) back,
    )
