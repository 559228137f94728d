-- Inputs in words that are put together and descrambled, eight bits at a time.
use Rattle.std.proofs.Common.{◌≡◌, ◌∙◌, ◌⊎◌, inl, inr, ℕ, zero, suc, ◌+◌, ◌-◌, ◌*◌, ◌/◌, ◌%◌, ◌^◌, ◌<◌, ◌≤◌, List, [], ◌∷◌, ◌++◌}
use Rattle.std.proofs.Common.{Bool, true, false, ◌&&◌, ◌||◌, ◌==◌, length, take, drop, replicate, get_or, refl, ap, sym, subst, arith}
use Rattle.std.specs.Prelude.{◌≢◌, if◌then◌else◌, Result, Ok, Err, IfOk}
use mathlib.Core.Bool.{xor}
use Rattle.std.specs.Int.{bit_at}
use Rattle.std.specs.Int.RustNames.{bit_and, bit_or, bit_xor}
use Rattle.std.proofs.lemmas.Bool.{agree_below, agree_below_at, and_parts, cases_lt, eqb-true}
use Rattle.std.proofs.lemmas.List.{ext_get_or, get_or-append_right, get_or-drop, get_or-take, get_or_append_left, length-drop, length-take-le}
use Rattle.std.proofs.lemmas.List.FromFn.{length-map-range_with_len, get_or-map-range_with_len}
use Rattle.std.proofs.lemmas.Nat.{and_le_r}
use Rattle.std.proofs.lemmas.Nat.Bits.{bit_at_above, bit_at_cat_high, bit_at_cat_low, bit_at-zero}
use Rattle.ht_bits.specs.Bits.{bits_of, number_of, octets_of}
use Rattle.ht_bits.proofs.Octets.{bits_of-at, length-bits_of, octets_of-bits_of}
use Rattle.ht_parse.specs.Encoders.{list_of}
use Rattle.ht_rate.specs.declared.kinds.Pattern.{Pattern}
use Rattle.ht_rate.specs.declared.rates.Rate.{Rate}
use Rattle.ht_rate.specs.Rates.{encoders_of, pattern_of, steps_of}
use Rattle.ht_rate.proofs.RateFacts.{encoders_of-range}
use Rattle.ht_scramble.specs.Sequence.{delayed, scrambled, seed_of, sequence}
use Rattle.ht_scramble.proofs.Lists.{length-scrambled_from, scrambled-at}
use Rattle.ht_scramble.proofs.Shifts.{sequence-later}
use Rattle.ht_viterbi.specs.Packed.{flag, word_steps}
use Rattle.ht_clean.specs.Sparse.{input_bit, unpacked}
use Rattle.ht_clean.proofs.Flags.{cut, flag-or, flag-shr, flag-xor, or-none}
use Rattle.ht_clean.proofs.Words.{unpacked-at}
use Rattle.ht_inverse.specs.declared.outcome.Outcome.TheVariants.{Octets, SeedZero}
use Rattle.ht_inverse.specs.Decoding.{joined_bits, outcome_of}
use Rattle.ht_inverse.specs.Words.{HasSequence, Hold, first_bits, word_bit, word_bits}
use Rattle.ht_inverse.proofs.Codewords.{data-bits}
use Rattle.ht_inverse.proofs.Marked.{map-range-same}
use Rattle.ht_inverse.proofs.Outcomes.{octets-is, zero-is}

-- ---- two octets in turns
abbrev pairs : ℕ → ℕ
pairs n = bit_and (bit_or n (n * 4 % 4294967296)) 13107

abbrev apart : ℕ → ℕ
apart n = bit_and (bit_or n (n * 2 % 4294967296)) 21845

abbrev together : ℕ → ℕ
together n = bit_and (bit_or n (n / 128)) 255

abbrev turned : ℕ → ℕ → ℕ
turned low high = together (apart (pairs (bit_or low (high * 256 % 4294967296))))

take_turns : ℕ → ℕ → Bool
take_turns low high =
    agree_below (λ k. flag (turned low high) (2 * k)) (λ k. flag low k) 4
    && agree_below (λ k. flag (turned low high) (2 * k + 1)) (λ k. flag high k) 4

turns_test : agree_below (λ n. take_turns (n % 16) (n / 16)) (λ _. true) 256 ≡ true
unfolding take_turns
turns_test = refl

take-turns : (low high : ℕ) → low < 16 → high < 16 → take_turns low high ≡ true
take-turns low high small few =
    let n : ℕ = 16 * high + low in
    let front : n % 16 ≡ low = omega (arith, small) in
    let back : n / 16 ≡ high = omega (arith, small) in
    ap (λ (a : ℕ). take_turns a high) (sym front)
    ∙ (ap (λ (b : ℕ). take_turns (n % 16) b) (sym back)
    ∙ agree_below_at (λ m. take_turns (m % 16) (m / 16)) (λ _. true) 256 n turns_test (omega (arith, small, few)))

pub in-turns : (first second low high k : ℕ) → low ≡ bit_and first 15 → high ≡ bit_and second 15 → k < 4
    → (flag (turned low high) (2 * k) ≡ flag first k) × (flag (turned low high) (2 * k + 1) ≡ flag second k)
unfolding take_turns
in-turns first second low high k low-is high-is lt =
    let small : low < 16 = let h = and_le_r first 15 in omega (arith, h, low-is) in
    let few : high < 16 = let h = and_le_r second 15 in omega (arith, h, high-is) in
    let both = and_parts _ _ (take-turns low high small few) in (
      agree_below_at (λ j. flag (turned low high) (2 * j)) (λ j. flag low j) 4 k both.0 lt ∙ (ap (λ (n : ℕ). flag n k) low-is ∙ cut first 4 k (omega arith) lt),
      agree_below_at (λ j. flag (turned low high) (2 * j + 1)) (λ j. flag high j) 4 k both.1 lt
          ∙ (ap (λ (n : ℕ). flag n k) high-is ∙ cut second 4 k (omega arith) lt),
    )

halves : (k : ℕ) → (k ≡ 2 * (k / 2)) ⊎ (k ≡ 2 * (k / 2) + 1)
halves k = elim (cases_lt (k % 2) 1) [
  | inl even ↦ inl (omega (arith, even))
  | inr odd ↦ inr (omega (arith, odd))
]

-- eight bits of two inputs in turns
pub turned-at : (pattern : Pattern) (first second : List ℕ) (found a b at k : ℕ)
    → ((j : ℕ) → j < 4 → (flag found (2 * j) ≡ flag a j) × (flag found (2 * j + 1) ≡ flag b j))
    → ((j : ℕ) → j < 8 → flag a j ≡ input_bit pattern first (4 * at + j))
    → ((j : ℕ) → j < 8 → flag b j ≡ input_bit pattern second (4 * at + j))
    → k < 8 → flag found k ≡ word_bit pattern true first second (8 * at + k)
turned-at pattern first second found a b at k turns fs gs lt = elim (halves k) [
  | inl even ↦
      let rest : (8 * at + k) % 2 ≡ 0 = omega (arith, even) in
      let half : (8 * at + k) / 2 ≡ 4 * at + k / 2 = omega (arith, even) in
      ap (flag found) even
      ∙ ((turns (k / 2) (omega (arith, lt))).0
      ∙ (fs (k / 2) (omega (arith, lt))
      ∙ (ap (input_bit pattern first) (sym half)
      ∙ ap (λ (n : ℕ). input_bit pattern (if n == 0 then first else second) ((8 * at + k) / 2)) (sym rest))))
  | inr odd ↦
      let rest : (8 * at + k) % 2 ≡ 1 = omega (arith, odd) in
      let half : (8 * at + k) / 2 ≡ 4 * at + k / 2 = omega (arith, odd) in
      ap (flag found) odd
      ∙ ((turns (k / 2) (omega (arith, lt))).1
      ∙ (gs (k / 2) (omega (arith, lt))
      ∙ (ap (input_bit pattern second) (sym half)
      ∙ ap (λ (n : ℕ). input_bit pattern (if n == 0 then first else second) ((8 * at + k) / 2)) (sym rest))))
]

-- ---- the sequence
abbrev eleven : ℕ → ℕ
eleven n = bit_or n (bit_and (bit_xor n (n / 8)) 15 * 128 % 4294967296)

abbrev fifteen : ℕ → ℕ
fifteen n = bit_or n (bit_and (bit_xor (n / 16) (n / 128)) 15 * 2048 % 4294967296)

abbrev sixteen : ℕ → ℕ
sixteen n = bit_or n (bit_and (bit_xor (n / 256) (n / 2048)) 1 * 32768 % 4294967296)

abbrev grown : ℕ → ℕ
grown n = sixteen (fifteen (eleven n))

begins_with : ℕ → Bool
begins_with n =
    agree_below (λ k. flag (bit_and (grown n) 255) k) (λ k. sequence (seed_of (first_bits n)) (0 + k)) 8
    && agree_below (λ k. flag (bit_and (grown n / 256) 255) k) (λ k. sequence (seed_of (first_bits n)) (8 + k)) 8

begins_test : agree_below begins_with (λ _. true) 128 ≡ true
unfolding xor begins_with sequence delayed
begins_test = refl

pub first-octet : (n m : ℕ) → n ≡ m → m < 128 → HasSequence (seed_of (first_bits m)) 0 (bit_and (grown n) 255)
unfolding begins_with
first-octet n m is lt k low =
    ap (λ (i : ℕ). flag (bit_and (grown i) 255) k) is
    ∙ agree_below_at (λ j. flag (bit_and (grown m) 255) j) (λ j. sequence (seed_of (first_bits m)) (0 + j)) 8 k
    (and_parts _ _ (agree_below_at begins_with (λ _. true) 128 m begins_test lt)).0 low

pub second-octet : (n m : ℕ) → n ≡ m → m < 128 → HasSequence (seed_of (first_bits m)) 8 (bit_and (grown n / 256) 255)
unfolding begins_with
second-octet n m is lt k low =
    ap (λ (i : ℕ). flag (bit_and (grown i / 256) 255) k) is
    ∙ agree_below_at (λ j. flag (bit_and (grown m / 256) 255) j) (λ j. sequence (seed_of (first_bits m)) (8 + j)) 8 k
    (and_parts _ _ (agree_below_at begins_with (λ _. true) 128 m begins_test lt)).1 low

cancelled : (a b c : Bool) → xor (xor a b) (xor b c) ≡ xor a c
unfolding xor
cancelled false false false = refl
cancelled false false true = refl
cancelled false true false = refl
cancelled false true true = refl
cancelled true false false = refl
cancelled true false true = refl
cancelled true true false = refl
cancelled true true true = refl

-- s(t) = s(t - 14) xor s(t - 8)
sequence-far : (seed t : ℕ) → sequence seed (t + 14) ≡ xor (sequence seed t) (sequence seed (t + 6))
sequence-far seed t =
    let s : ℕ → Bool = sequence seed in
    let a : t + 14 ≡ t + 7 + 7 = omega arith in
    let b : t + 7 + 3 ≡ t + 3 + 7 = omega arith in
    let c : t + 3 + 3 ≡ t + 6 = omega arith in
    ap s a
    ∙ (sequence-later seed (t + 7)
    ∙ (ap (λ (x : Bool). xor x (s (t + 7 + 3))) (sequence-later seed t)
    ∙ (ap (λ (x : Bool). xor (xor (s t) (s (t + 3))) x) (ap s b ∙ (sequence-later seed (t + 3) ∙ ap (λ (n : ℕ). xor (s (t + 3)) (s n)) c))
    ∙ cancelled (s t) (s (t + 3)) (s (t + 6)))))

flag-low : (x i : ℕ) → i < 8 → flag (x % 256) i ≡ flag x i
flag-low x i lt =
    let whole : x / 256 * 2 ^ 8 + x % 256 ≡ x = omega arith in
    ap (λ (n : ℕ). n == 1) (sym (bit_at_cat_low (x / 256) 8 (x % 256) i lt) ∙ ap (λ (n : ℕ). bit_at n i) whole)

six-below : (x i : ℕ) → i < 6 → flag (x * 64 % 256) i ≡ false
six-below x i lt =
    let none : x * 2 ^ 6 + 0 ≡ x * 64 = omega arith in
    flag-low (x * 64) i (omega (arith, lt))
    ∙ ap (λ (n : ℕ). n == 1) (sym (ap (λ (n : ℕ). bit_at n i) none) ∙ (bit_at_cat_low x 6 0 i lt ∙ bit_at-zero i))

six-up : (x i : ℕ) → 6 ≤ i → i < 8 → flag (x * 64 % 256) i ≡ flag x (i - 6)
six-up x i high lt =
    let none : x * 2 ^ 6 + 0 ≡ x * 64 = omega arith in
    flag-low (x * 64) i lt
    ∙ ap (λ (n : ℕ). n == 1) (sym (ap (λ (n : ℕ). bit_at n i) none) ∙ bit_at_cat_high x 6 0 i (omega arith) high)

pub sequence-on : (seed t before last : ℕ) → before < 256 → HasSequence seed t before → HasSequence seed (t + 8) last
    → HasSequence seed (t + 16) (bit_xor (bit_or (before / 4) (last * 64 % 256)) last)
sequence-on seed t before last small old new k lt =
    let s : ℕ → Bool = sequence seed in
    let end : t + 16 + k ≡ t + 2 + k + 14 = omega arith in
    let near : t + 8 + k ≡ t + 2 + k + 6 = omega arith in
    let far : flag (bit_or (before / 4) (last * 64 % 256)) k ≡ s (t + 2 + k) = elim (cases_lt k 6) [
      | inl low ↦
          let same : t + (2 + k) ≡ t + 2 + k = omega arith in
          flag-or (before / 4) (last * 64 % 256) k
          ∙ (or-none (flag (before / 4) k) _ (six-below last k low)
          ∙ (flag-shr before 2 k ∙ (old (2 + k) (omega (arith, low)) ∙ ap s same)))
      | inr high ↦
          let same : t + 8 + (k - 6) ≡ t + 2 + k = omega (arith, high) in
          let none : flag (before / 4) k ≡ false =
          flag-shr before 2 k ∙ ap (λ (n : ℕ). n == 1) (bit_at_above before 8 (2 + k) small (omega (arith, high))) in
          flag-or (before / 4) (last * 64 % 256) k
          ∙ (ap (λ (b : Bool). b || flag (last * 64 % 256) k) none
          ∙ (six-up last k high lt ∙ (new (k - 6) (omega (arith, lt)) ∙ ap s same)))
    ] in
    flag-xor (bit_or (before / 4) (last * 64 % 256)) last k
    ∙ (ap (λ (b : Bool). xor b (flag last k)) far
    ∙ (ap (λ (b : Bool). xor (s (t + 2 + k)) b) (new k lt ∙ ap s near)
    ∙ (sym (sequence-far seed (t + 2 + k)) ∙ ap s (sym end))))

-- ---- the octets
pub word_bits-at : (pattern : Pattern) (two : Bool) (first second : List ℕ) (count t : ℕ) → t < count
    → get_or (word_bits pattern two first second count) t false ≡ word_bit pattern two first second t
unfolding word_bits
word_bits-at pattern two first second count t lt = get_or-map-range_with_len (word_bit pattern two first second) 0 count t t false lt (omega arith)

pub word_bits-length : (pattern : Pattern) (two : Bool) (first second : List ℕ) (count : ℕ) → length (word_bits pattern two first second count) ≡ count
unfolding word_bits
word_bits-length pattern two first second count = length-map-range_with_len (word_bit pattern two first second) 0 count

pub octets-are : (pattern : Pattern) (two : Bool) (first second found : List ℕ) (octets seed : ℕ) → length found ≡ octets
    → ((m k : ℕ) → m < octets → k < 8 → flag (get_or found m 0) k
    ≡ xor (word_bit pattern two first second (16 + (8 * m + k))) (sequence seed (16 + (8 * m + k))))
    → ((m : ℕ) → m < octets → get_or found m 0 < 256)
    → found ≡ octets_of (drop 16 (scrambled seed (word_bits pattern two first second (16 + 8 * octets))))
octets-are pattern two first second found octets seed long bits small =
    let u : List Bool = word_bits pattern two first second (16 + 8 * octets) in
    let d : List Bool = drop 16 (scrambled seed u) in
    let count : length u ≡ 16 + 8 * octets = word_bits-length pattern two first second (16 + 8 * octets) in
    let whole : length d ≡ 8 * octets =
    let a = length-drop 16 (scrambled seed u) in
    let b = length-scrambled_from seed 0 u in
    omega (arith, a, b, count) in
    let many : length (bits_of found) ≡ 8 * octets = let h = length-bits_of found in omega (arith, h, long) in
    let same : bits_of found ≡ d =
    ext_get_or false (bits_of found) d (many ∙ sym whole)
    (λ q lt.
    let low : q < 8 * octets = omega (arith, lt, many) in
    let m : ℕ = q / 8 in
    let k : ℕ = q % 8 in
    let parts : 8 * m + k ≡ q = omega arith in
    let within : m < octets = omega (arith, low) in
    ap (λ (n : ℕ). get_or (bits_of found) n false) (sym parts)
    ∙ (bits_of-at found m k (omega (arith, within, long)) (omega arith)
    ∙ (bits m k within (omega arith)
    ∙ (ap (λ (n : ℕ). xor (word_bit pattern two first second (16 + n)) (sequence seed (16 + n))) parts
    ∙ (ap (λ (b : Bool). xor b (sequence seed (16 + q))) (sym (word_bits-at pattern two first second (16 + 8 * octets) (16 + q) (omega (arith, low))))
    ∙ (sym (scrambled-at seed u (16 + q) (omega (arith, low, count))) ∙ sym (get_or-drop 16 (scrambled seed u) q false))))))) in
    sym (octets_of-bits_of found (λ m lt. small m (omega (arith, lt, long)))) ∙ ap octets_of same

-- ---- the seed
first_bits-at : (n k : ℕ) → k < 7 → get_or (first_bits n) k false ≡ flag n k
first_bits-at n zero lt = refl
first_bits-at n (suc zero) lt = refl
first_bits-at n (suc (suc zero)) lt = refl
first_bits-at n (suc (suc (suc zero))) lt = refl
first_bits-at n (suc (suc (suc (suc zero)))) lt = refl
first_bits-at n (suc (suc (suc (suc (suc zero))))) lt = refl
first_bits-at n (suc (suc (suc (suc (suc (suc zero)))))) lt = refl
first_bits-at n (suc (suc (suc (suc (suc (suc (suc k))))))) lt = absurd (omega (arith, lt))

pub seven-are : (pattern : Pattern) (two : Bool) (first second : List ℕ) (count octet : ℕ) → 7 ≤ count
    → ((k : ℕ) → k < 8 → flag octet k ≡ word_bit pattern two first second (8 * 0 + k))
    → first_bits (bit_and octet 127) ≡ take 7 (word_bits pattern two first second count)
seven-are pattern two first second count octet some are =
    let u : List Bool = word_bits pattern two first second count in
    let long : length u ≡ count = word_bits-length pattern two first second count in
    let seven : length (take 7 u) ≡ 7 = length-take-le 7 u (omega (arith, long, some)) in
    ext_get_or false (first_bits (bit_and octet 127)) (take 7 u) (sym seven)
    (λ k lt.
    let low : k < 7 = omega (arith, lt) in
    let start : 8 * 0 + k ≡ k = omega arith in
    first_bits-at (bit_and octet 127) k low
    ∙ (cut octet 7 k (omega arith) low
    ∙ (are k (omega (arith, low))
    ∙ (ap (word_bit pattern two first second) start
    ∙ (sym (word_bits-at pattern two first second count k (omega (arith, low, some))) ∙ sym (get_or-take 7 u k false low))))))

numbers_test : agree_below (λ n. number_of (first_bits n) == n) (λ _. true) 128 ≡ true
numbers_test = refl

not-zeros : (n : ℕ) → n < 128 → (n ≡ 0 → ⊥) → first_bits n ≢ replicate 7 false
not-zeros n lt some zeros =
    let is : number_of (first_bits n) ≡ n = eqb-true _ _ (agree_below_at (λ m. number_of (first_bits m) == m) (λ _. true) 128 n numbers_test lt) in
    let none : number_of (replicate 7 false) ≡ 0 = refl in
    some (sym is ∙ (ap number_of zeros ∙ none))

-- what the bits come to
pub zero-comes : (bits : List Bool) (n : ℕ) → first_bits n ≡ take 7 bits → n ≡ 0 → SeedZero ≡ outcome_of bits
zero-comes bits n are none = sym (zero-is bits (sym are ∙ ap first_bits none))

pub octets-come : (bits : List Bool) (n : ℕ) (found : List ℕ) → 7 ≤ length bits → n < 128 → (n ≡ 0 → ⊥) → first_bits n ≡ take 7 bits
    → found ≡ octets_of (drop 16 (scrambled (seed_of (first_bits n)) bits)) → Octets found ≡ outcome_of bits
octets-come bits n found many lt some are is =
    ap (λ (os : List ℕ). Octets os) (is ∙ ap (λ (f : List Bool). octets_of (drop 16 (scrambled (seed_of f) bits))) are)
    ∙ sym (octets-is bits (length-take-le 7 bits many) (λ zeros. not-zeros n lt some (are ∙ zeros)))

-- ---- the inputs of a rate's encoders
pub hold-is : (r : Rate) (octets e : ℕ) (two : Bool) (first second : List ℕ) → encoders_of r ≡ e → two ≡ (e == 2)
    → steps_of r octets ≤ word_steps (pattern_of r) * length first
    → (encoders_of r - 1) * steps_of r octets ≤ word_steps (pattern_of r) * length second
    → Hold (pattern_of r) two first second octets
hold-is r octets zero two first second is two-is one other = absurd (let h = (encoders_of-range r).0 in omega (arith, h, is))
hold-is r octets (suc zero) two first second is two-is one other =
    subst (λ (b : Bool). Hold (pattern_of r) b first second octets) (sym two-is)
    (fits (steps_of r octets) (word_steps (pattern_of r) * length first) (data-bits r octets 1 is) one)
  where
    fits : (steps room : ℕ) → 1 * (steps - 6) ≡ 16 + 8 * octets → steps ≤ room → 16 + 8 * octets ≤ room
    fits steps room all le = omega (arith, all, le)
hold-is r octets (suc (suc zero)) two first second is two-is one other =
    let same : (encoders_of r - 1) * steps_of r octets ≡ 1 * steps_of r octets = ap (λ k. (k - 1) * steps_of r octets) is in
    subst (λ (b : Bool). Hold (pattern_of r) b first second octets) (sym two-is) (
      fits (steps_of r octets) (word_steps (pattern_of r) * length first) (data-bits r octets 2 is) one,
      fits (steps_of r octets) (word_steps (pattern_of r) * length second) (data-bits r octets 2 is)
          (subst (λ (n : ℕ). n ≤ word_steps (pattern_of r) * length second) (same ∙ once (steps_of r octets)) other),
    )
  where
    once : (n : ℕ) → 1 * n ≡ n
    once n = omega arith

    fits : (steps room : ℕ) → 2 * (steps - 6) ≡ 16 + 8 * octets → steps ≤ room → 12 + 4 * octets ≤ room
    fits steps room all le = omega (arith, all, le)
hold-is r octets (suc (suc (suc n))) two first second is two-is one other = absurd (let h = (encoders_of-range r).1 in omega (arith, h, is))

each-one : (p : Pattern) (first : List ℕ) (other : List Bool) (steps e t : ℕ) → e ≡ 1 → t < steps
    → input_bit p first t ≡ get_or (list_of (unpacked p first steps) other (t % e)) (t / e) false
each-one p first other steps e t is lt =
    let rest : t % 1 ≡ 0 = omega arith in
    let whole : t / 1 ≡ t = omega arith in
    sym
    (ap (λ (n : ℕ). get_or (list_of (unpacked p first steps) other (t % n)) (t / n) false) is
    ∙ (ap (λ (n : ℕ). get_or (list_of (unpacked p first steps) other n) (t / 1) false) rest
    ∙ (ap (λ (n : ℕ). get_or (unpacked p first steps) n false) whole ∙ unpacked-at p first steps t lt)))

each-two : (p : Pattern) (first second : List ℕ) (steps more e t : ℕ) → e ≡ 2 → t / 2 < steps → t / 2 < more
    → input_bit p (if t % 2 == 0 then first else second) (t / 2) ≡ get_or (list_of (unpacked p first steps) (unpacked p second more) (t % e)) (t / e) false
each-two p first second steps more e t is lt low = elim (cases_lt (t % 2) 1) [
  | inl even ↦
      let rest : t % 2 ≡ 0 = omega (arith, even) in
      ap (λ (n : ℕ). input_bit p (if n == 0 then first else second) (t / 2)) rest
      ∙ sym
      (ap (λ (n : ℕ). get_or (list_of (unpacked p first steps) (unpacked p second more) (t % n)) (t / n) false) is
      ∙ (ap (λ (n : ℕ). get_or (list_of (unpacked p first steps) (unpacked p second more) n) (t / 2) false) rest
      ∙ unpacked-at p first steps (t / 2) lt))
  | inr odd ↦
      let rest : t % 2 ≡ 1 = omega (arith, odd) in
      ap (λ (n : ℕ). input_bit p (if n == 0 then first else second) (t / 2)) rest
      ∙ sym
      (ap (λ (n : ℕ). get_or (list_of (unpacked p first steps) (unpacked p second more) (t % n)) (t / n) false) is
      ∙ (ap (λ (n : ℕ). get_or (list_of (unpacked p first steps) (unpacked p second more) n) (t / 2) false) rest
      ∙ unpacked-at p second more (t / 2) low))
]

-- the bits in words are the joined bits of the inputs
pub joined-words : (r : Rate) (octets e : ℕ) (two : Bool) (first second : List ℕ) → encoders_of r ≡ e → two ≡ (e == 2)
    → word_bits (pattern_of r) two first second (16 + 8 * octets)
    ≡ joined_bits r octets (list_of (unpacked (pattern_of r) first (steps_of r octets))
    (unpacked (pattern_of r) second ((encoders_of r - 1) * steps_of r octets)))
unfolding word_bits
joined-words r octets zero two first second is two-is = absurd (let h = (encoders_of-range r).0 in omega (arith, h, is))
joined-words r octets (suc zero) two first second is two-is =
    let p = pattern_of r in
    let other = unpacked p second ((encoders_of r - 1) * steps_of r octets) in
    ap (λ (b : Bool). word_bits p b first second (16 + 8 * octets)) two-is
    ∙ map-range-same false (word_bit p false first second)
    (λ t. get_or (list_of (unpacked p first (steps_of r octets)) other (t % encoders_of r)) (t / encoders_of r) false) (16 + 8 * octets)
    (λ t lt. each-one p first other (steps_of r octets) (encoders_of r) t is (within (steps_of r octets) t (data-bits r octets 1 is) lt))
  where
    within : (steps t : ℕ) → 1 * (steps - 6) ≡ 16 + 8 * octets → t < 16 + 8 * octets → t < steps
    within steps t all lt = omega (arith, all, lt)
joined-words r octets (suc (suc zero)) two first second is two-is =
    let p = pattern_of r in
    let steps = steps_of r octets in
    let same : (encoders_of r - 1) * steps ≡ 1 * steps = ap (λ k. (k - 1) * steps) is in
    ap (λ (b : Bool). word_bits p b first second (16 + 8 * octets)) two-is
    ∙ map-range-same false (word_bit p true first second)
    (λ t. get_or (list_of (unpacked p first steps) (unpacked p second ((encoders_of r - 1) * steps)) (t % encoders_of r)) (t / encoders_of r) false)
    (16 + 8 * octets)
    (λ t lt.
    let low = within steps t (data-bits r octets 2 is) lt in
    each-two p first second steps ((encoders_of r - 1) * steps) (encoders_of r) t is low (subst (λ (n : ℕ). t / 2 < n) (sym (same ∙ once steps)) low))
  where
    once : (n : ℕ) → 1 * n ≡ n
    once n = omega arith

    within : (steps t : ℕ) → 2 * (steps - 6) ≡ 16 + 8 * octets → t < 16 + 8 * octets → t / 2 < steps
    within steps t all lt = omega (arith, all, lt)
joined-words r octets (suc (suc (suc n))) two first second is two-is = absurd (let h = (encoders_of-range r).1 in omega (arith, h, is))

-- ---- the loop
-- an octet of the inputs, descrambled
pub descrambled : (pattern : Pattern) (two : Bool) (first second : List ℕ) (seed at octet mask sum : ℕ)
    → ((k : ℕ) → flag sum k ≡ xor (flag octet k) (flag mask k))
    → ((k : ℕ) → k < 8 → flag octet k ≡ word_bit pattern two first second (8 * (at + 2) + k)) → HasSequence seed (8 * at + 16) mask
    → (k : ℕ) → k < 8 → flag sum k ≡ xor (word_bit pattern two first second (16 + (8 * at + k))) (sequence seed (16 + (8 * at + k)))
descrambled pattern two first second seed at octet mask sum is bits has k lt =
    let here : 8 * (at + 2) + k ≡ 16 + (8 * at + k) = omega arith in
    let there : 8 * at + 16 + k ≡ 16 + (8 * at + k) = omega arith in
    is k
    ∙ (ap (λ (b : Bool). xor b (flag mask k)) (bits k lt ∙ ap (word_bit pattern two first second) here)
    ∙ ap (λ (b : Bool). xor (word_bit pattern two first second (16 + (8 * at + k))) b) (has k lt ∙ ap (sequence seed) there))

last-of : (old new : List ℕ) (octet at m : ℕ) → length old ≡ at → new ≡ old ++ octet ∷ [] → m ≡ at → get_or new m 0 ≡ octet
last-of old new octet at m long is on =
    let here : m - at ≡ 0 = omega (arith, on) in
    ap (λ (xs : List ℕ). get_or xs m 0) is
    ∙ (get_or-append_right old (octet ∷ []) at m 0 long (omega (arith, on)) ∙ ap (λ (n : ℕ). get_or (octet ∷ []) n 0) here)

earlier-of : (old new : List ℕ) (octet at m : ℕ) → length old ≡ at → new ≡ old ++ octet ∷ [] → m < at → get_or new m 0 ≡ get_or old m 0
earlier-of old new octet at m long is lt =
    ap (λ (xs : List ℕ). get_or xs m 0) is ∙ get_or_append_left old (octet ∷ []) 0 m (omega (arith, lt, long))

pub one-more : (pattern : Pattern) (two : Bool) (first second : List ℕ) (seed : ℕ) (old new : List ℕ) (octet at : ℕ) → length old ≡ at
    → new ≡ old ++ octet ∷ []
    → ((k : ℕ) → k < 8 → flag octet k ≡ xor (word_bit pattern two first second (16 + (8 * at + k))) (sequence seed (16 + (8 * at + k))))
    → ((m k : ℕ) → m < at → k < 8 → flag (get_or old m 0) k
    ≡ xor (word_bit pattern two first second (16 + (8 * m + k))) (sequence seed (16 + (8 * m + k))))
    → (m k : ℕ) → m < at + 1 → k < 8 → flag (get_or new m 0) k
    ≡ xor (word_bit pattern two first second (16 + (8 * m + k))) (sequence seed (16 + (8 * m + k)))
one-more pattern two first second seed old new octet at long is here before m k lt low = elim (cases_lt m at) [
  | inl earlier ↦ ap (λ (n : ℕ). flag n k) (earlier-of old new octet at m long is earlier) ∙ before m k earlier low
  | inr late ↦
      let on : m ≡ at = omega (arith, late, lt) in
      ap (λ (n : ℕ). flag n k) (last-of old new octet at m long is on)
      ∙ (here k low ∙ ap (λ (n : ℕ). xor (word_bit pattern two first second (16 + (8 * n + k))) (sequence seed (16 + (8 * n + k)))) (sym on))
]

pub small-more : (old new : List ℕ) (octet at : ℕ) → length old ≡ at → new ≡ old ++ octet ∷ [] → octet < 256
    → ((m : ℕ) → m < at → get_or old m 0 < 256) → (m : ℕ) → m < at + 1 → get_or new m 0 < 256
small-more old new octet at long is fits before m lt = elim (cases_lt m at) [
  | inl earlier ↦ subst (λ (n : ℕ). n < 256) (sym (earlier-of old new octet at m long is earlier)) (before m earlier)
  | inr late ↦ subst (λ (n : ℕ). n < 256) (sym (last-of old new octet at m long is (omega (arith, late, lt)))) fits
]

-- ---- what the parts hand on
pub both-ok : {X Y : Type 0} (r : Result X Y) (P Q G : X → Type 0) → ((x : X) → P x → Q x → G x) → IfOk r P → IfOk r Q → IfOk r G
both-ok (Ok x) P Q G join p q = join x p q
both-ok (Err e) P Q G join p q = p

pub held : (r : Rate) (octets n e : ℕ) (p : Pattern) (first second a b : List ℕ) → p ≡ pattern_of r → e ≡ encoders_of r → n ≡ octets → a ≡ first → b ≡ second
    → steps_of r octets ≤ word_steps (pattern_of r) * length first
    → (encoders_of r - 1) * steps_of r octets ≤ word_steps (pattern_of r) * length second
    → Hold p (e == 2) a b n
held r octets n e p first second a b p-is e-is n-is a-is b-is one other =
    subst (λ (q : Pattern). Hold q (e == 2) a b n) (sym p-is)
    (subst (λ (k : ℕ). Hold (pattern_of r) (k == 2) a b n) (sym e-is)
    (subst (λ (m : ℕ). Hold (pattern_of r) (encoders_of r == 2) a b m) (sym n-is)
    (subst (λ (xs : List ℕ). Hold (pattern_of r) (encoders_of r == 2) xs b octets) (sym a-is)
    (subst (λ (xs : List ℕ). Hold (pattern_of r) (encoders_of r == 2) first xs octets) (sym b-is)
    (hold-is r octets (encoders_of r) (encoders_of r == 2) first second refl refl one other)))))

pub joined-held : (r : Rate) (octets n e : ℕ) (p : Pattern) (first second a b : List ℕ) → p ≡ pattern_of r → e ≡ encoders_of r → n ≡ octets → a ≡ first
    → b ≡ second
    → word_bits p (e == 2) a b (16 + 8 * n)
    ≡ joined_bits r octets (list_of (unpacked (pattern_of r) first (steps_of r octets))
    (unpacked (pattern_of r) second ((encoders_of r - 1) * steps_of r octets)))
joined-held r octets n e p first second a b p-is e-is n-is a-is b-is =
    ap (λ (q : Pattern). word_bits q (e == 2) a b (16 + 8 * n)) p-is
    ∙ (ap (λ (k : ℕ). word_bits (pattern_of r) (k == 2) a b (16 + 8 * n)) e-is
    ∙ (ap (λ (m : ℕ). word_bits (pattern_of r) (encoders_of r == 2) a b (16 + 8 * m)) n-is
    ∙ (ap (λ (xs : List ℕ). word_bits (pattern_of r) (encoders_of r == 2) xs b (16 + 8 * octets)) a-is
    ∙ (ap (λ (xs : List ℕ). word_bits (pattern_of r) (encoders_of r == 2) first xs (16 + 8 * octets)) b-is
    ∙ joined-words r octets (encoders_of r) (encoders_of r == 2) first second refl refl))))
