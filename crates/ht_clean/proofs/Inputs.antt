-- Input bits that are put into words, and read from them.
use Rattle.std.proofs.Common.{◌≡◌, ◌∙◌, inl, inr, ℕ, ◌+◌, ◌-◌, ◌*◌, ◌/◌, ◌%◌, ◌^◌, ◌<◌, ◌≤◌, List, Bool, true, false, length, get_or, min}
use Rattle.std.proofs.Common.{refl, ap, subst, sym, arith, ◌==◌, ◌||◌}
use Rattle.std.specs.Int.{div_ceil, from_bool}
use Rattle.std.specs.Int.RustNames.{bit_or}
use Rattle.std.proofs.lemmas.Bool.{cases_lt}
use Rattle.std.proofs.lemmas.List.{ext_get_or}
use Rattle.std.proofs.Math.Nat.{mul_comm}
use Rattle.std.proofs.lemmas.Nat.{div-add-mod'}
use Rattle.std.proofs.lemmas.Nat.Bits.{bit_at_above}
use Rattle.ht_rate.specs.declared.kinds.Pattern.{Pattern}
use Rattle.ht_viterbi.specs.Packed.{flag, word_steps}
use Rattle.ht_clean.specs.Sparse.{input_bit, unpacked}
use Rattle.ht_clean.proofs.Flags.{flag-or, flag-shl, flag-shl-low, flag-shr, or-none}
use Rattle.ht_clean.proofs.Words.{bit-in, next-word, unpacked-at, unpacked-length, words-cover}

one-bit : (b : Bool) → flag (from_bool b) 0 ≡ b
one-bit false = refl
one-bit true = refl

no-more : (b : Bool) (k : ℕ) → 1 ≤ k → flag (from_bool b) k ≡ false
no-more false k some = ap (λ (n : ℕ). n == 1) (bit_at_above 0 1 k (omega arith) some)
no-more true k some = ap (λ (n : ℕ). n == 1) (bit_at_above 1 1 k (omega arith) some)

-- a word with one bit more
pub bit-before : (word bit place k : ℕ) → k < 64 → k < place → flag (bit_or word (bit * 2 ^ place % 18446744073709551616)) k ≡ flag word k
bit-before word bit place k few lt = flag-or word _ k ∙ or-none (flag word k) _ (flag-shl-low bit place k few lt)

bit-on : (word bit place k : ℕ) → k < 64 → place ≤ k → flag word k ≡ false
    → flag (bit_or word (bit * 2 ^ place % 18446744073709551616)) k ≡ flag bit (k - place)
bit-on word bit place k few le none =
    flag-or word _ k
    ∙ (ap (λ (b : Bool). b || flag (bit * 2 ^ place % 18446744073709551616) k) none ∙ flag-shl bit place k few le)

pub bit-at : (word value place k : ℕ) (bit : Bool) → k < 64 → k ≡ place → value ≡ from_bool bit → flag word k ≡ false
    → flag (bit_or word (value * 2 ^ place % 18446744073709551616)) k ≡ bit
bit-at word value place k bit few is value-is none =
    let here : k - place ≡ 0 = omega (arith, is) in
    bit-on word value place k few (omega (arith, is)) none ∙ (ap (flag value) here ∙ (ap (λ (n : ℕ). flag n 0) value-is ∙ one-bit bit))

pub bit-behind : (word value place k : ℕ) (bit : Bool) → k < 64 → place + 1 ≤ k → value ≡ from_bool bit → flag word k ≡ false
    → flag (bit_or word (value * 2 ^ place % 18446744073709551616)) k ≡ false
bit-behind word value place k bit few after value-is none =
    bit-on word value place k few (omega (arith, after)) none
    ∙ (ap (λ (n : ℕ). flag n (k - place)) value-is ∙ no-more bit (k - place) (omega (arith, after)))

-- all bits are in the words
pub all-packed : (pattern : Pattern) (bits : List Bool) (words : List ℕ) (at count width : ℕ) → width ≡ word_steps pattern
    → count ≡ div_ceil (length bits) width → count ≤ at
    → ((k : ℕ) → k < min (at * word_steps pattern) (length bits) → input_bit pattern words k ≡ get_or bits k false)
    → unpacked pattern words (length bits) ≡ bits
all-packed pattern bits words at count width width-is count-is le are =
    let all : length bits ≤ word_steps pattern * at = words-cover pattern (length bits) count width at width-is count-is le in
    let more : length bits ≤ at * word_steps pattern = omega (arith, all, mul_comm (word_steps pattern) at) in
    let long : length (unpacked pattern words (length bits)) ≡ length bits = unpacked-length pattern words (length bits) in
    ext_get_or false (unpacked pattern words (length bits)) bits long
    (λ k lt.
    let low : k < length bits = omega (arith, lt, long) in
    unpacked-at pattern words (length bits) k low ∙ are k (omega (arith, low, more)))

parts : (pattern : Pattern) (from width : ℕ) → width ≡ word_steps pattern → from ≡ from / width * word_steps pattern + from % width
parts pattern from width is =
    subst (λ (w : ℕ). from ≡ from / w * word_steps pattern + from % w) (sym is) (sym (div-add-mod' from (word_steps pattern)))

-- a bit of the word in which the first of eight stands
pub here-is : (pattern : Pattern) (words : List ℕ) (from width k : ℕ) → width ≡ word_steps pattern → from % width + k < width
    → flag (get_or words (from / width) 0) (from % width + k) ≡ input_bit pattern words (from + k)
here-is pattern words from width k is lt =
    let whole = parts pattern from width is in
    sym (bit-in pattern words (from / width) (from % width + k) (from + k) (omega (arith, lt, is)) (omega (arith, whole)))

-- and of the next one
pub next-is : (pattern : Pattern) (words : List ℕ) (from width k : ℕ) → width ≡ word_steps pattern → width ≤ from % width + k
    → from % width + k < width + width
    → flag (get_or words (from / width + 1) 0) (k - (width - from % width)) ≡ input_bit pattern words (from + k)
next-is pattern words from width k is high lt =
    let whole = parts pattern from width is in
    let step = next-word pattern (from / width) in
    sym (bit-in pattern words (from / width + 1) (k - (width - from % width)) (from + k) (omega (arith, high, lt, is)) (omega (arith, whole, step, is, high)))

-- eight bits out of two words
pub across : (pattern : Pattern) (words : List ℕ) (from width k cut-off : ℕ) → width ≡ word_steps pattern → width < 64 → 8 ≤ width
    → from % width < width → k < 8
    → ((place : ℕ) → place < width → flag cut-off place ≡ flag (get_or words (from / width) 0) place) → cut-off < 2 ^ width
    → flag (bit_or (cut-off / 2 ^ (from % width)) (get_or words (from / width + 1) 0 * 2 ^ (width - from % width) % 18446744073709551616)) k
    ≡ input_bit pattern words (from + k)
across pattern words from width k cut-off is few least low eight are bound = elim (cases_lt (from % width + k) width) [
  | inl here ↦
      flag-or (cut-off / 2 ^ (from % width)) _ k
      ∙ (or-none _ _ (flag-shl-low (get_or words (from / width + 1) 0) (width - from % width) k (omega (arith, eight)) (omega (arith, here, low)))
      ∙ (flag-shr cut-off (from % width) k ∙ (are (from % width + k) here ∙ here-is pattern words from width k is here)))
  | inr next ↦
      let none : flag (cut-off / 2 ^ (from % width)) k ≡ false =
      flag-shr cut-off (from % width) k ∙ ap (λ (n : ℕ). n == 1) (bit_at_above cut-off width (from % width + k) bound next) in
      flag-or (cut-off / 2 ^ (from % width)) _ k
      ∙ (ap (λ (b : Bool). b || flag (get_or words (from / width + 1) 0 * 2 ^ (width - from % width) % 18446744073709551616) k) none
      ∙ (flag-shl (get_or words (from / width + 1) 0) (width - from % width) k (omega (arith, eight)) (omega (arith, next, low))
      ∙ next-is pattern words from width k is next (omega (arith, low, eight, least))))
]
