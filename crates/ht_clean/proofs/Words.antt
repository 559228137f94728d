-- The steps of a word are those of the whole input, and its places are those of the whole word list.
use Rattle.std.proofs.Common.{◌≡◌, ◌∙◌, inl, inr, ℕ, zero, suc, ◌+◌, ◌-◌, ◌*◌, ◌/◌, ◌%◌, ◌<◌}
use Rattle.std.proofs.Common.{◌≤◌, List, [], ◌∷◌, ◌++◌, Bool, true, false, not, drop, length, get_or, min}
use Rattle.std.proofs.Common.{nat_le, Option, None, Some, refl, ap, sym, subst, arith, ◌==◌}
use mathlib.Core.Bool.{xor}
use Rattle.std.specs.Int.{div_ceil, from_bool}
use Rattle.std.specs.Prelude.{IsTrue}
use Rattle.std.specs.List.{list_all}
use Rattle.std.proofs.lemmas.Bool.{and_from, cases_lt, cond-false, cond-true, eq-eqb, le-leb, lt-leb, not_from_false}
use Rattle.std.proofs.lemmas.List.{get_or-drop, length-drop}
use Rattle.std.proofs.lemmas.List.FromFn.{get_or-map-range_with_len, length-map-range_with_len, map-range_with_len_more}
use Rattle.std.proofs.lemmas.Nat.Bits.{bit_at-zero}
use Rattle.ht_rate.specs.declared.kinds.Pattern.{Pattern}
use Rattle.ht_rate.specs.declared.kinds.Pattern.TheVariants.{Half, TwoThirds, ThreeQuarters, FiveSixths}
use Rattle.ht_conv.specs.declared.puncture.Kept.{Kept}
use Rattle.ht_conv.specs.declared.puncture.Kept.TheVariants.{Both, A, B}
use Rattle.ht_conv.specs.Code.{coded_bit, delayed_bit, taps_a, taps_b}
use Rattle.ht_conv.specs.Puncturing.{kept_count, kept_of, period_of, sent_count}
use Rattle.ht_conv.proofs.Counts.{sent_count-ceil}
use Rattle.ht_viterbi.specs.Inputs.{IsFound, is_terminated, place_cost}
use Rattle.ht_viterbi.specs.Packed.{flag, packed, packed_bit, word_steps}
use Rattle.ht_viterbi.proofs.Packing.{packed-at}
use Rattle.ht_clean.specs.Planes.{coded_in, lagged_bit, plane_bits, word_wrong, wrong_bits}
use Rattle.ht_clean.specs.declared.planes.Planes.{Planes}
use Rattle.ht_clean.specs.Sparse.{IsPoured, input_bit, unpacked, wrong_at, wrong_of}
use Rattle.ht_clean.proofs.Detours.{AreKnown, sparse-found, step-within}
use Rattle.ht_clean.proofs.Linear.{delayed-before, delayed-within}

pub unpacked-at : (pattern : Pattern) (input : List ℕ) (steps step : ℕ) → step < steps
    → get_or (unpacked pattern input steps) step false ≡ input_bit pattern input step
unfolding unpacked
unpacked-at pattern input steps step lt = get_or-map-range_with_len (input_bit pattern input) 0 steps step step false lt (omega arith)

pub unpacked-length : (pattern : Pattern) (input : List ℕ) (steps : ℕ) → length (unpacked pattern input steps) ≡ steps
unfolding unpacked
unpacked-length pattern input steps = length-map-range_with_len (input_bit pattern input) 0 steps

pub packed-known : (words : List ℕ) (count : ℕ) → AreKnown (packed words count) count (packed_bit words)
packed-known words count place lt = packed-at words count place lt

-- the number of a step of a word, taken apart
step-div : (pattern : Pattern) (at step : ℕ) → step < word_steps pattern → (at * word_steps pattern + step) / word_steps pattern ≡ at
step-div Half at step lt = omega (arith, lt)
step-div TwoThirds at step lt = omega (arith, lt)
step-div ThreeQuarters at step lt = omega (arith, lt)
step-div FiveSixths at step lt = omega (arith, lt)

step-mod : (pattern : Pattern) (at step : ℕ) → step < word_steps pattern → (at * word_steps pattern + step) % word_steps pattern ≡ step
step-mod Half at step lt = omega (arith, lt)
step-mod TwoThirds at step lt = omega (arith, lt)
step-mod ThreeQuarters at step lt = omega (arith, lt)
step-mod FiveSixths at step lt = omega (arith, lt)

pub bit-in : (pattern : Pattern) (input : List ℕ) (at step t : ℕ) → step < word_steps pattern → t ≡ at * word_steps pattern + step
    → input_bit pattern input t ≡ flag (get_or input at 0) step
bit-in pattern input at step t lt is =
    ap (input_bit pattern input) is
    ∙ (ap (λ (n : ℕ). flag (get_or input n 0) ((at * word_steps pattern + step) % word_steps pattern)) (step-div pattern at step lt)
    ∙ ap (flag (get_or input at 0)) (step-mod pattern at step lt))

earlier : (pattern : Pattern) (before step d : ℕ) → d < 7 → step < d
    → suc before * word_steps pattern + step - d ≡ before * word_steps pattern + (word_steps pattern + step - d)
earlier Half before step d few lt = omega (arith, few, lt)
earlier TwoThirds before step d few lt = omega (arith, few, lt)
earlier ThreeQuarters before step d few lt = omega (arith, few, lt)
earlier FiveSixths before step d few lt = omega (arith, few, lt)

wide : (pattern : Pattern) → 7 ≤ word_steps pattern
wide Half = omega arith
wide TwoThirds = omega arith
wide ThreeQuarters = omega arith
wide FiveSixths = omega arith

-- the two words of input in which a step's earlier bits stand
pub record AreInput (pattern : Pattern) (input : List ℕ) (at current previous : ℕ) : Type 0 where
  pub now : (step : ℕ) → step < word_steps pattern → flag current step ≡ flag (get_or input at 0) step
  pub first : at ≡ 0 → previous ≡ 0
  pub behind : (before step : ℕ) → at ≡ suc before → step < word_steps pattern → flag previous step ≡ flag (get_or input before 0) step

lagged-before : (pattern : Pattern) (input : List ℕ) (at current previous steps step d : ℕ) → AreInput pattern input at current previous
    → at * word_steps pattern + step < steps → d < 7 → step < d
    → flag previous (word_steps pattern + step - d) ≡ delayed_bit (unpacked pattern input steps) (at * word_steps pattern + step) d
lagged-before pattern input zero current previous steps step d are lt few before =
    ap (λ (n : ℕ). flag n (word_steps pattern + step - d)) (are.first refl)
    ∙ (ap (λ (n : ℕ). n == 1) (bit_at-zero (word_steps pattern + step - d))
    ∙ sym (delayed-before (unpacked pattern input steps) (0 * word_steps pattern + step) d (omega (arith, before))))
lagged-before pattern input (suc at) current previous steps step d are lt few before =
    let width = wide pattern in
    let low : word_steps pattern + step - d < word_steps pattern = omega (arith, before, few, width) in
    let at-is = earlier pattern at step d few before in
    let far : d ≤ suc at * word_steps pattern + step = omega (arith, few, width, at-is, before) in
    are.behind at (word_steps pattern + step - d) refl low
    ∙ (sym (bit-in pattern input at (word_steps pattern + step - d) (suc at * word_steps pattern + step - d) low at-is)
    ∙ (sym (unpacked-at pattern input steps (suc at * word_steps pattern + step - d) (omega (arith, lt)))
    ∙ sym (delayed-within (unpacked pattern input steps) (suc at * word_steps pattern + step) d far)))

-- an earlier bit is that of the whole input
lagged-is : (pattern : Pattern) (input : List ℕ) (at current previous steps step d : ℕ) → AreInput pattern input at current previous
    → step < word_steps pattern → at * word_steps pattern + step < steps → d < 7
    → lagged_bit current previous (word_steps pattern) step d ≡ delayed_bit (unpacked pattern input steps) (at * word_steps pattern + step) d
lagged-is pattern input at current previous steps step d are low lt few = elim (cases_lt step d) [
  | inl before ↦ cond-false (nat_le d step) _ _ (lt-leb d step before) ∙ lagged-before pattern input at current previous steps step d are lt few before
  | inr within ↦
      let at-is : at * word_steps pattern + step - d ≡ at * word_steps pattern + (step - d) = omega (arith, within) in
      cond-true (nat_le d step) _ _ (le-leb d step within)
      ∙ (are.now (step - d) (omega (arith, low))
      ∙ (sym (bit-in pattern input at (step - d) (at * word_steps pattern + step - d) (omega (arith, low)) at-is)
      ∙ (sym (unpacked-at pattern input steps (at * word_steps pattern + step - d) (omega (arith, lt)))
      ∙ sym (delayed-within (unpacked pattern input steps) (at * word_steps pattern + step) d (omega (arith, within))))))
]

five : (a b c d e v w x y z : Bool) → a ≡ v → b ≡ w → c ≡ x → d ≡ y → e ≡ z
    → xor a (xor b (xor c (xor d (xor e false)))) ≡ xor v (xor w (xor x (xor y (xor z false))))
five a b c d e v w x y z is-a is-b is-c is-d is-e = cc

coded-a : (pattern : Pattern) (input : List ℕ) (at current previous steps step : ℕ) → AreInput pattern input at current previous
    → step < word_steps pattern → at * word_steps pattern + step < steps
    → coded_in taps_a current previous (word_steps pattern) step ≡ coded_bit taps_a (unpacked pattern input steps) (at * word_steps pattern + step)
coded-a pattern input at current previous steps step are low lt =
    let e0 = lagged-is pattern input at current previous steps step 0 are low lt (omega arith) in
    let e2 = lagged-is pattern input at current previous steps step 2 are low lt (omega arith) in
    let e3 = lagged-is pattern input at current previous steps step 3 are low lt (omega arith) in
    let e5 = lagged-is pattern input at current previous steps step 5 are low lt (omega arith) in
    let e6 = lagged-is pattern input at current previous steps step 6 are low lt (omega arith) in
    five _ _ _ _ _ _ _ _ _ _ e0 e2 e3 e5 e6

coded-b : (pattern : Pattern) (input : List ℕ) (at current previous steps step : ℕ) → AreInput pattern input at current previous
    → step < word_steps pattern → at * word_steps pattern + step < steps
    → coded_in taps_b current previous (word_steps pattern) step ≡ coded_bit taps_b (unpacked pattern input steps) (at * word_steps pattern + step)
coded-b pattern input at current previous steps step are low lt =
    let e0 = lagged-is pattern input at current previous steps step 0 are low lt (omega arith) in
    let e1 = lagged-is pattern input at current previous steps step 1 are low lt (omega arith) in
    let e2 = lagged-is pattern input at current previous steps step 2 are low lt (omega arith) in
    let e3 = lagged-is pattern input at current previous steps step 3 are low lt (omega arith) in
    let e6 = lagged-is pattern input at current previous steps step 6 are low lt (omega arith) in
    five _ _ _ _ _ _ _ _ _ _ e0 e1 e2 e3 e6

-- the places of a word's step
kept-in : (pattern : Pattern) (at step : ℕ) → kept_of pattern (at * word_steps pattern + step) ≡ kept_of pattern step
kept-in Half at step = let e : (at * 30 + step) % 1 ≡ step % 1 = omega arith in ap (λ (n : ℕ). get_or (period_of Half) n Both) e
kept-in TwoThirds at step = let e : (at * 40 + step) % 2 ≡ step % 2 = omega arith in ap (λ (n : ℕ). get_or (period_of TwoThirds) n Both) e
kept-in ThreeQuarters at step = let e : (at * 45 + step) % 3 ≡ step % 3 = omega arith in ap (λ (n : ℕ). get_or (period_of ThreeQuarters) n Both) e
kept-in FiveSixths at step = let e : (at * 50 + step) % 5 ≡ step % 5 = omega arith in ap (λ (n : ℕ). get_or (period_of FiveSixths) n Both) e

pub start-in : (pattern : Pattern) (at step : ℕ) → sent_count pattern (at * word_steps pattern + step) ≡ 60 * at + sent_count pattern step
start-in Half at step = omega (arith, sent_count-ceil Half (at * 30 + step), sent_count-ceil Half step)
start-in TwoThirds at step = omega (arith, sent_count-ceil TwoThirds (at * 40 + step), sent_count-ceil TwoThirds step)
start-in ThreeQuarters at step = omega (arith, sent_count-ceil ThreeQuarters (at * 45 + step), sent_count-ceil ThreeQuarters step)
start-in FiveSixths at step = omega (arith, sent_count-ceil FiveSixths (at * 50 + step), sent_count-ceil FiveSixths step)

whole-word : (pattern : Pattern) → sent_count pattern (word_steps pattern) ≡ 60
whole-word Half = refl
whole-word TwoThirds = refl
whole-word ThreeQuarters = refl
whole-word FiveSixths = refl

place-in : (words : List ℕ) (at place : ℕ) → place < 60 → packed_bit words (60 * at + place) ≡ flag (get_or words at 0) place
place-in words at place lt =
    let over : (60 * at + place) / 60 ≡ at = omega (arith, lt) in
    let rest : (60 * at + place) % 60 ≡ place = omega (arith, lt) in
    ap (λ (n : ℕ). flag (get_or words n 0) ((60 * at + place) % 60)) over ∙ ap (flag (get_or words at 0)) rest

known-cost : (r bit : Bool) → place_cost (Some r) bit ≡ from_bool (xor r bit)
unfolding xor
known-cost false false = refl
known-cost false true = refl
known-cost true false = refl
known-cost true true = refl

place-wrong : (words : List ℕ) (count at place n : ℕ) (bit : Bool) → place < 60 → n ≡ 60 * at + place → n < count
    → from_bool (xor (flag (get_or words at 0) place) bit) ≡ place_cost (get_or (packed words count) n None) bit
place-wrong words count at place n bit low is within =
    sym (ap (λ (p : Option Bool). place_cost p bit) (packed-at words count n within)
    ∙ (known-cost (packed_bit words n) bit
    ∙ ap (λ (b : Bool). from_bool (xor b bit)) (ap (packed_bit words) is ∙ place-in words at place low)))

step-places : (k : Kept) (words : List ℕ) (count at start n : ℕ) (a b : Bool) → start + kept_count k ≤ 60 → n ≡ 60 * at + start → n + kept_count k ≤ count
    → wrong_bits k (get_or words at 0) start a b ≡ wrong_of k (packed words count) n a b
step-places Both words count at start n a b low is within =
    let one = place-wrong words count at start n a (omega (arith, low)) is (omega (arith, within)) in
    let two = place-wrong words count at (start + 1) (n + 1) b (omega (arith, low)) (omega (arith, is)) (omega (arith, within)) in
    omega (arith, one, two)
step-places A words count at start n a b low is within = place-wrong words count at start n a (omega (arith, low)) is (omega (arith, within))
step-places B words count at start n a b low is within = place-wrong words count at start n b (omega (arith, low)) is (omega (arith, within))

-- the wrong places of a word's step are those of the whole input's
pub word-is : (pattern : Pattern) (words input : List ℕ) (at current previous steps step : ℕ) → AreInput pattern input at current previous
    → step < word_steps pattern → at * word_steps pattern + step < steps
    → word_wrong pattern (get_or words at 0) current previous step
    ≡ wrong_at pattern (packed words (sent_count pattern steps)) (unpacked pattern input steps) (at * word_steps pattern + step)
unfolding word_wrong wrong_at
word-is pattern words input at current previous steps step are low lt =
    let t : ℕ = at * word_steps pattern + step in
    let u : List Bool = unpacked pattern input steps in
    let count : ℕ = sent_count pattern steps in
    let k : Kept = kept_of pattern step in
    let fits : sent_count pattern step + kept_count k ≤ 60 = omega (arith, step-within pattern (word_steps pattern) step low, whole-word pattern) in
    let start : sent_count pattern t ≡ 60 * at + sent_count pattern step = start-in pattern at step in
    let kept : kept_of pattern t ≡ k = kept-in pattern at step in
    let counts : kept_count (kept_of pattern t) ≡ kept_count k = ap kept_count kept in
    let within : sent_count pattern t + kept_count k ≤ count = omega (arith, step-within pattern steps t lt, counts) in
    step-places k words count at (sent_count pattern step) (sent_count pattern t)
    (coded_in taps_a current previous (word_steps pattern) step) (coded_in taps_b current previous (word_steps pattern) step) fits start within
    ∙ (ap (λ (a : Bool). wrong_of k (packed words count) (sent_count pattern t) a (coded_in taps_b current previous (word_steps pattern) step))
    (coded-a pattern input at current previous steps step are low lt)
    ∙ (ap (wrong_of k (packed words count) (sent_count pattern t) (coded_bit taps_a u t)) (coded-b pattern input at current previous steps step are low lt)
    ∙ ap (λ (j : Kept). wrong_of j (packed words count) (sent_count pattern t) (coded_bit taps_a u t) (coded_bit taps_b u t)) (sym kept)))

all-not : (xs : List Bool) → ((k : ℕ) → k < length xs → get_or xs k false ≡ false) → list_all not xs ≡ true
all-not [] none = refl
all-not (x ∷ xs) none = and_from (not x) (list_all not xs) (not_from_false x (none 0 (omega arith))) (all-not xs (λ k lt. none (suc k) (omega (arith, lt))))

-- an input whose last six bits are 0 is terminated
pub ended : (pattern : Pattern) (input : List ℕ) (steps : ℕ) → 6 ≤ steps
    → ((k : ℕ) → steps - 6 ≤ k → k < steps → input_bit pattern input k ≡ false) → IsTrue (is_terminated steps (unpacked pattern input steps))
unfolding is_terminated
ended pattern input steps many off =
    let u : List Bool = unpacked pattern input steps in
    let long : length u ≡ steps = unpacked-length pattern input steps in
    let rest = length-drop (steps - 6) u in
    and_from (length u == steps) (list_all not (drop (steps - 6) u)) (eq-eqb (length u) steps long)
    (all-not (drop (steps - 6) u) (λ k lt.
    get_or-drop (steps - 6) u k false
    ∙ (unpacked-at pattern input steps (steps - 6 + k) (omega (arith, lt, rest, long, many))
    ∙ off (steps - 6 + k) (omega arith) (omega (arith, lt, rest, long, many)))))

kept-some : (k : Kept) → 0 < kept_count k
kept-some Both = omega arith
kept-some A = omega arith
kept-some B = omega arith

-- a word whose first step is one of the input's has places and input
pub word-within : (pattern : Pattern) (steps at count : ℕ) → at * word_steps pattern < steps → sent_count pattern steps ≤ 60 * count → at < count
word-within pattern steps at count lt all =
    let first = step-within pattern steps (at * word_steps pattern) lt in
    let none : at * word_steps pattern + 0 ≡ at * word_steps pattern = omega arith in
    let start : sent_count pattern (at * word_steps pattern) ≡ 60 * at + 0 = ap (sent_count pattern) (sym none) ∙ start-in pattern at 0 in
    let some : 0 < kept_count (kept_of pattern (at * word_steps pattern)) = kept-some (kept_of pattern (at * word_steps pattern)) in
    omega (arith, first, start, some, all)

pub input-within : (pattern : Pattern) (steps at count : ℕ) → at * word_steps pattern < steps → steps ≤ word_steps pattern * count → at < count
input-within Half steps at count lt all = omega (arith, lt, all)
input-within TwoThirds steps at count lt all = omega (arith, lt, all)
input-within ThreeQuarters steps at count lt all = omega (arith, lt, all)
input-within FiveSixths steps at count lt all = omega (arith, lt, all)

pub next-word : (pattern : Pattern) (at : ℕ) → (at + 1) * word_steps pattern ≡ at * word_steps pattern + word_steps pattern
next-word Half at = omega arith
next-word TwoThirds at = omega arith
next-word ThreeQuarters at = omega arith
next-word FiveSixths at = omega arith

-- the words of the steps
pub word-begins : (pattern : Pattern) (steps at : ℕ) → at < div_ceil steps (word_steps pattern) → at * word_steps pattern < steps
word-begins Half steps at lt = omega (arith, lt)
word-begins TwoThirds steps at lt = omega (arith, lt)
word-begins ThreeQuarters steps at lt = omega (arith, lt)
word-begins FiveSixths steps at lt = omega (arith, lt)

pub words-end : (pattern : Pattern) (steps : ℕ) → min (div_ceil steps (word_steps pattern) * word_steps pattern) steps ≡ steps
words-end Half steps = omega arith
words-end TwoThirds steps = omega arith
words-end ThreeQuarters steps = omega arith
words-end FiveSixths steps = omega arith

-- the bucket after a word of the input
pub poured-word : (pattern : Pattern) (words input : List ℕ) (steps at width count current previous level wrong more sum : ℕ) (planes : Planes)
    → at * word_steps pattern < steps → width ≡ word_steps pattern → count ≡ min (steps - at * width) width
    → AreInput pattern input at current previous
    → ((step : ℕ) → step < count → plane_bits planes step ≡ word_wrong pattern (get_or words at 0) current previous step)
    → ((received : List (Option Bool)) (u : List Bool) (first : ℕ)
    → ((step : ℕ) → step < count → plane_bits planes step ≡ wrong_at pattern received u (first + step))
    → IsPoured pattern received u first level wrong → IsPoured pattern received u (first + count) more sum)
    → IsPoured pattern (packed words (sent_count pattern steps)) (unpacked pattern input steps) (min (at * word_steps pattern) steps) level wrong
    → IsPoured pattern (packed words (sent_count pattern steps)) (unpacked pattern input steps) (min ((at + 1) * word_steps pattern) steps) more sum
poured-word pattern words input steps at width count current previous level wrong more sum planes lt width-is count-is are planes-are pours was =
    let received : List (Option Bool) = packed words (sent_count pattern steps) in
    let u : List Bool = unpacked pattern input steps in
    let first : ℕ = at * word_steps pattern in
    let times : at * width ≡ first = ap (λ (n : ℕ). at * n) width-is in
    let here : min first steps ≡ first = omega (arith, lt) in
    let next : first + count ≡ min ((at + 1) * word_steps pattern) steps = omega (arith, count-is, width-is, times, lt, next-word pattern at) in
    subst (λ (t : ℕ). IsPoured pattern received u t more sum) next
    (pours received u first
    (λ step low. planes-are step low
    ∙ word-is pattern words input at current previous steps step are (omega (arith, low, count-is, width-is)) (omega (arith, low, count-is, times)))
    (subst (λ (t : ℕ). IsPoured pattern received u t level wrong) here was))

-- all words are checked
pub all-poured : (pattern : Pattern) (words input : List ℕ) (steps count width level wrong : ℕ) → 6 ≤ steps → width ≡ word_steps pattern
    → count ≡ div_ceil steps width → IsTrue (is_terminated steps (unpacked pattern input steps))
    → IsPoured pattern (packed words (sent_count pattern steps)) (unpacked pattern input steps) (min (count * word_steps pattern) steps) level wrong
    → IsFound place_cost steps pattern (packed words (sent_count pattern steps)) (unpacked pattern input steps) wrong
all-poured pattern words input steps count width level wrong many width-is count-is ends was =
    let all : min (count * word_steps pattern) steps ≡ steps =
    ap (λ (n : ℕ). min (n * word_steps pattern) steps) (count-is ∙ ap (div_ceil steps) width-is) ∙ words-end pattern steps in
    let whole = subst (λ (t : ℕ). IsPoured pattern (packed words (sent_count pattern steps)) (unpacked pattern input steps) t level wrong) all was in
    sparse-found steps pattern (packed words (sent_count pattern steps)) (packed_bit words) (unpacked pattern input steps) wrong many
    (packed-known words (sent_count pattern steps)) ends whole.sparse whole.wrong

pub none-poured : (pattern : Pattern) (received : List (Option Bool)) (u : List Bool) (steps : ℕ)
    → IsPoured pattern received u (min (0 * word_steps pattern) steps) 0 0
none-poured pattern received u steps =
    let none : 0 ≡ min (0 * word_steps pattern) steps = omega arith in
    subst (λ (t : ℕ). IsPoured pattern received u t 0 0) none (record { sparse = λ s lt. absurd (omega (arith, lt)); level = refl; wrong = refl })

-- one bit of the input more
pub unpacked-none : (pattern : Pattern) (words : List ℕ) → unpacked pattern words (0 * word_steps pattern) ≡ []
unfolding unpacked
unpacked-none pattern words = ap (λ (n : ℕ). unpacked pattern words n) (let none : 0 * word_steps pattern ≡ 0 = omega arith in none)

pub unpacked-more : (pattern : Pattern) (words : List ℕ) (at step : ℕ) (items new : List Bool) (bit : Bool) → step < word_steps pattern
    → items ≡ unpacked pattern words (at * word_steps pattern + step)
    → new ≡ items ++ bit ∷ [] → bit ≡ flag (get_or words at 0) step → new ≡ unpacked pattern words (at * word_steps pattern + (step + 1))
unfolding unpacked
unpacked-more pattern words at step items new bit low is more bit-is =
    let t : ℕ = at * word_steps pattern + step in
    let next : t + 1 ≡ at * word_steps pattern + (step + 1) = omega arith in
    more
    ∙ (ap (λ (z : List Bool). z ++ bit ∷ []) is
    ∙ (ap (λ (b : Bool). unpacked pattern words t ++ b ∷ []) (bit-is ∙ sym (bit-in pattern words at step t low refl))
    ∙ (sym (map-range_with_len_more (input_bit pattern words) 0 t t (omega arith)) ∙ ap (λ (n : ℕ). unpacked pattern words n) next)))

-- the words of the input have all steps
pub words-cover : (pattern : Pattern) (steps count width long : ℕ) → width ≡ word_steps pattern → count ≡ div_ceil steps width → count ≤ long
    → steps ≤ word_steps pattern * long
words-cover Half steps count width long width-is count-is le = let e : count ≡ div_ceil steps 30 = count-is ∙ ap (div_ceil steps) width-is in omega
    (arith, e, le)
words-cover TwoThirds steps count width long width-is count-is le = let e : count ≡ div_ceil steps 40 = count-is ∙ ap
    (div_ceil steps) width-is in omega (arith, e, le)
words-cover ThreeQuarters steps count width long width-is count-is le = let e : count ≡ div_ceil steps 45 = count-is ∙ ap
    (div_ceil steps) width-is in omega (arith, e, le)
words-cover FiveSixths steps count width long width-is count-is le = let e : count ≡ div_ceil steps 50 = count-is ∙ ap
    (div_ceil steps) width-is in omega (arith, e, le)
