-- What each encoder of a frame is given: its part of the scrambled bits, its tail, and then its part of the padding.
use Rattle.std.proofs.Common.{◌≡◌, ℕ, suc, ◌+◌, ◌-◌, ◌*◌, ◌/◌, ◌<◌, ◌≤◌, List, [], ◌∷◌, ◌++◌, length, take, drop, replicate, get_or}
use Rattle.std.proofs.Common.{Bool, true, false, true≢false, refl, sym, ap, ◌∙◌, arith, length-append, length-drop}
use Rattle.std.specs.Prelude.{not}
use Rattle.std.specs.List.{list_all}
use Rattle.std.proofs.lemmas.List.{get_or_append_left, get_or-drop, get_or-take}
use Rattle.std.proofs.lemmas.List.{length-take-le, take-append-drop}
use Rattle.std.proofs.lemmas.List.FromFn.{length-map-range_with_len, get_or-map-range_with_len}
use Rattle.std.proofs.Math.Nat.{mul-div_cancel_left, mul-le-mul_left, mul_assoc, mul_comm, mul-add}
use Rattle.std.proofs.lemmas.Nat.{mul-add-lt}
use Rattle.std.specs.Bool.{xor}
use Rattle.ht_bits.specs.Bits.{bits_of}
use Rattle.ht_bits.proofs.Octets.{length-bits_of}
use Rattle.ht_rate.specs.Rates.{data_bits_of, encoders_of, pads_of, pattern_of, steps_of, symbols_of}
use Rattle.ht_rate.proofs.LengthFacts.{steps_of-within}
use Rattle.ht_rate.proofs.RateFacts.{data_bits_of-shared, encoders_of-range}
use Rattle.ht_scramble.specs.Sequence.{scrambled, sequence}
use Rattle.ht_scramble.proofs.Lists.{length-scrambled_from, scrambled-at}
use Rattle.ht_conv.specs.Code.{sent_bits}
use Rattle.ht_data.proofs.Scrambled.{zeroed-at}
use Rattle.ht_tx.specs.Frames.{FrameView}
use Rattle.ht_tx.specs.Coded.{coded_of, coder_input, data_of, part_of, service_and_octets, tail_of}
use Rattle.ht_tx.proofs.Coded.{length-coder_input, length-data_of, tail-within}
use Rattle.ht_viterbi.proofs.Nearest.{terminated-from, ends-test}
use Rattle.ht_inverse.specs.Sent.{AreCodedOf}
use Rattle.ht_inverse.proofs.Codewords.{data-bits, steps-some}

-- a scrambled bit doesn't depend on what follows it
scrambled-front : (seed : ℕ) (a b : List Bool) (k : ℕ) → k < length a → get_or (scrambled seed (a ++ b)) k false ≡ get_or (scrambled seed a) k false
scrambled-front seed a b k lt =
    scrambled-at seed (a ++ b) k (omega (arith, lt, length-append a b))
    ∙ (ap (λ (x : Bool). xor x (sequence seed k)) (get_or_append_left a b false k lt) ∙ sym (scrambled-at seed a k lt))

-- SERVICE and octets
abbrev pub plain_of : FrameView → List Bool
plain_of f = replicate 16 false ++ bits_of f.octets

length-plain : (f : FrameView) → length (plain_of f) ≡ 16 + 8 * length f.octets
length-plain f = length-append (replicate 16 false) (bits_of f.octets) ∙ ap (λ k. 16 + k) (length-bits_of f.octets)

-- the encoders are given the scrambled bits of SERVICE and octets, and then zeros
given-before : (f : FrameView) (k : ℕ) → k < 16 + 8 * length f.octets → get_or (coder_input f) k false ≡ get_or (scrambled f.seed (plain_of f)) k false
unfolding coder_input data_of
given-before f k lt =
    let rest = replicate (tail_of f + pads_of f.rate (length f.octets)) false in
    let long : service_and_octets f + tail_of f ≤ length (scrambled f.seed (plain_of f ++ rest)) =
    let a = length-scrambled_from f.seed 0 (plain_of f ++ rest) in
    let b = length-data_of f in
    let c = tail-within f in
    omega (arith, a, b, c) in
    (zeroed-at (scrambled f.seed (plain_of f ++ rest)) (service_and_octets f) (tail_of f) k long).0 lt
    ∙ scrambled-front f.seed (plain_of f) rest k (omega (arith, lt, length-plain f))

given-there : (f : FrameView) (k : ℕ) → 16 + 8 * length f.octets ≤ k → k < 16 + 8 * length f.octets + 6 * encoders_of f.rate
    → get_or (coder_input f) k false ≡ false
unfolding coder_input
given-there f k ge lt =
    let long : service_and_octets f + tail_of f ≤ length (scrambled f.seed (data_of f)) =
    let a = length-scrambled_from f.seed 0 (data_of f) in
    let b = length-data_of f in
    let c = tail-within f in
    omega (arith, a, b, c) in
    (zeroed-at (scrambled f.seed (data_of f)) (service_and_octets f) (tail_of f) k long).1 ge lt

-- the part of an encoder has all steps of its codeword
steps-within : (f : FrameView) → steps_of f.rate (length f.octets) ≤ length (coder_input f) / encoders_of f.rate
steps-within f =
    let e = encoders_of f.rate in
    let symbols = symbols_of f.rate (length f.octets) in
    let share = data_bits_of f.rate / e in
    let whole : e * (symbols * share) ≡ length (coder_input f) =
    sym (length-coder_input f ∙ (ap (λ k. symbols * k) (sym (data_bits_of-shared f.rate)) ∙ turned symbols e share)) in
    let size : length (coder_input f) / e ≡ symbols * share =
    ap (λ k. k / e) (sym whole) ∙ mul-div_cancel_left (symbols * share) (encoders_of-range f.rate).0 in
    let within = steps_of-within f.rate (length f.octets) in
    omega (arith, size, within)
  where
    turned : (a b c : ℕ) → a * (b * c) ≡ b * (a * c)
    turned a b c = sym (mul_assoc a b c) ∙ (ap (λ k. k * c) (mul_comm a b) ∙ mul_assoc b a c)

part-at : (f : FrameView) (j i : ℕ) → i < length (coder_input f) / encoders_of f.rate
    → get_or (part_of f.rate (coder_input f) j) i false ≡ get_or (coder_input f) (encoders_of f.rate * i + j) false
unfolding part_of
part-at f j i lt =
    get_or-map-range_with_len (λ i. get_or (coder_input f) (encoders_of f.rate * i + j) false) 0 (length (coder_input f) / encoders_of f.rate)
    i i false lt (omega arith)

part-length : (f : FrameView) (j : ℕ) → length (part_of f.rate (coder_input f) j) ≡ length (coder_input f) / encoders_of f.rate
unfolding part_of
part-length f j = length-map-range_with_len (λ i. get_or (coder_input f) (encoders_of f.rate * i + j) false) 0 (length (coder_input f) / encoders_of f.rate)

-- zeros, place by place, are zeros
zeros-at : (bits : List Bool) → ((k : ℕ) → k < length bits → get_or bits k false ≡ false) → list_all not bits ≡ true
zeros-at [] zeros = refl
zeros-at (false ∷ bits) zeros = zeros-at bits (λ k lt. zeros (suc k) (omega arith))
zeros-at (true ∷ bits) zeros = absurd (true≢false (zeros 0 (omega arith)))

-- a bit of the tail of encoder j is one of the zeroed places
tail-place : (e i j steps all : ℕ) → e * (steps - 6) ≡ all → 6 ≤ steps → j < e → steps - 6 ≤ i → i < steps
    → (all ≤ e * i + j) × (e * i + j < all + 6 * e)
tail-place e i j steps all is some there ge lt =
    let low : e * (steps - 6) ≤ e * i = mul-le-mul_left e ge in
    let more = mul-add e i 1 in
    let upto : e * (i + 1) ≤ e * steps = mul-le-mul_left e (omega (arith, lt)) in
    let next : e * i + e ≤ e * steps = omega (arith, more, upto) in
    let split = mul-add e (steps - 6) 6 in
    let whole : e * (steps - 6 + 6) ≡ e * steps = ap (λ k. e * k) (omega (arith, some)) in
    let end : e * steps ≡ e * (steps - 6) + 6 * e = omega (arith, split, whole) in
    (omega (arith, low, is), omega (arith, next, end, there, is))

place-before : (e i j n all : ℕ) → e * n ≡ all → j < e → i < n → e * i + j < all
place-before e i j n all is there lt =
    let h = mul-add-lt i e j n lt there in
    let turned = mul_comm e i in
    omega (arith, h, turned, is)

-- what the encoders of a frame send
pub coded-of : (f : FrameView) → AreCodedOf f.rate (length f.octets) (scrambled f.seed (plain_of f)) (coded_of f)
unfolding coded_of
coded-of f =
    let e = encoders_of f.rate in
    let n = length f.octets in
    let steps = steps_of f.rate n in
    let part : ℕ → List Bool = part_of f.rate (coder_input f) in
    let some = steps-some f.rate n in
    let all = data-bits f.rate n e refl in
    let enough : (j : ℕ) → steps ≤ length (part j) = λ j. let a = part-length f j in let b = steps-within f in omega (arith, a, b) in
    let long : (j : ℕ) → length (take steps (part j)) ≡ steps = λ j. length-take-le steps (part j) (enough j) in
    let at : (j i : ℕ) → i < steps → get_or (take steps (part j)) i false ≡ get_or (coder_input f) (e * i + j) false = λ j i lt.
    get_or-take steps (part j) i false lt ∙ part-at f j i (let b = steps-within f in omega (arith, b, lt)) in
    record {
      input = λ j. take steps (part j);
      rest = λ j. drop steps (part j);
      terminated = λ j there.
          terminated-from steps (take steps (part j)) (long j)
          (ends-test (take steps (part j)) (zeros-at (drop (length (take steps (part j)) - 6) (take steps (part j)))
          (λ k lt.
          let place : length (take steps (part j)) - 6 + k ≡ steps - 6 + k = ap (λ (z : ℕ). z - 6 + k) (long j) in
          let rest : k < length (drop (length (take steps (part j)) - 6) (take steps (part j))) = lt in
          let many = length-drop (length (take steps (part j)) - 6) (take steps (part j)) in
          let count = long j in
          let low : k < 6 = omega (arith, rest, many, count, some) in
          let h = tail-place e (steps - 6 + k) j steps (16 + 8 * n) all some there (omega arith) (omega (arith, low, some)) in
          get_or-drop (length (take steps (part j)) - 6) (take steps (part j)) k false
          ∙ (ap (λ (z : ℕ). get_or (take steps (part j)) z false) place
          ∙ (at j (steps - 6 + k) (omega (arith, low, some))
          ∙ given-there f (e * (steps - 6 + k) + j) h.0 h.1)))));
      parts = λ j i there lt.
          at j i (omega (arith, lt)) ∙ given-before f (e * i + j) (place-before e i j (steps - 6) (16 + 8 * n) all there lt);
      sent = λ j there. ap (λ (xs : List Bool). sent_bits (pattern_of f.rate) xs) (sym (take-append-drop steps (part j)));
    }
