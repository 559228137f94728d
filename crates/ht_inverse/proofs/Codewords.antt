-- Codewords of a frame: their lengths, distances and joined bits.
use Rattle.std.proofs.Common.{◌≡◌, ℕ, zero, suc, ◌+◌, ◌-◌, ◌*◌, ◌/◌, ◌%◌, ◌<◌, ◌≤◌, List, length, map, slice_index_or}
use Rattle.std.proofs.Common.{Bool, false, Option, refl, sym, ap, ◌∙◌, subst, arith}
use Rattle.std.specs.Prelude.{if◌then◌else◌, ◌==◌, sum}
use Rattle.std.specs.List.{range_with_len}
use Rattle.std.proofs.lemmas.List.{get_or-take, length-take-le}
use Rattle.std.proofs.lemmas.List.FromFn.{length-map-range_with_len, get_or-map-range_with_len}
use Rattle.std.proofs.lemmas.Nat.{div-mul-add, mod-mul-add, mod_below, mul-add-lt}
use Rattle.std.proofs.Math.Nat.{mul_comm}
use Rattle.ht_rate.specs.declared.rates.Rate.{Rate}
use Rattle.ht_rate.specs.declared.kinds.Pattern.{Pattern}
use Rattle.ht_rate.specs.Rates.{encoders_of, needed_bits_of, pattern_of, steps_of}
use Rattle.ht_rate.proofs.LengthFacts.{steps_of-shared}
use Rattle.ht_rate.proofs.RateFacts.{encoders_of-range}
use Rattle.ht_conv.specs.Puncturing.{sent_count}
use Rattle.ht_parse.specs.Encoders.{AreShares, IsParsed, list_of}
use Rattle.ht_parse.proofs.Unique.{parsed-bits}
use Rattle.ht_viterbi.specs.declared.codeword.Codeword.{Codeword}
use Rattle.ht_viterbi.specs.Inputs.{IsFound, cost_of, place_cost, tail}
use Rattle.ht_viterbi.specs.Decoded.{cheapest}
use Rattle.ht_viterbi.proofs.Enumerating.{cheapest_is}
use Rattle.ht_inverse.specs.Received.{received_at, received_of}
use Rattle.ht_inverse.specs.Decoding.{distance_at, input_of, joined_bits, scrambled_bits}
use Rattle.ht_inverse.specs.Shares.{AreCodewords, AreOfEncoders, IsNearest, codeword_of, no_codeword, untailed}
use Rattle.ht_inverse.proofs.Gathered.{map-same}

-- a received list has a place for each bit that is kept of the codeword's steps
pub received-length : (r : Rate) (octets erased j steps : ℕ) (labels : List ℕ) (p : Pattern) (received : List (Option Bool))
    → steps ≡ steps_of r octets → p ≡ pattern_of r → received ≡ received_of r octets erased labels j → length received ≡ sent_count p steps
unfolding received_of
received-length r octets erased j steps labels p received steps_are p_is received_is =
    ap (λ (xs : List (Option Bool)). length xs) received_is
    ∙ (length-map-range_with_len (received_at r erased labels j) 0 (sent_count (pattern_of r) (steps_of r octets))
    ∙ sym (ap (λ (q : Pattern). sent_count q steps) p_is ∙ ap (λ (n : ℕ). sent_count (pattern_of r) n) steps_are))

-- SERVICE and octets are what the inputs have before their tails
pub data-bits : (r : Rate) (octets e : ℕ) → encoders_of r ≡ e → e * (steps_of r octets - 6) ≡ 16 + 8 * octets
unfolding needed_bits_of
data-bits r octets zero is = absurd (let h = (encoders_of-range r).0 in omega (arith, h, is))
data-bits r octets (suc zero) is =
    let h = steps_of-shared r octets in
    let e = ap (λ k. k * steps_of r octets) is in
    omega (arith, h, e, is)
data-bits r octets (suc (suc zero)) is =
    let h = steps_of-shared r octets in
    let e = ap (λ k. k * steps_of r octets) is in
    omega (arith, h, e, is)
data-bits r octets (suc (suc (suc n))) is = absurd (let h = (encoders_of-range r).1 in omega (arith, h, is))

-- a codeword has its tail
pub steps-some : (r : Rate) (octets : ℕ) → tail ≤ steps_of r octets
unfolding steps_of
steps-some r octets = omega arith

pub untailed-length : (input : List Bool) (steps : ℕ) → length input ≡ steps → length (untailed input) ≡ steps - 6
untailed-length input steps long = length-take-le (length input - 6) input (omega arith) ∙ ap (λ k. k - 6) long

-- the inputs are shares also without their tails
pub untailed-shares : (r : Rate) (steps e : ℕ) (first second : List Bool) → encoders_of r ≡ e
    → length first ≡ steps → length second ≡ (encoders_of r - 1) * steps → AreShares r (untailed first) (untailed second)
untailed-shares r steps zero first second is long other = absurd (let h = (encoders_of-range r).0 in omega (arith, h, is))
untailed-shares r steps (suc zero) first second is long other =
    let none : length second ≡ 0 = other ∙ ap (λ k. (k - 1) * steps) is ∙ omega arith in
    untailed-length second 0 none ∙ (let h : 0 - 6 ≡ 0 * length (untailed first) = omega arith in h) ∙ ap (λ k. (k - 1) * length (untailed first)) (sym is)
untailed-shares r steps (suc (suc zero)) first second is long other =
    let same : length second ≡ steps = other ∙ ap (λ k. (k - 1) * steps) is ∙ omega arith in
    untailed-length second steps same ∙ (let h = untailed-length first steps long in let g : steps - 6 ≡ 1 * length (untailed first) = omega (arith, h) in g)
    ∙ ap (λ k. (k - 1) * length (untailed first)) (sym is)
untailed-shares r steps (suc (suc (suc n))) first second is long other = absurd (let h = (encoders_of-range r).1 in omega (arith, h, is))

-- both inputs are as long
input-length : (r : Rate) (steps j : ℕ) (first second : List Bool) → length first ≡ steps → length second ≡ (encoders_of r - 1) * steps → j < encoders_of r
    → length (list_of first second j) ≡ steps
input-length r steps zero first second long other there = long
input-length r steps (suc zero) first second long other there =
    let two : encoders_of r ≡ 2 = let h = (encoders_of-range r).1 in omega (arith, h, there) in
    other ∙ ap (λ k. (k - 1) * steps) two ∙ omega arith
input-length r steps (suc (suc j)) first second long other there = absurd (let h = (encoders_of-range r).1 in omega (arith, h, there))

untailed-list : (first second : List Bool) (j : ℕ) → list_of (untailed first) (untailed second) j ≡ untailed (list_of first second j)
untailed-list first second zero = refl
untailed-list first second (suc j) = refl

-- the bits that are joined are what the inputs are parsed from
parsed : (r : Rate) (octets : ℕ) (first second : List Bool) → length first ≡ steps_of r octets → length second ≡ (encoders_of r - 1) * steps_of r octets
    → IsParsed r (joined_bits r octets (list_of first second)) (untailed first) (untailed second)
parsed r octets first second long other =
    let e = encoders_of r in
    let steps = steps_of r octets in
    let rule : ℕ → Bool = λ t. slice_index_or (list_of first second (t % e)) (t / e) false in
    let count : length (untailed first) ≡ steps - 6 = untailed-length first steps long in
    let all : e * length (untailed first) ≡ 16 + 8 * octets = ap (λ k. e * k) count ∙ data-bits r octets e refl in
    record {
      shares = untailed-shares r steps e first second refl long other;
      whole = length-map-range_with_len rule 0 (16 + 8 * octets) ∙ sym all;
      places = λ j i there below.
          let input = list_of first second j in
          let row : e * i + j ≡ i * e + j = ap (λ k. k + j) (mul_comm e i) in
          let within : e * i + j < 16 + 8 * octets = place-below e i j (length (untailed first)) (16 + 8 * octets) there below all in
          let here : i < length input - 6 = let h = input-length r steps j first second long other there in omega (arith, below, count, h) in
          get_or-map-range_with_len rule 0 (16 + 8 * octets) (e * i + j) (i * e + j) false within (omega (arith, row))
          ∙ (ap (λ k. slice_index_or (list_of first second k) ((i * e + j) / e) false) (mod-mul-add i e j there)
          ∙ (ap (λ k. slice_index_or (list_of first second j) k false) (div-mul-add i e j there)
          ∙ (sym (get_or-take (length input - 6) input i false here)
          ∙ ap (λ (xs : List Bool). slice_index_or xs i false) (sym (untailed-list first second j)))));
    }
  where
    place-below : (e i j n all : ℕ) → j < e → i < n → e * n ≡ all → e * i + j < all
    place-below e i j n all there below is =
        let h = mul-add-lt i e j n below there in
        let turned = mul_comm e i in
        omega (arith, h, turned, is)

pub joined-is : (r : Rate) (octets : ℕ) (first second bits : List Bool) → length first ≡ steps_of r octets
    → length second ≡ (encoders_of r - 1) * steps_of r octets
    → IsParsed r bits (untailed first) (untailed second) → bits ≡ joined_bits r octets (list_of first second)
joined-is r octets first second bits long other is =
    parsed-bits r bits (joined_bits r octets (list_of first second)) (untailed first) (untailed second) is (parsed r octets first second long other)

-- the lists that are joined are the inputs without their tails
pub parsed-by : (r : Rate) (bits first second front back : List Bool) → front ≡ untailed first → back ≡ untailed second → IsParsed r bits front back
    → IsParsed r bits (untailed first) (untailed second)
parsed-by r bits first second front back e f is =
    subst (λ (u : List Bool). IsParsed r bits u (untailed second)) e (subst (λ (u : List Bool). IsParsed r bits front u) f is)

-- the same inputs of the encoders that there are give the same bits
pub joined-same : (r : Rate) (octets : ℕ) (inputs others : ℕ → List Bool) → ((j : ℕ) → j < encoders_of r → inputs j ≡ others j)
    → joined_bits r octets inputs ≡ joined_bits r octets others
joined-same r octets inputs others same =
    let e = encoders_of r in
    map-same (λ t. slice_index_or (inputs (t % e)) (t / e) false) (λ t. slice_index_or (others (t % e)) (t / e) false)
    (λ t. ap (λ (u : List Bool). slice_index_or u (t / e) false) (same (t % e) (mod_below t e (encoders_of-range r).0)))
    (range_with_len 0 (16 + 8 * octets))

-- the inputs of two encoders, or of one
pub inputs-are : {X : Type 0} (r : Rate) (each : ℕ → X) (none first second : X) (input : X → List Bool) → AreOfEncoders r each none first second
    → (j : ℕ) → j < encoders_of r → list_of (input first) (input second) j ≡ input (each j)
inputs-are {X} r each none first second input are zero there = ap input are.first_is
inputs-are {X} r each none first second input are (suc zero) there =
    let two : encoders_of r ≡ 2 = let h = (encoders_of-range r).1 in omega (arith, h, there) in
    ap input are.second_is ∙ ap (λ (k : ℕ). input (if k == 2 then each 1 else none)) two
inputs-are {X} r each none first second input are (suc (suc j)) there = absurd (let h = (encoders_of-range r).1 in omega (arith, h, there))

-- the scrambled bits of a frame are those of its codewords
pub scrambled-is : (r : Rate) (octets erased : ℕ) (labels : List ℕ) (first second : Codeword) → AreCodewords r octets erased labels first second
    → joined_bits r octets (list_of first.input second.input) ≡ scrambled_bits r octets erased labels
unfolding scrambled_bits codeword_of
scrambled-is r octets erased labels first second are =
    joined-same r octets (list_of first.input second.input) (input_of r octets erased labels)
    (inputs-are r (codeword_of r octets erased labels) no_codeword first second (λ c. c.input) are)

-- and there are 16 for SERVICE and 8 for each octet
pub joined-length : (r : Rate) (octets : ℕ) (first second : List Bool) (bits : List Bool) → length first ≡ steps_of r octets
    → IsParsed r bits (untailed first) (untailed second) → length bits ≡ 16 + 8 * octets
joined-length r octets first second bits long is =
    is.whole ∙ (ap (λ k. encoders_of r * k) (untailed-length first (steps_of r octets) long) ∙ data-bits r octets (encoders_of r) refl)

-- they are SERVICE and whole octets, told of lists that are the inputs without their tails
pub joined-whole : (r : Rate) (octets : ℕ) (first second bits front back joined : List Bool) → front ≡ untailed first → back ≡ untailed second
    → IsParsed r bits front back → length first ≡ steps_of r octets → joined ≡ bits → (16 ≤ length joined) × ((length joined - 16) % 8 ≡ 0)
joined-whole r octets first second bits front back joined e f is long same =
    let all : length joined ≡ 16 + 8 * octets =
    ap (λ (xs : List Bool). length xs) same ∙ joined-length r octets first second bits long (parsed-by r bits first second front back e f is) in
    (omega (arith, all), omega (arith, all))

-- the cheapest input at given places, with its cost
pub cheapest-answer : {P : Type 0} (cost : P → Bool → ℕ) (steps s : ℕ) (p q : Pattern) (received places : List P) (input : List Bool) (n : ℕ)
    → steps ≡ s → p ≡ q → received ≡ places → tail ≤ steps → IsFound cost steps p received input n
    → (input ≡ cheapest cost s q places) × (n ≡ cost_of cost q places (cheapest cost s q places))
cheapest-answer {P} cost steps s p q received places input n steps_are p_is received_is some found =
    let answer : input ≡ cheapest cost s q places =
    sym (cheapest_is cost steps p received input some found.input)
    ∙ (ap (λ (m : ℕ). cheapest cost m p received) steps_are
    ∙ (ap (λ (z : Pattern). cheapest cost s z received) p_is ∙ ap (λ (v : List P). cheapest cost s q v) received_is)) in (
      answer,
      found.cost
          ∙ (ap (λ (z : Pattern). cost_of cost z received input) p_is
          ∙ (ap (λ (v : List P). cost_of cost q v input) received_is ∙ ap (λ (u : List Bool). cost_of cost q places u) answer)),
    )

-- what was found at given places is the nearest codeword, where they are those of the received list
pub found-nearest : (r : Rate) (octets erased j steps : ℕ) (labels : List ℕ) (p : Pattern) (received : List (Option Bool)) (c : Codeword)
    → p ≡ pattern_of r → received ≡ received_of r octets erased labels j → IsFound place_cost steps p received c.input c.distance
    → IsNearest r octets erased labels j steps c
found-nearest r octets erased j steps labels p received c p_is received_is found =
    subst (λ (places : List (Option Bool)). IsFound place_cost steps (pattern_of r) places c.input c.distance) received_is
    (subst (λ (q : Pattern). IsFound place_cost steps q received c.input c.distance) p_is found)

-- what is decoded is the codeword of its encoder
pub codeword-is : (r : Rate) (octets erased j steps : ℕ) (labels : List ℕ) (p : Pattern) (received : List (Option Bool)) (c : Codeword)
    → steps ≡ steps_of r octets → p ≡ pattern_of r → received ≡ received_of r octets erased labels j → tail ≤ steps
    → IsFound place_cost steps p received c.input c.distance → c ≡ codeword_of r octets erased labels j
unfolding codeword_of input_of distance_at
codeword-is r octets erased j steps labels p received c steps_are p_is received_is some found =
    let answer = cheapest-answer place_cost steps (steps_of r octets) p (pattern_of r) received (received_of r octets erased labels j) c.input c.distance
    steps_are p_is received_is some found in
    let made : List Bool → ℕ → Codeword = λ u n. record { input = u; distance = n } in
    ap (λ u. made u c.distance) answer.0 ∙ ap (λ n. made (input_of r octets erased labels j) n) answer.1

-- what is counted of the encoders together
pub counted-together : {X : Type 0} (r : Rate) (e : ℕ) (each : ℕ → X) (none first second : X) (count : X → ℕ) → encoders_of r ≡ e → count none ≡ 0
    → AreOfEncoders r each none first second → count first + count second ≡ sum (map (λ j. count (each j)) (range_with_len 0 (encoders_of r)))
counted-together {X} r zero each none first second count is nothing are = absurd (let h = (encoders_of-range r).0 in omega (arith, h, is))
counted-together {X} r (suc zero) each none first second count is nothing are =
    let a : count first ≡ count (each 0) = ap count are.first_is in
    let b : count second ≡ count none = ap count are.second_is ∙ ap (λ (k : ℕ). count (if k == 2 then each 1 else none)) is in
    let all : 0 + count (each 0) ≡ sum (map (λ j. count (each j)) (range_with_len 0 (encoders_of r))) =
    ap (λ k. sum (map (λ j. count (each j)) (range_with_len 0 k))) (sym is) in
    omega (arith, a, b, all, nothing)
counted-together {X} r (suc (suc zero)) each none first second count is nothing are =
    let a : count first ≡ count (each 0) = ap count are.first_is in
    let b : count second ≡ count (each 1) = ap count are.second_is ∙ ap (λ (k : ℕ). count (if k == 2 then each 1 else none)) is in
    let all : 0 + count (each 0) + count (each 1) ≡ sum (map (λ j. count (each j)) (range_with_len 0 (encoders_of r))) =
    ap (λ k. sum (map (λ j. count (each j)) (range_with_len 0 k))) (sym is) in
    omega (arith, a, b, all)
counted-together {X} r (suc (suc (suc n))) each none first second count is nothing are = absurd (let h = (encoders_of-range r).1 in omega (arith, h, is))

-- the distances of the codewords together
pub code-is : (r : Rate) (octets erased : ℕ) (labels : List ℕ) (first second : Codeword) → AreCodewords r octets erased labels first second
    → first.distance + second.distance ≡ sum (map (distance_at r octets erased labels) (range_with_len 0 (encoders_of r)))
unfolding codeword_of
code-is r octets erased labels first second are =
    counted-together r (encoders_of r) (codeword_of r octets erased labels) no_codeword first second (λ c. c.distance) refl refl are
