-- The labels of a frame are decoded to its octets.
use Rattle.std.proofs.Common.{◌≡◌, ℕ, suc, ◌+◌, ◌-◌, ◌*◌, ◌/◌, ◌%◌, ◌<◌, ◌≤◌, ◌^◌}
use Rattle.std.proofs.Common.{List, [], ◌∷◌, ◌++◌, length, map, take, drop, replicate, reverse, get_or, All}
use Rattle.std.proofs.Common.{Bool, true, false, Option, None, Some, IsTrue, refl, sym, ap, subst, ◌∙◌, mod-lt, arith}
use Rattle.std.specs.Prelude.{not}
use Rattle.std.specs.Bool.{xor}
use Rattle.std.specs.List.{list_all, range_with_len}
use Rattle.std.proofs.lemmas.List.{drop_at, ext_get_or, get_or-map, get_or_append_left, length-append, length-map, take_at}
use Rattle.std.proofs.lemmas.List.Elements.{All-get_or}
use Rattle.std.proofs.lemmas.List.FromFn.{get_or-map-range_with_len, length-map-range_with_len}
use Rattle.std.proofs.lemmas.Nat.{div-add-mod', mod_below}
use Rattle.std.proofs.Math.Nat.{div-lt_iff_lt-mul}
use Rattle.ht_bits.specs.Bits.{bits_of}
use Rattle.ht_bits.proofs.Octets.{length-bits_of}
use Rattle.ht_rate.specs.declared.kinds.Pattern.{Pattern}
use Rattle.ht_scramble.specs.Sequence.{IsSeed, scrambled, scrambled_from, sequence}
use Rattle.ht_scramble.proofs.Lists.{length-scrambled_from}
use Rattle.ht_conv.specs.Code.{sent_bits}
use Rattle.ht_conv.specs.Continued.{sent_from}
use Rattle.ht_conv.specs.Puncturing.{sent_count}
use Rattle.ht_conv.proofs.MidStream.{length-sent_bits, sent_bits-appended}
use Rattle.ht_map.specs.Gray.{label_bit}
use Rattle.ht_viterbi.specs.Inputs.{IsDecoded, distance, is_terminated}
use Rattle.ht_viterbi.proofs.Enumerating.{decoded_is}
use Rattle.ht_viterbi.proofs.Nearest.{ends-test, terminated-from}
use Rattle.ht_viterbi.proofs.Orders.{distance-sent, sent-decoded}
use Rattle.ht_inverse.specs.declared.decoded.Decoded.{Decoded}
use Rattle.ht_inverse.specs.declared.outcome.Outcome.{Outcome}
use Rattle.ht_inverse.specs.declared.outcome.Outcome.TheVariants.{Octets}
use Rattle.ht_inverse.specs.Decoding.{outcome_of}
use Rattle.ht_inverse.proofs.Returned.{returned}
use Rattle.ht_clause18.specs.declared.rates.LegacyRate.{LegacyRate}
use Rattle.ht_clause18.specs.Coded.{coded_of, coder_input, data_of, service_and_octets, symbol_bits}
use Rattle.ht_clause18.specs.Frames.{LegacyFrameView}
use Rattle.ht_clause18.specs.Interleaver.{interleaved, place_of}
use Rattle.ht_clause18.specs.Points.{label_at}
use Rattle.ht_clause18.specs.Rates.{coded_bits_of, label_bits_of, modulation_of, needed_bits, pads_of, pattern_of, symbols_of}
use Rattle.ht_clause18.proofs.Coding.{symbol_bits-at}
use Rattle.ht_clause18.proofs.Interleaving.{interleaved-place, place_of-bound}
use Rattle.ht_clause18.proofs.Mapping.{label_at-bit}
use Rattle.ht_clause18.proofs.RateFacts.{coded_bits_of-is, coded_bits_of-range, label_bits_of-range}
use Rattle.ht_legacy_inverse.specs.Decoding.{input_of, legacy_decoded_frame, scrambled_bits}
use Rattle.ht_legacy_inverse.specs.Received.{at_place, label_number, received_at, received_of}
use Rattle.ht_legacy_inverse.proofs.Gathered.{coded-fit, label-below}

-- each label is the one that the frame gives to its symbol and data subcarrier
abbrev pub AreLabelsOf : LegacyFrameView → List ℕ → Type 0
AreLabelsOf f labels =
    (n m : ℕ) → n < symbols_of f.rate (length f.octets) → m < 48
    → get_or labels (label_number n m) 0 ≡ label_at f.rate (interleaved f.rate (symbol_bits f n)) m

-- a coded bit comes as it was sent
comes : (f : LegacyFrameView) (labels : List ℕ) (q : ℕ) → AreLabelsOf f labels → q < symbols_of f.rate (length f.octets) * coded_bits_of f.rate
    → received_at f.rate labels q ≡ Some (get_or (coded_of f) q false)
unfolding received_at
comes f labels q are within =
    let r : LegacyRate = f.rate in
    let size : ℕ = coded_bits_of r in
    let bits : ℕ = label_bits_of r in
    let n : ℕ = q / size in
    let k : ℕ = q % size in
    let wide = coded_bits_of-range r in
    let some = label_bits_of-range r in
    let low : k < size = mod-lt q (omega (arith, wide)) in
    let place : ℕ = place_of r k in
    let below : place < size = place_of-bound r k low in
    let m : ℕ = place / bits in
    let e : ℕ = place % bits in
    let m_low : m < 48 = label-below place bits size (coded_bits_of-is r) some.0 below in
    let e_low : e < bits = mod_below place bits (omega (arith, some)) in
    let n_low : n < symbols_of r (length f.octets) =
    (div-lt_iff_lt-mul {k = size} {x = q} {y = symbols_of r (length f.octets)} (omega (arith, wide))).1 within in
    let places : List Bool = interleaved r (symbol_bits f n) in
    let bit : at_place r labels n place ≡ get_or (coded_of f) q false =
    ap (λ (label : ℕ). label_bit (modulation_of r) label e) (are n m n_low m_low)
    ∙ (label_at-bit r places m e e_low
    ∙ (ap (λ (z : ℕ). get_or places z false) (div-add-mod' place bits)
    ∙ (interleaved-place r (symbol_bits f n) k low
    ∙ (symbol_bits-at f n k low ∙ ap (λ (z : ℕ). get_or (coded_of f) z false) (div-add-mod' q size))))) in
    ap (λ (b : Bool). Some b) bit

-- all bits of a front of what is sent
all-come : (f : LegacyFrameView) (labels : List ℕ) (n : ℕ) (sent rest : List Bool) → AreLabelsOf f labels
    → n ≤ symbols_of f.rate (length f.octets) * coded_bits_of f.rate → coded_of f ≡ sent ++ rest → length sent ≡ n
    → map (received_at f.rate labels) (range_with_len 0 n) ≡ map Some sent
all-come f labels n sent rest are within is long =
    let list : List (Option Bool) = map (received_at f.rate labels) (range_with_len 0 n) in
    let count : length list ≡ n = length-map-range_with_len (received_at f.rate labels) 0 n in
    ext_get_or None list (map Some sent) (count ∙ (sym long ∙ sym (length-map sent Some)))
    (λ q below.
    let low : q < n = omega (arith, below, count) in
    let low_sent : q < length sent = omega (arith, low, long) in
    get_or-map-range_with_len (received_at f.rate labels) 0 n q q None low (omega arith)
    ∙ (comes f labels q are (omega (arith, low, within))
    ∙ (ap (λ (xs : List Bool). Some (get_or xs q false)) is
    ∙ (ap (λ (b : Bool). Some b) (get_or_append_left sent rest false q low_sent)
    ∙ sym (get_or-map Some sent q false None low_sent)))))

-- SERVICE and octets, and what the encoder takes of a frame up to its tail
abbrev pub plain_of : LegacyFrameView → List Bool
plain_of f = replicate 16 false ++ bits_of f.octets

abbrev pub sent_input : LegacyFrameView → List Bool
sent_input f = scrambled f.seed (plain_of f) ++ replicate 6 false

length-plain : (f : LegacyFrameView) → length (scrambled f.seed (plain_of f)) ≡ 16 + 8 * length f.octets
length-plain f =
    length-scrambled_from f.seed 0 (plain_of f)
    ∙ (length-append (replicate 16 false) (bits_of f.octets) ∙ ap (λ (k : ℕ). 16 + k) (length-bits_of f.octets))

length-sent_input : (f : LegacyFrameView) → length (sent_input f) ≡ needed_bits (length f.octets)
length-sent_input f =
    length-append (scrambled f.seed (plain_of f)) (replicate 6 false) ∙ ap (λ (k : ℕ). k + 6) (length-plain f)

-- a scrambled bit doesn't depend on what follows it
scrambled-front : (seed s : ℕ) (xs ys : List Bool) → take (length xs) (scrambled_from seed s (xs ++ ys)) ≡ scrambled_from seed s xs
scrambled-front seed s [] ys = refl
scrambled-front seed s (x ∷ xs) ys = ap (λ (bits : List Bool). xor x (sequence seed s) ∷ bits) (scrambled-front seed (suc s) xs ys)

input-is : (f : LegacyFrameView) → coder_input f ≡ sent_input f ++ drop (service_and_octets f + 6) (scrambled f.seed (data_of f))
unfolding coder_input data_of
input-is f =
    let zeros : List Bool = replicate (6 + pads_of f.rate (length f.octets)) false in
    let bits : List Bool = scrambled f.seed (plain_of f ++ zeros) in
    let count : service_and_octets f ≡ length (plain_of f) = sym (length-plain f) ∙ length-scrambled_from f.seed 0 (plain_of f) in
    let front : take (service_and_octets f) bits ≡ scrambled f.seed (plain_of f) =
    ap (λ (k : ℕ). take k bits) count ∙ scrambled-front f.seed 0 (plain_of f) zeros in
    ap (λ (xs : List Bool). (xs ++ replicate 6 false) ++ drop (service_and_octets f + 6) bits) front

-- it ends with the tail
terminated : (f : LegacyFrameView) → IsTrue (is_terminated (needed_bits (length f.octets)) (sent_input f))
terminated f =
    let front : List Bool = scrambled f.seed (plain_of f) in
    let long = length-sent_input f in
    let place : length (sent_input f) - 6 ≡ length front = let h = length-plain f in omega (arith, long, h) in
    let rest : drop (length (sent_input f) - 6) (sent_input f) ≡ replicate 6 false =
    drop_at front (replicate 6 false) (length (sent_input f) - 6) (sym place) in
    let zeros : list_all not (replicate 6 false) ≡ true = refl in
    terminated-from (needed_bits (length f.octets)) (sent_input f) long
    (ends-test (sent_input f) (ap (λ (xs : List Bool). list_all not xs) rest ∙ zeros))

-- what is received of a frame is what its input sends
undisturbed : (f : LegacyFrameView) (labels : List ℕ) → AreLabelsOf f labels
    → received_of f.rate (length f.octets) labels ≡ map Some (sent_bits (pattern_of f.rate) (sent_input f))
unfolding received_of coded_of
undisturbed f labels are =
    let p : Pattern = pattern_of f.rate in
    let rest : List Bool = drop (service_and_octets f + 6) (scrambled f.seed (data_of f)) in
    all-come f labels (sent_count p (needed_bits (length f.octets))) (sent_bits p (sent_input f))
    (sent_from p (length (sent_input f)) (reverse (sent_input f)) rest) are (coded-fit f.rate (length f.octets))
    (ap (λ (xs : List Bool). sent_bits p xs) (input-is f) ∙ sent_bits-appended p (sent_input f) rest)
    (length-sent_bits p (sent_input f) ∙ ap (sent_count p) (length-sent_input f))

input-back : (f : LegacyFrameView) (labels : List ℕ) → AreLabelsOf f labels → input_of f.rate (length f.octets) labels ≡ sent_input f
unfolding input_of
input-back f labels are =
    let p : Pattern = pattern_of f.rate in
    let steps : ℕ = needed_bits (length f.octets) in
    decoded_is steps p (received_of f.rate (length f.octets) labels) (sent_input f) (omega arith)
    (subst (λ (bits : List (Option Bool)). IsDecoded steps p bits (sent_input f)) (sym (undisturbed f labels are))
    (sent-decoded steps p (sent_input f) (terminated f)))

distance-back : (f : LegacyFrameView) (labels : List ℕ) → AreLabelsOf f labels
    → distance (pattern_of f.rate) (received_of f.rate (length f.octets) labels) (input_of f.rate (length f.octets) labels) ≡ 0
distance-back f labels are =
    let p : Pattern = pattern_of f.rate in
    ap (λ (u : List Bool). distance p (received_of f.rate (length f.octets) labels) u) (input-back f labels are)
    ∙ (ap (λ (bits : List (Option Bool)). distance p bits (sent_input f)) (undisturbed f labels are) ∙ distance-sent p (sent_input f))

outcome-back : (f : LegacyFrameView) (labels : List ℕ) → IsSeed f.seed → All (λ octet. octet < 2 ^ 8) f.octets → AreLabelsOf f labels
    → outcome_of (scrambled_bits f.rate (length f.octets) labels) ≡ Octets f.octets
unfolding scrambled_bits
outcome-back f labels seed bytes are =
    let front : List Bool = scrambled f.seed (plain_of f) in
    let cut : List Bool → Outcome = λ u. outcome_of (take (16 + 8 * length f.octets) u) in
    ap cut (input-back f labels are)
    ∙ (ap outcome_of (take_at front (replicate 6 false) (16 + 8 * length f.octets) (length-plain f))
    ∙ returned f.seed f.octets seed (λ k lt. All-get_or (λ octet. octet < 2 ^ 8) f.octets k 0 lt bytes))

pub decoded_back : (f : LegacyFrameView) (labels : List ℕ) → IsSeed f.seed → All (λ octet. octet < 2 ^ 8) f.octets → AreLabelsOf f labels
    → legacy_decoded_frame f.rate (length f.octets) labels ≡ record { outcome = Octets f.octets; code = 0 }
unfolding legacy_decoded_frame
decoded_back f labels seed bytes are =
    let made : Outcome → ℕ → Decoded = λ o k. record { outcome = o; code = k } in
    let code : ℕ = distance (pattern_of f.rate) (received_of f.rate (length f.octets) labels) (input_of f.rate (length f.octets) labels) in
    ap (λ (o : Outcome). made o code) (outcome-back f labels seed bytes are)
    ∙ ap (λ (k : ℕ). made (Octets f.octets) k) (distance-back f labels are)
