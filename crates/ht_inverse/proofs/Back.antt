-- What the encoders of a frame sent comes back.
use Rattle.std.proofs.Common.{◌≡◌, ℕ, zero, suc, ◌+◌, ◌-◌, ◌*◌, ◌/◌, ◌%◌, ◌<◌, List, ◌++◌, length, map, slice_index_or, replicate}
use Rattle.std.proofs.Common.{Bool, false, get_or, refl, sym, ap, ◌∙◌, arith, length-append}
use Rattle.std.specs.Prelude.{sum}
use Rattle.std.specs.List.{range_with_len}
use Rattle.std.proofs.lemmas.List.{ext_get_or}
use Rattle.std.proofs.lemmas.List.FromFn.{length-map-range_with_len, get_or-map-range_with_len}
use Rattle.std.proofs.lemmas.Nat.{div-add-mod', mod_below, div_below}
use Rattle.ht_bits.specs.Bits.{bits_of}
use Rattle.ht_bits.proofs.Octets.{length-bits_of}
use Rattle.ht_rate.specs.declared.rates.Rate.{Rate}
use Rattle.ht_rate.specs.Rates.{encoders_of, pattern_of, steps_of, symbols_of}
use Rattle.ht_rate.proofs.RateFacts.{encoders_of-range}
use Rattle.ht_scramble.specs.Sequence.{IsSeed, scrambled}
use Rattle.ht_scramble.proofs.Lists.{length-scrambled_from}
use Rattle.ht_viterbi.specs.Inputs.{distance}
use Rattle.ht_viterbi.proofs.Enumerating.{decoded_is}
use Rattle.ht_inverse.specs.declared.decoded.Decoded.{Decoded}
use Rattle.ht_inverse.specs.declared.outcome.Outcome.{Outcome}
use Rattle.ht_inverse.specs.declared.outcome.Outcome.TheVariants.{Octets}
use Rattle.ht_inverse.specs.Received.{received_of}
use Rattle.ht_inverse.specs.Decoding.{decoded_frame, distance_at, input_of, outcome_of, scrambled_bits}
use Rattle.ht_inverse.specs.Sent.{AreCodedOf, HoldCoded}
use Rattle.ht_inverse.proofs.Codewords.{data-bits, steps-some}
use Rattle.ht_inverse.proofs.Returned.{returned}
use Rattle.ht_inverse.proofs.Undisturbed.{undisturbed}

-- each encoder's input comes back
input-back : (r : Rate) (octets j : ℕ) (bits : List Bool) (labels : List ℕ) (coded : ℕ → List Bool) (are : AreCodedOf r octets bits coded)
    → HoldCoded r (symbols_of r octets) labels coded → j < encoders_of r → input_of r octets 0 labels j ≡ are.input j
unfolding input_of
input-back r octets j bits labels coded are hold there =
    let is = undisturbed r octets j labels coded (are.input j) (are.rest j) there hold (are.sent j there) (are.terminated j there) in
    decoded_is (steps_of r octets) (pattern_of r) (received_of r octets 0 labels j) (are.input j) (steps-some r octets) is.0

-- at distance 0
distance-back : (r : Rate) (octets j : ℕ) (bits : List Bool) (labels : List ℕ) (coded : ℕ → List Bool) → AreCodedOf r octets bits coded
    → HoldCoded r (symbols_of r octets) labels coded → j < encoders_of r → distance_at r octets 0 labels j ≡ 0
unfolding distance_at
distance-back r octets j bits labels coded are hold there =
    let is = undisturbed r octets j labels coded (are.input j) (are.rest j) there hold (are.sent j there) (are.terminated j there) in
    ap (λ (u : List Bool). distance (pattern_of r) (received_of r octets 0 labels j) u) (input-back r octets j bits labels coded are hold there) ∙ is.1

-- so do the bits of all inputs
bits-back : (r : Rate) (octets : ℕ) (bits : List Bool) (labels : List ℕ) (coded : ℕ → List Bool) → AreCodedOf r octets bits coded
    → HoldCoded r (symbols_of r octets) labels coded → length bits ≡ 16 + 8 * octets → scrambled_bits r octets 0 labels ≡ bits
unfolding scrambled_bits
bits-back r octets bits labels coded are hold long =
    let e = encoders_of r in
    let rule : ℕ → Bool = λ t. slice_index_or (input_of r octets 0 labels (t % e)) (t / e) false in
    let count : length (map rule (range_with_len 0 (16 + 8 * octets))) ≡ 16 + 8 * octets = length-map-range_with_len rule 0 (16 + 8 * octets) in
    ext_get_or false (map rule (range_with_len 0 (16 + 8 * octets))) bits (count ∙ sym long)
    (λ t lt.
    let low : t < 16 + 8 * octets = omega (arith, lt, count) in
    let parts : t / e * e + t % e ≡ t = div-add-mod' t e in
    let place : e * (t / e) + t % e ≡ t = omega (arith, parts) in
    let below : t % e < e = mod_below t e (encoders_of-range r).0 in
    let all = data-bits r octets e refl in
    let row : t / e < steps_of r octets - 6 = div_below t e (steps_of r octets - 6) (encoders_of-range r).0 (omega (arith, low, all)) in
    get_or-map-range_with_len rule 0 (16 + 8 * octets) t t false low (omega arith)
    ∙ (ap (λ (u : List Bool). slice_index_or u (t / e) false) (input-back r octets (t % e) bits labels coded are hold below)
    ∙ (are.parts (t % e) (t / e) below row
    ∙ ap (λ (k : ℕ). slice_index_or bits k false) place)))

-- no place differs
code-back : (r : Rate) (octets e : ℕ) (labels : List ℕ) → encoders_of r ≡ e → ((j : ℕ) → j < encoders_of r → distance_at r octets 0 labels j ≡ 0)
    → sum (map (distance_at r octets 0 labels) (range_with_len 0 (encoders_of r))) ≡ 0
code-back r octets zero labels is none = absurd (let h = (encoders_of-range r).0 in omega (arith, h, is))
code-back r octets (suc zero) labels is none =
    let all : 0 + distance_at r octets 0 labels 0 ≡ sum (map (distance_at r octets 0 labels) (range_with_len 0 (encoders_of r))) =
    ap (λ k. sum (map (distance_at r octets 0 labels) (range_with_len 0 k))) (sym is) in
    let a = none 0 (omega (arith, is)) in
    omega (arith, a, all)
code-back r octets (suc (suc zero)) labels is none =
    let all : 0 + distance_at r octets 0 labels 0 + distance_at r octets 0 labels 1
    ≡ sum (map (distance_at r octets 0 labels) (range_with_len 0 (encoders_of r))) =
    ap (λ k. sum (map (distance_at r octets 0 labels) (range_with_len 0 k))) (sym is) in
    let a = none 0 (omega (arith, is)) in
    let b = none 1 (omega (arith, is)) in
    omega (arith, a, b, all)
code-back r octets (suc (suc (suc n))) labels is none = absurd (let h = (encoders_of-range r).1 in omega (arith, h, is))

pub come_back : (r : Rate) (seed : ℕ) (octets : List ℕ) (labels : List ℕ) (coded : ℕ → List Bool) → IsSeed seed
    → ((k : ℕ) → k < length octets → get_or octets k 0 < 256)
    → AreCodedOf r (length octets) (scrambled seed (replicate 16 false ++ bits_of octets)) coded
    → HoldCoded r (symbols_of r (length octets)) labels coded
    → decoded_frame r (length octets) 0 labels ≡ record { outcome = Octets octets; code = 0 }
unfolding decoded_frame
come_back r seed octets labels coded is bytes are hold =
    let plain = replicate 16 false ++ bits_of octets in
    let bits = scrambled seed plain in
    let n = length octets in
    let long : length bits ≡ 16 + 8 * n =
    length-scrambled_from seed 0 plain ∙ (length-append (replicate 16 false) (bits_of octets) ∙ ap (λ k. 16 + k) (length-bits_of octets)) in
    let made : Outcome → ℕ → Decoded = λ o k. record { outcome = o; code = k } in
    let code = sum (map (distance_at r n 0 labels) (range_with_len 0 (encoders_of r))) in
    ap (λ o. made o code) (ap outcome_of (bits-back r n bits labels coded are hold long) ∙ returned seed octets is bytes)
    ∙ ap (λ k. made (Octets octets) k) (code-back r n (encoders_of r) labels refl (λ j there. distance-back r n j bits labels coded are hold there))
