-- The coded bits of a frame.
use Rattle.std.proofs.Common.{◌≡◌, ℕ, zero, suc, ◌+◌, ◌-◌, ◌*◌, ◌/◌, ◌%◌, ◌<◌, ◌≤◌, List, [], ◌∷◌, ◌++◌, map}
use Rattle.std.proofs.Common.{length, Bool, false, get_or, refl, ap, sym, ◌∙◌, subst, arith}
use Rattle.std.specs.List.{range_with_len}
use Rattle.std.proofs.Math.Nat.{mul-div_cancel_left}
use Rattle.std.proofs.lemmas.List.{ext_get_or, length-append, get_or_append_left, get_or-append-add}
use Rattle.std.proofs.lemmas.List.FromFn.{get_or-map-range_with_len, length-map-range_with_len}
use Rattle.ht_rate.specs.declared.rates.Rate.{Rate}
use Rattle.ht_rate.specs.declared.kinds.Pattern.{Pattern}
use Rattle.ht_rate.specs.Rates.{data_bits_of, encoders_of, pattern_of, symbols_of, pads_of, needed_bits_of}
use Rattle.ht_rate.proofs.RateFacts.{encoders_of-range, data_bits_of-shared}
use Rattle.ht_rate.proofs.LengthFacts.{data_share-coded, data_share-periods, pads_of-fills}
use Rattle.ht_conv.specs.Puncturing.{sent_count}
use Rattle.ht_conv.specs.Code.{sent_bits}
use Rattle.ht_conv.proofs.MidStream.{length-sent_bits}
use Rattle.ht_data.specs.Data.{scrambled_data_of}
use Rattle.ht_data.proofs.Periods.{part-whole, sent_symbols}
use Rattle.ht_data.proofs.Scrambled.{length-data_of as length-data_bits, length-scrambled_data_of}
use Rattle.ht_parse.specs.Encoders.{list_of, IsParsed}
use Rattle.ht_parse.specs.Streams.{share_of}
use Rattle.ht_tx.specs.Frames.{FrameView}
use Rattle.ht_tx.specs.Coded.{service_and_octets, tail_of, data_of, coder_input, part_of, coded_of, reach_of}
use Rattle.ht_tx.specs.Sources.{AreCoded}

-- the bits of a frame fill its symbols
pub length-data_of : (f : FrameView) → length (data_of f) ≡ symbols_of f.rate (length f.octets) * data_bits_of f.rate
unfolding data_of needed_bits_of
length-data_of f =
    omega (arith, length-data_bits f.octets (tail_of f + pads_of f.rate (length f.octets)), pads_of-fills f.rate (length f.octets))

pub tail-within : (f : FrameView) → service_and_octets f + tail_of f ≤ symbols_of f.rate (length f.octets) * data_bits_of f.rate
unfolding needed_bits_of
tail-within f = omega (arith, pads_of-fills f.rate (length f.octets))

pub length-coder_input : (f : FrameView) → length (coder_input f) ≡ symbols_of f.rate (length f.octets) * data_bits_of f.rate
unfolding coder_input data_of needed_bits_of
length-coder_input f =
    let pads = pads_of f.rate (length f.octets) in
    omega (arith, length-scrambled_data_of f.seed f.octets (tail_of f) pads, pads_of-fills f.rate (length f.octets))

-- what the encoders take together, told of what the calls give
pub input-is : (f : FrameView) (r : Rate) (octets : List ℕ) (seed tail pads : ℕ) → r ≡ f.rate → octets ≡ f.octets → seed ≡ f.seed → tail ≡ tail_of f
    → pads ≡ pads_of r (length octets) → scrambled_data_of seed octets tail pads ≡ coder_input f
unfolding coder_input data_of
input-is f r octets seed tail pads dr d_o ds dt dp =
    ap (λ (x : ℕ). scrambled_data_of x octets tail pads) ds
    ∙ ap (λ (x : ℕ). scrambled_data_of f.seed octets x pads) dt
    ∙ ap (λ (x : ℕ). scrambled_data_of f.seed octets (tail_of f) x) (dp ∙ ap (λ (x : Rate). pads_of x (length octets)) dr)
    ∙ ap (λ (l : List ℕ). scrambled_data_of f.seed l (tail_of f) (pads_of f.rate (length l))) d_o

-- each encoder takes its part of each symbol's bits
input-whole : (f : FrameView) → length (coder_input f) ≡ encoders_of f.rate * (symbols_of f.rate (length f.octets) * (data_bits_of f.rate / encoders_of f.rate))
input-whole f = length-coder_input f ∙ part-whole (symbols_of f.rate (length f.octets)) (encoders_of f.rate) _ _ (data_bits_of-shared f.rate)

-- what an encoder sends of whole symbols
sent_share : (r : Rate) (symbols : ℕ) → sent_count (pattern_of r) (symbols * (data_bits_of r / encoders_of r)) ≡ symbols * share_of r
unfolding share_of
sent_share r symbols =
    sent_symbols (pattern_of r) symbols (data_bits_of r / encoders_of r) (share_of r) (data_share-periods r) (data_share-coded r)

-- the input of an encoder that the rate has is its part
part-at : (r : Rate) (bits first second : List Bool) (j : ℕ) → IsParsed r bits first second → j < encoders_of r → length (list_of first second j) ≡ length first
    → list_of first second j ≡ part_of r bits j
unfolding part_of
part-at r bits first second j parsed lj len =
    let count : length bits / encoders_of r ≡ length first =
    ap (λ (x : ℕ). x / encoders_of r) parsed.whole ∙ mul-div_cancel_left (length first) (encoders_of-range r).0 in
    let long : length (list_of first second j)
    ≡ length (map (λ i. get_or bits (encoders_of r * i + j) false) (range_with_len 0 (length bits / encoders_of r))) =
    len ∙ sym count ∙ sym (length-map-range_with_len (λ i. get_or bits (encoders_of r * i + j) false) 0 (length bits / encoders_of r)) in
    ext_get_or false _ _ long
    (λ i lt.
    let li : i < length first = omega arith in
    sym (parsed.places j i lj li)
    ∙ sym (get_or-map-range_with_len (λ i. get_or bits (encoders_of r * i + j) false) 0 (length bits / encoders_of r) i i false (omega arith) (omega arith)))

-- the lists of the encoders that the rate has, coded and one after another
joined-two : (a b : List Bool) (n : ℕ) → length a ≡ n → (q : ℕ) → get_or (a ++ b) (1 * n + q) false ≡ get_or b q false
joined-two a b n len q = let at : 1 * n + q ≡ length a + q = omega arith in ap (λ (x : ℕ). get_or (a ++ b) x false) at ∙ get_or-append-add a b q false

-- with one encoder, and with two
whole-one : (p : Pattern) (first second : List Bool) (e reach : ℕ) → e ≡ 1 → length second ≡ (e - 1) * length first → length (sent_bits p first) ≡ reach
    → length (sent_bits p first ++ sent_bits p second) ≡ e * reach
whole-one p first [] e reach one len sent =
    rw one (omega (arith, length-append (sent_bits p first) (sent_bits p [])))
whole-one p first (x ∷ second) e reach one len sent =
    let none : (e - 1) * length first ≡ 0 * length first = ap (λ (x : ℕ). (x - 1) * length first) one in
    absurd (omega arith)

same_count : (p : Pattern) (first second : List Bool) (e reach : ℕ) → e ≡ 2 → length second ≡ (e - 1) * length first → length (sent_bits p first) ≡ reach
    → length (sent_bits p second) ≡ reach
same_count p first second e reach two len sent =
    let scaled : (e - 1) * length first ≡ 1 * length first = ap (λ (x : ℕ). (x - 1) * length first) two in
    let same : length second ≡ length first = omega arith in
    length-sent_bits p second ∙ ap (sent_count p) same ∙ sym (length-sent_bits p first) ∙ sent

-- the coded bits of an encoder, by its input
coded-at : (f : FrameView) (bits first second : List Bool) (j : ℕ) → bits ≡ coder_input f → IsParsed f.rate bits first second → j < encoders_of f.rate
    → length (list_of first second j) ≡ length first → sent_bits (pattern_of f.rate) (list_of first second j) ≡ coded_of f j
unfolding coded_of
coded-at f bits first second j is_bits parsed lj len =
    ap (sent_bits (pattern_of f.rate)) (part-at f.rate bits first second j parsed lj len ∙ ap (λ (l : List Bool). part_of f.rate l j) is_bits)

length-first : (f : FrameView) (bits first second : List Bool) → bits ≡ coder_input f → IsParsed f.rate bits first second
    → length first ≡ symbols_of f.rate (length f.octets) * (data_bits_of f.rate / encoders_of f.rate)
length-first f bits first second is_bits parsed =
    sym (mul-div_cancel_left (length first) (encoders_of-range f.rate).0)
    ∙ ap (λ (x : ℕ). x / encoders_of f.rate) (sym parsed.whole ∙ ap length is_bits ∙ input-whole f)
    ∙ mul-div_cancel_left _ (encoders_of-range f.rate).0

sent_first : (f : FrameView) (bits first second : List Bool) → bits ≡ coder_input f → IsParsed f.rate bits first second
    → length (sent_bits (pattern_of f.rate) first) ≡ reach_of f
unfolding reach_of
sent_first f bits first second is_bits parsed =
    length-sent_bits (pattern_of f.rate) first
    ∙ ap (sent_count (pattern_of f.rate)) (length-first f bits first second is_bits parsed)
    ∙ sent_share f.rate (symbols_of f.rate (length f.octets))

whole : (p : Pattern) (first second : List Bool) (e reach : ℕ) → 1 ≤ e → e ≤ 2 → length second ≡ (e - 1) * length first → length (sent_bits p first) ≡ reach
    → length (sent_bits p first ++ sent_bits p second) ≡ e * reach
whole p first second zero reach low high len sent = absurd (omega arith)
whole p first second (suc zero) reach low high len sent = whole-one p first second 1 reach refl len sent
whole p first second (suc (suc zero)) reach low high len sent =
    let b = same_count p first second 2 reach refl len sent in
    omega (arith, length-append (sent_bits p first) (sent_bits p second))
whole p first second (suc (suc (suc e))) reach low high len sent = absurd (omega arith)

same_length : (first second : List Bool) (e : ℕ) → 1 < e → e ≤ 2 → length second ≡ (e - 1) * length first → length second ≡ length first
same_length first second e low high len =
    let one : e - 1 ≡ 1 = omega arith in
    let scaled : (e - 1) * length first ≡ 1 * length first = ap (λ (x : ℕ). x * length first) one in
    omega arith

place : (f : FrameView) (bits first second : List Bool) (j q : ℕ) → bits ≡ coder_input f → IsParsed f.rate bits first second
    → j < encoders_of f.rate → q < reach_of f
    → get_or (sent_bits (pattern_of f.rate) first ++ sent_bits (pattern_of f.rate) second) (j * reach_of f + q) false ≡ get_or (coded_of f j) q false
place f bits first second zero q is_bits parsed lj lq =
    let a = sent_bits (pattern_of f.rate) first in
    let len : length a ≡ reach_of f = sent_first f bits first second is_bits parsed in
    let at : 0 * reach_of f + q ≡ q = omega arith in
    ap (λ (x : ℕ). get_or (a ++ sent_bits (pattern_of f.rate) second) x false) at
    ∙ get_or_append_left a (sent_bits (pattern_of f.rate) second) false q (omega arith)
    ∙ ap (λ (l : List Bool). get_or l q false) (coded-at f bits first second 0 is_bits parsed lj refl)
place f bits first second (suc zero) q is_bits parsed lj lq =
    let a = sent_bits (pattern_of f.rate) first in
    let b = sent_bits (pattern_of f.rate) second in
    let len : length a ≡ reach_of f = sent_first f bits first second is_bits parsed in
    let at : 1 * reach_of f + q ≡ length a + q = omega arith in
    ap (λ (x : ℕ). get_or (a ++ b) x false) at
    ∙ get_or-append-add a b q false
    ∙ ap (λ (l : List Bool). get_or l q false)
    (coded-at f bits first second 1 is_bits parsed lj (same_length first second (encoders_of f.rate) lj (encoders_of-range f.rate).1 parsed.shares))
place f bits first second (suc (suc j)) q is_bits parsed lj lq = absurd (omega (arith, encoders_of-range f.rate))

pub coded-whole : (f : FrameView) (bits first second all : List Bool) → bits ≡ coder_input f → IsParsed f.rate bits first second
    → all ≡ sent_bits (pattern_of f.rate) first ++ sent_bits (pattern_of f.rate) second → AreCoded f all
coded-whole f bits first second all is_bits parsed is_all = record {
  whole =
      ap length is_all
      ∙ whole (pattern_of f.rate) first second (encoders_of f.rate) (reach_of f) (encoders_of-range f.rate).0 (encoders_of-range f.rate).1
      parsed.shares (sent_first f bits first second is_bits parsed);
  places = λ j q lj lq.
      ap (λ (l : List Bool). get_or l (j * reach_of f + q) false) is_all ∙ place f bits first second j q is_bits parsed lj lq;
}

-- the same, from what the calls give
pub coded-out : (f : FrameView) (r : Rate) (p : Pattern) (items bits first second all : List Bool)
    → r ≡ f.rate → items ≡ coder_input f → bits ≡ items → IsParsed r bits first second → p ≡ pattern_of r
    → all ≡ sent_bits p first ++ sent_bits p second → AreCoded f all
coded-out f r p items bits first second all dr di db parsed dp e =
    coded-whole f bits first second all (db ∙ di) (subst (λ (k : Rate). IsParsed k bits first second) dr parsed)
    (e ∙ ap (λ (m : Pattern). sent_bits m first ++ sent_bits m second) (dp ∙ ap pattern_of dr))

-- the encoders share the bits with no rest
no_rest : (e k n : ℕ) → 1 ≤ e → e ≤ 2 → n ≡ e * k → n % e ≡ 0
no_rest zero k n low high h = absurd (omega arith)
no_rest (suc zero) k n low high h = omega arith
no_rest (suc (suc zero)) k n low high h = omega arith
no_rest (suc (suc (suc e))) k n low high h = absurd (omega arith)

pub shared : (f : FrameView) (r : Rate) (items bits : List Bool) → r ≡ f.rate → items ≡ coder_input f → bits ≡ items → length bits % encoders_of r ≡ 0
shared f r items bits dr di db =
    rw dr (no_rest (encoders_of f.rate) _ (length bits) (encoders_of-range f.rate).0 (encoders_of-range f.rate).1 (ap length (db ∙ di) ∙ input-whole f))
