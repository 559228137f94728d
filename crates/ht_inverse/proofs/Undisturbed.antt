-- What was sent undisturbed is decoded to what was sent.
use Rattle.std.proofs.Common.{◌≡◌, ℕ, ◌*◌, ◌<◌, ◌≤◌, List, ◌++◌, length, map, reverse, slice_index_or, Bool, false, IsTrue}
use Rattle.std.proofs.Common.{Option, Some, None, sym, ap, ◌∙◌, subst, arith}
use Rattle.std.specs.Prelude.{◌==◌}
use Rattle.std.specs.List.{range_with_len}
use Rattle.std.proofs.lemmas.List.{ext_get_or, get_or_append_left, length-map, get_or-map}
use Rattle.std.proofs.lemmas.List.FromFn.{length-map-range_with_len, get_or-map-range_with_len}
use Rattle.std.proofs.lemmas.Nat.Bits.{bit_at-zero}
use Rattle.std.proofs.lemmas.Bool.{cond-false}
use Rattle.ht_rate.specs.declared.rates.Rate.{Rate}
use Rattle.ht_rate.specs.declared.kinds.Carrier.TheVariants.{Data}
use Rattle.ht_rate.specs.Carriers.{index_of}
use Rattle.ht_rate.specs.Rates.{encoders_of, modulation_of, pattern_of, steps_of, symbols_of}
use Rattle.ht_conv.specs.Code.{sent_bits}
use Rattle.ht_conv.specs.Continued.{sent_from}
use Rattle.ht_conv.specs.Puncturing.{sent_count}
use Rattle.ht_conv.proofs.Fitting.{sent_fits}
use Rattle.ht_conv.proofs.MidStream.{length-sent_bits, sent_bits-appended}
use Rattle.ht_map.specs.Gray.{label_bit}
use Rattle.ht_parse.specs.Streams.{share_of}
use Rattle.ht_landing.specs.Landings.{coded_bit_of, landing_of}
use Rattle.ht_landing.proofs.Landed.{coded_bit_of-only, landing_of-symbol, lands}
use Rattle.ht_viterbi.specs.Inputs.{IsDecoded, distance, is_terminated}
use Rattle.ht_viterbi.proofs.Nearest.{terminated-parts}
use Rattle.ht_viterbi.proofs.Orders.{distance-sent, sent-decoded}
use Rattle.ht_inverse.specs.Received.{is_lost, label_number, received_at, received_of}
use Rattle.ht_inverse.specs.Sent.{HoldCoded}

-- nothing is erased
pub none-lost : (r : Rate) (carrier : ℕ) → is_lost r 0 carrier ≡ false
unfolding is_lost
none-lost r carrier = ap (λ (n : ℕ). n == 1) (bit_at-zero (index_of r (Data carrier)))

-- a coded bit comes as it was sent
comes : (r : Rate) (symbols j q : ℕ) (labels : List ℕ) (coded : ℕ → List Bool) → HoldCoded r symbols labels coded → j < encoders_of r → q < symbols * share_of r
    → received_at r 0 labels j q ≡ Some (slice_index_or (coded j) q false)
unfolding received_at
comes r symbols j q labels coded hold there within =
    let l = landing_of r j q in
    let lies = lands r j q there in
    let inside : l.symbol < symbols = (landing_of-symbol r j q symbols).1 within in
    let from : coded_bit_of r l ≡ (j, q) = sym (coded_bit_of-only r l j q lies) in
    let is = hold l lies.label inside ∙ ap (λ (c : ℕ × ℕ). slice_index_or (coded c.0) c.1 false) from in
    cond-false (is_lost r 0 l.carrier) None
    (Some (label_bit (modulation_of r) (slice_index_or labels (label_number r l.symbol l.carrier l.stream) 0) l.bit)) (none-lost r l.carrier)
    ∙ ap (λ (b : Bool). Some b) is

-- all of them
all-come : (r : Rate) (symbols j n : ℕ) (labels : List ℕ) (coded : ℕ → List Bool) (sent rest : List Bool) → HoldCoded r symbols labels coded → j < encoders_of r
    → n ≤ symbols * share_of r → coded j ≡ sent ++ rest → length sent ≡ n → map (received_at r 0 labels j) (range_with_len 0 n) ≡ map Some sent
all-come r symbols j n labels coded sent rest hold there within is long =
    let list = map (received_at r 0 labels j) (range_with_len 0 n) in
    let count : length list ≡ n = length-map-range_with_len (received_at r 0 labels j) 0 n in
    ext_get_or None list (map Some sent) (count ∙ (sym long ∙ sym (length-map sent Some)))
    (λ q below.
    let low : q < n = omega (arith, below, count) in
    let low_sent : q < length sent = omega (arith, low, long) in
    get_or-map-range_with_len (received_at r 0 labels j) 0 n q q None low (omega arith)
    ∙ (comes r symbols j q labels coded hold there (omega (arith, low, within))
    ∙ (ap (λ (xs : List Bool). Some (slice_index_or xs q false)) is
    ∙ (ap (λ (b : Bool). Some b) (get_or_append_left sent rest false q low_sent)
    ∙ sym (get_or-map Some sent q false None low_sent)))))

fits : (r : Rate) (octets : ℕ) → sent_count (pattern_of r) (steps_of r octets) ≤ symbols_of r octets * share_of r
unfolding share_of
fits r octets = sent_fits r octets

pub undisturbed : (r : Rate) (octets j : ℕ) (labels : List ℕ) (coded : ℕ → List Bool) (input rest : List Bool)
    → j < encoders_of r → HoldCoded r (symbols_of r octets) labels coded
    → coded j ≡ sent_bits (pattern_of r) (input ++ rest) → IsTrue (is_terminated (steps_of r octets) input)
    → IsDecoded (steps_of r octets) (pattern_of r) (received_of r octets 0 labels j) input
    × (distance (pattern_of r) (received_of r octets 0 labels j) input ≡ 0)
unfolding received_of
undisturbed r octets j labels coded input rest there hold is ends =
    let p = pattern_of r in
    let steps = steps_of r octets in
    let long : length (sent_bits p input) ≡ sent_count p steps = length-sent_bits p input ∙ ap (sent_count p) (terminated-parts steps input ends).0 in
    let same : map (received_at r 0 labels j) (range_with_len 0 (sent_count p steps)) ≡ map Some (sent_bits p input) =
    all-come r (symbols_of r octets) j (sent_count p steps) labels coded (sent_bits p input) (sent_from p (length input) (reverse input) rest) hold there
    (fits r octets) (is ∙ sent_bits-appended p input rest) long in
    subst (λ (received : List (Option Bool)). IsDecoded steps p received input × (distance p received input ≡ 0)) (sym same)
    (sent-decoded steps p input ends, distance-sent p input)
