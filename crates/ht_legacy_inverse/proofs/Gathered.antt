-- What the places of a symbol say of the coded bits of each symbol.
use Rattle.std.proofs.Common.{◌≡◌, ℕ, ◌+◌, ◌-◌, ◌*◌, ◌/◌, ◌%◌, ◌<◌, ◌≤◌, List, ◌∷◌, [], ◌++◌, map, length, replicate, slice_index_or}
use Rattle.std.proofs.Common.{Bool, Option, None, Some, refl, sym, ap, ◌∙◌, subst, arith, min, ⊎_elim}
use Rattle.std.specs.Prelude.{◌==◌}
use Rattle.std.specs.Int.{bit_at}
use Rattle.std.specs.Int.RustNames.{bit_and}
use Rattle.std.specs.List.{range_with_len}
use Rattle.std.proofs.lemmas.Bool.{cases_lt}
use Rattle.std.proofs.lemmas.List.{ext_get_or, get_or-map, length-map, length-replicate, map-append}
use Rattle.std.proofs.lemmas.List.FromFn.{get_or-map-range_with_len, length-map-range_with_len}
use Rattle.std.proofs.Math.Nat.{add-mul, div-eq_of_lt-le, div-lt_iff_lt-mul, min-eq_left, min-eq_right, mod-eq-sub-div-mul}
use Rattle.ht_conv.specs.Puncturing.{sent_count}
use Rattle.ht_conv.proofs.MidStream.{length-sent_bits}
use Rattle.ht_map.specs.Gray.{label_bit}
use Rattle.ht_viterbi.proofs.Sending.{sent-grows}
use Rattle.ht_viterbi.specs.Packed.{packed, packed_bit}
use Rattle.ht_clause18.specs.declared.rates.LegacyRate.{LegacyRate}
use Rattle.ht_clause18.specs.Coded.{coded_of, coder_input}
use Rattle.ht_clause18.specs.Frames.{LegacyFrameView}
use Rattle.ht_clause18.specs.Interleaver.{place_of}
use Rattle.ht_clause18.specs.Rates.{coded_bits_of, label_bits_of, needed_bits, pattern_of, symbols_of}
use Rattle.ht_clause18.proofs.Coding.{length-coded_of, length-coder_input}
use Rattle.ht_clause18.proofs.Interleaving.{place_of-bound}
use Rattle.ht_clause18.proofs.RateFacts.{coded_bits_of-is, label_bits_of-is, label_bits_of-range, pads_of-fills}
use Rattle.ht_inverse.specs.Shares.{HasMarks, is_one}
use Rattle.ht_inverse.proofs.Gathered.{value-added}
use Rattle.ht_inverse.proofs.Marked.{marked}
use Rattle.ht_legacy_inverse.specs.declared.label_place.LabelPlace.{LabelPlace}
use Rattle.ht_legacy_inverse.specs.Places.{AreLabelPlaces, label_place_of, no_place}
use Rattle.ht_legacy_inverse.specs.Received.{at_place, received_at, received_of, told_by}

-- a number below 48 times as many as a label has bits is that of a label and of a bit of it
pub label-below : (place bits size : ℕ) → size ≡ 48 * bits → 1 ≤ bits → place < size → place / bits < 48
label-below place bits size whole some below = (div-lt_iff_lt-mul {k = bits} {x = place} {y = 48} some).1 (omega (arith, whole, below))

-- a place lies within the symbol's labels
pub place-bound : (r : LegacyRate) (k : ℕ) → k < coded_bits_of r → (label_place_of r k).carrier < 48
unfolding label_place_of
place-bound r k below =
    label-below (place_of r k) (label_bits_of r) (coded_bits_of r) (coded_bits_of-is r) (label_bits_of-range r).0 (place_of-bound r k below)

-- what the encoder of a frame takes has the needed bits
input-holds : (f : LegacyFrameView) → needed_bits (length f.octets) ≤ length (coder_input f)
input-holds f = omega (arith, length-coder_input f, pads_of-fills f.rate (length f.octets))

-- the coded bits of a codeword fit into the symbols
pub coded-fit : (r : LegacyRate) (octets : ℕ) → sent_count (pattern_of r) (needed_bits octets) ≤ symbols_of r octets * coded_bits_of r
unfolding coded_of
coded-fit r octets =
    let f : LegacyFrameView = record { rate = r; seed = 1; octets = replicate octets 0 } in
    let p = pattern_of r in
    let all : sent_count p (length (coder_input f)) ≡ symbols_of r (length f.octets) * coded_bits_of r =
    sym (length-sent_bits p (coder_input f)) ∙ length-coded_of f in
    let holds = input-holds f in
    let some : needed_bits (length f.octets) + (length (coder_input f) - needed_bits (length f.octets)) ≡ length (coder_input f) = omega (arith, holds) in
    let grows = sent-grows p (length (coder_input f) - needed_bits (length f.octets)) (needed_bits (length f.octets)) in
    let same = ap (sent_count p) some in
    let fit : sent_count p (needed_bits (length f.octets)) ≤ symbols_of r (length f.octets) * coded_bits_of r = omega (arith, grows, same, all) in
    subst (λ (n : ℕ). sent_count p (needed_bits n) ≤ symbols_of r n * coded_bits_of r) (length-replicate octets 0) fit

-- a place of a symbol, from the number that it has in the frame
at-symbol : (n k size : ℕ) → k < size → ((n * size + k) / size ≡ n) × ((n * size + k) % size ≡ k)
at-symbol n k size below =
    let more = add-mul n 1 size in
    let some : n * size + k < (n + 1) * size = omega (arith, more, below) in
    let least : n * size ≤ n * size + k = omega arith in
    let over : (n * size + k) / size ≡ n = div-eq_of_lt-le {k = n} size {m = n * size + k} least some in
    let left = mod-eq-sub-div-mul (n * size + k) size in
    let same = ap (λ (m : ℕ). m * size) over in
    (over, omega (arith, left, same))

-- its symbol is one of the frame's
pub symbol-below : (n k size symbols : ℕ) → k < size → n * size + k < symbols * size → n < symbols
symbol-below n k size symbols below within =
    subst (λ (m : ℕ). m < symbols) (at-symbol n k size below).0
    ((div-lt_iff_lt-mul {k = size} {x = n * size + k} {y = symbols} (omega (arith, below))).1 within)

-- where bits are left, their symbol is one of the frame's
pub symbol-left : (n left count size symbols : ℕ) → 1 ≤ size → 1 ≤ left → n * size + left ≡ count → count ≤ symbols * size → n < symbols
symbol-left n left count size symbols some more whole within = symbol-below n 0 size symbols (omega arith) (omega arith)

-- of what is left, a whole symbol is taken where more is left behind it
pub whole-symbol : (n left size : ℕ) → 1 ≤ left - min left size → (n + 1) * size + (left - min left size) ≡ n * size + left
whole-symbol n left size more = ⊎_elim
    (λ less. let all = min-eq_left {n = left} {m = size} (omega (arith, less)) in absurd (omega (arith, all, more)))
    (λ over. let some = min-eq_right {n = size} {m = left} over in let next = add-mul n 1 size in omega (arith, some, next, over))
    (cases_lt left size)

-- the place of a coded bit, from the table
pub place-is : (r : LegacyRate) (places : List LabelPlace) (k : ℕ) → AreLabelPlaces r places → k < coded_bits_of r
    → slice_index_or places k no_place ≡ label_place_of r k
place-is r places k are below = are.each k below

-- and by its number as it was counted
pub place-found : (r : LegacyRate) (places : List LabelPlace) (k at : ℕ) → at ≡ k → AreLabelPlaces r places → k < coded_bits_of r
    → slice_index_or places at no_place ≡ label_place_of r k
place-found r places k at same are below = ap (λ (n : ℕ). slice_index_or places n no_place) same ∙ place-is r places k are below

-- its label stands among those of a symbol
pub label-within : (r : LegacyRate) (place : LabelPlace) (k : ℕ) → place ≡ label_place_of r k → k < coded_bits_of r → place.carrier < 48
label-within r place k is below = subst (λ (p : LabelPlace). p.carrier < 48) (sym is) (place-bound r k below)

-- and it is what was received
pub bit-is : (r : LegacyRate) (labels : List ℕ) (place : LabelPlace) (n k mark : ℕ) → k < coded_bits_of r → place ≡ label_place_of r k
    → mark ≡ bit_and (slice_index_or labels (n * 48 + place.carrier) 0) place.mask
    → told_by mark ≡ received_at r labels (n * coded_bits_of r + k)
unfolding received_at label_place_of label_bit told_by
bit-is r labels place n k mark below is marks =
    let size = coded_bits_of r in
    let q = n * size + k in
    let there = place_of r k in
    let label = slice_index_or labels (n * 48 + there / label_bits_of r) 0 in
    let said : LabelPlace → Option Bool = λ p. Some (is_one (bit_and (slice_index_or labels (n * 48 + p.carrier) 0) p.mask)) in
    let told : ℕ → Option Bool = λ bits. Some (bit_at label (bits - 1 - there % label_bits_of r) == 1) in
    let at : ℕ → ℕ → Option Bool = λ symbol place. Some (at_place r labels symbol (place_of r place)) in
    let spot = at-symbol n k size below in
    ap (λ (m : ℕ). Some (is_one m)) marks ∙ (ap said is
    ∙ (ap (λ (b : Bool). Some b) (marked label (label_bits_of r - 1 - there % label_bits_of r)) ∙ (ap told (label_bits_of-is r)
    ∙ sym (ap (λ (m : ℕ). at m (q % size)) spot.0 ∙ ap (at n) spot.1))))

-- one coded bit more
pub bits-more : (r : LegacyRate) (labels old new : List ℕ) (bit q : ℕ) → new ≡ old ++ bit ∷ []
    → told_by bit ≡ received_at r labels q → map told_by old ≡ map (received_at r labels) (range_with_len 0 q)
    → map told_by new ≡ map (received_at r labels) (range_with_len 0 (q + 1))
bits-more r labels old new bit q is told so_far =
    ap (λ (bits : List ℕ). map told_by bits) is
    ∙ (map-append told_by old (bit ∷ []) ∙ value-added (received_at r labels) (map told_by old) (told_by bit) q (q + 1) told refl so_far)

-- all of them
pub all-bits : (r : LegacyRate) (octets : ℕ) (labels bits : List ℕ) (q : ℕ) → q ≡ sent_count (pattern_of r) (needed_bits octets)
    → map told_by bits ≡ map (received_at r labels) (range_with_len 0 q) → map told_by bits ≡ received_of r octets labels
unfolding received_of
all-bits r octets labels bits q all are = are ∙ ap (λ (n : ℕ). map (received_at r labels) (range_with_len 0 n)) all

-- there is one for each place of the received list
pub bits-length : (r : LegacyRate) (octets : ℕ) (labels bits : List ℕ) → map told_by bits ≡ received_of r octets labels
    → length bits ≡ sent_count (pattern_of r) (needed_bits octets)
unfolding received_of
bits-length r octets labels bits are =
    sym (length-map bits told_by) ∙ (ap (λ (xs : List (Option Bool)). length xs) are
    ∙ length-map-range_with_len (received_at r labels) 0 (sent_count (pattern_of r) (needed_bits octets)))

-- words that have them hold the received list
pub words-hold : (r : LegacyRate) (octets : ℕ) (labels bits words : List ℕ) → map told_by bits ≡ received_of r octets labels
    → HasMarks words bits (length bits) → packed words (sent_count (pattern_of r) (needed_bits octets)) ≡ received_of r octets labels
unfolding packed told_by
words-hold r octets labels bits words are has =
    let count = sent_count (pattern_of r) (needed_bits octets) in
    let long = bits-length r octets labels bits are in
    let bit : ℕ → Option Bool = λ q. Some (packed_bit words q) in
    let many = length-map-range_with_len bit 0 count in
    ext_get_or None (map bit (range_with_len 0 count)) (map told_by bits) (many ∙ (sym long ∙ sym (length-map bits told_by)))
    (λ q below.
    let low : q < count = omega (arith, below, many) in
    let there : q < length bits = omega (arith, low, long) in
    get_or-map-range_with_len bit 0 count q q None low (omega arith)
    ∙ (ap (λ (b : Bool). Some b) (has q there) ∙ sym (get_or-map told_by bits q 0 None there)))
    ∙ are
