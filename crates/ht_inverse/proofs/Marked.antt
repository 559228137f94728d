-- Octets that mark the bits of a frame, and the words that are made from them.
use Rattle.std.proofs.Common.{◌≡◌, ◌∙◌, ◌↔◌, ℕ, zero, suc, ◌+◌, ◌-◌, ◌*◌, ◌/◌, ◌%◌, ◌^◌, ◌<◌, ◌≤◌, List}
use Rattle.std.proofs.Common.{[], ◌∷◌, ◌++◌, length, map, slice_index, slice_index_or}
use Rattle.std.proofs.Common.{Bool, true, false, true≢false, None, Some, inl, inr, refl, sym, ap, arith}
use Rattle.std.specs.Prelude.{◌==◌, nat_le}
use Rattle.std.specs.Int.{bit_at}
use Rattle.std.specs.Int.RustNames.{bit_and}
use Rattle.std.specs.List.{range_with_len}
use Rattle.std.proofs.lemmas.Bool.{cases_Bool, cases_lt, cond-false, eqb-true, le-leb}
use Rattle.std.proofs.lemmas.List.{ext_get_or, get_or-append_right, get_or_append_left, length-append}
use Rattle.std.proofs.lemmas.List.FromFn.{length-map-range_with_len, get_or-map-range_with_len}
use Rattle.std.proofs.lemmas.Nat.{pow_pos}
use Rattle.std.proofs.lemmas.Nat.Bits.{and_pow, bit_at-lt}
use Rattle.ht_rate.specs.declared.rates.Rate.{Rate}
use Rattle.ht_rate.specs.Rates.{pattern_of, steps_of}
use Rattle.ht_conv.specs.Puncturing.{sent_count}
use Rattle.ht_landing.specs.Landings.{landing_of}
use Rattle.ht_parse.specs.Streams.{share_of}
use Rattle.ht_viterbi.specs.Packed.{flag, packed, packed_bit}
use Rattle.ht_inverse.specs.Received.{labels_per_symbol, received_at, received_of}
use Rattle.ht_inverse.specs.Shares.{HasMarks, is_one, known_at, label_bit_of, mark_in}
use Rattle.ht_inverse.proofs.Gathered.{counted-length, parts, place-received}
use Rattle.ht_inverse.proofs.Undisturbed.{none-lost}

-- a bit as a test
not-one : (n : ℕ) → (n ≡ 1 → false ≡ true) → (n == 1) ≡ false
not-one n other = elim (cases_Bool (n == 1)) [
  | inl same ↦ absurd (true≢false (sym (other (eqb-true n 1 same))))
  | inr apart ↦ apart
]

flag-is : (word k : ℕ) (b : Bool) → ((bit_at word k ≡ 1) ↔ (b ≡ true)) → flag word k ≡ b
flag-is word k true is = ap (λ (n : ℕ). n == 1) (is.1 refl)
flag-is word k false is = not-one (bit_at word k) is.0

-- a word of octets from one on
pub word-flag : (word start k : ℕ) (octets lanes : List ℕ) → k < 60
    → ((i : ℕ) → i < 64 → (bit_at word i ≡ 1) ↔ (is_one (slice_index lanes i) ≡ true))
    → ((i : ℕ) → i < 64 → slice_index lanes i ≡ slice_index_or octets (start + i) 0)
    → flag word k ≡ is_one (slice_index_or octets (start + k) 0)
word-flag word start k octets lanes low flags are =
    flag-is word k (is_one (slice_index lanes k)) (flags k (omega (arith, low))) ∙ ap is_one (are k (omega (arith, low)))

pub longer : (words more : List ℕ) (word at : ℕ) → length words ≡ at → more ≡ words ++ word ∷ [] → length more ≡ at + 1
longer words more word at long is =
    ap (λ (xs : List ℕ). length xs) is ∙ (length-append words (word ∷ []) ∙ ap (λ (n : ℕ). n + 1) long)

-- one word more
pub marks-more : (octets words more : List ℕ) (word at : ℕ) → length words ≡ at → more ≡ words ++ word ∷ []
    → ((k : ℕ) → k < 60 → flag word k ≡ is_one (slice_index_or octets (60 * at + k) 0))
    → HasMarks words octets (60 * at) → HasMarks more octets (60 * (at + 1))
marks-more octets words more word at long is new before q low = elim (cases_lt q (60 * at)) [
  | inl earlier ↦
      let inside : q / 60 < length words = omega (arith, earlier, long) in
      ap (λ (xs : List ℕ). flag (slice_index_or xs (q / 60) 0) (q % 60)) is
      ∙ (ap (λ (n : ℕ). flag n (q % 60)) (get_or_append_left words (word ∷ []) 0 (q / 60) inside) ∙ before q earlier)
  | inr late ↦
      let here : q / 60 - at ≡ 0 = omega (arith, late, low) in
      let behind : at ≤ q / 60 = omega (arith, late) in
      let whole : 60 * at + q % 60 ≡ q = omega (arith, late, low) in
      ap (λ (xs : List ℕ). flag (slice_index_or xs (q / 60) 0) (q % 60)) is
      ∙ (ap (λ (n : ℕ). flag n (q % 60)) (get_or-append_right words (word ∷ []) at (q / 60) 0 long behind ∙ ap (λ (n : ℕ). slice_index_or (word ∷ []) n 0) here)
      ∙ (new (q % 60) (omega arith) ∙ ap (λ (n : ℕ). is_one (slice_index_or octets n 0)) whole))
]

pub marks-none : (words octets : List ℕ) (count : ℕ) → count ≡ 0 → HasMarks words octets count
marks-none words octets count none q low = absurd (omega (arith, none, low))

pub marks-fewer : (words octets : List ℕ) (count fewer : ℕ) → fewer ≤ count → HasMarks words octets count → HasMarks words octets fewer
marks-fewer words octets count fewer less has q low = has q (omega (arith, less, low))

-- the octet of a bit
one-times : (bit power : ℕ) → bit < 2 → 0 < power → nat_le 1 (bit * power) ≡ (bit == 1)
one-times zero power low some = let e : 0 * power ≡ 0 = omega arith in ap (nat_le 1) e
one-times (suc zero) power low some = le-leb 1 (1 * power) (omega (arith, some))
one-times (suc (suc n)) power low some = absurd (omega (arith, low))

pub marked : (label shift : ℕ) → is_one (bit_and label (2 ^ shift)) ≡ (bit_at label shift == 1)
marked label shift = ap is_one (and_pow label shift) ∙ one-times (bit_at label shift) (2 ^ shift) (bit_at-lt label shift) (pow_pos shift)

-- the octet of a coded bit, where nothing is erased
marked-at : (r : Rate) (j q : ℕ) (labels : List ℕ)
    → Some (is_one (known_at (λ label place. mark_in place (slice_index_or labels label 0)) r 0 j q)) ≡ received_at r 0 labels j q
unfolding label_bit_of
marked-at r j q labels =
    let is = parts r q in
    let n = q / share_of r in
    let i = q % share_of r in
    let place = label_bit_of r 0 j i in
    let label = slice_index_or labels (n * labels_per_symbol r + place.label) 0 in
    ap (λ (b : Bool). Some b) (marked label place.shift)
    ∙ (sym (cond-false place.lost None (Some (bit_at label place.shift == 1)) (none-lost r (landing_of r j i).carrier))
    ∙ (sym (place-received r 0 j n i labels is.1) ∙ ap (λ k. received_at r 0 labels j k) is.0))

pub map-range-same : {X : Type 0} (past : X) (f g : ℕ → X) (n : ℕ) → ((q : ℕ) → q < n → f q ≡ g q)
    → map f (range_with_len 0 n) ≡ map g (range_with_len 0 n)
map-range-same {X} past f g n same =
    let count = length-map-range_with_len f 0 n in
    ext_get_or past (map f (range_with_len 0 n)) (map g (range_with_len 0 n)) (count ∙ sym (length-map-range_with_len g 0 n))
    (λ q below.
    let low : q < n = omega (arith, below, count) in
    get_or-map-range_with_len f 0 n q q past low (omega arith)
    ∙ (same q low ∙ sym (get_or-map-range_with_len g 0 n q q past low (omega arith))))

-- the words of all octets hold the received list
pub marks-are : (r : Rate) (octets erased j count : ℕ) (labels marks items words : List ℕ) → erased ≡ 0
    → count ≡ sent_count (pattern_of r) (steps_of r octets) → marks ≡ items
    → items ≡ map (known_at (λ label place. mark_in place (slice_index_or labels label 0)) r erased j) (range_with_len 0 count)
    → HasMarks words marks (length marks)
    → packed words (sent_count (pattern_of r) (steps_of r octets)) ≡ received_of r octets erased labels j
unfolding packed received_of
marks-are r octets erased j count labels marks items words none many same are has =
    let known : ℕ → ℕ → ℕ = λ e. known_at (λ label place. mark_in place (slice_index_or labels label 0)) r e j in
    let list : marks ≡ map (known 0) (range_with_len 0 count) = same ∙ (are ∙ ap (λ (e : ℕ). map (known e) (range_with_len 0 count)) none) in
    let long : length marks ≡ count = counted-length (known 0) marks count list in
    let each : (q : ℕ) → q < count → Some (packed_bit words q) ≡ received_at r 0 labels j q = λ q low.
    ap (λ (b : Bool). Some b)
    (has q (omega (arith, low, long))
    ∙ ap is_one (ap (λ (xs : List ℕ). slice_index_or xs q 0) list ∙ get_or-map-range_with_len (known 0) 0 count q q 0 low (omega arith)))
    ∙ marked-at r j q labels in
    ap (λ (n : ℕ). map (λ q. Some (packed_bit words q)) (range_with_len 0 n)) (sym many)
    ∙ (map-range-same None (λ q. Some (packed_bit words q)) (received_at r 0 labels j) count each
    ∙ (ap (λ (e : ℕ). map (received_at r e labels j) (range_with_len 0 count)) (sym none)
    ∙ ap (λ (n : ℕ). map (received_at r erased labels j) (range_with_len 0 n)) many))

pub marks-places : (f : ℕ → ℕ) (count words : ℕ) (marks items : List ℕ) → marks ≡ items → items ≡ map f (range_with_len 0 count)
    → length marks ≤ words → count ≤ words
marks-places f count words marks items same are enough =
    let long : length marks ≡ count = counted-length f marks count (same ∙ are) in
    omega (arith, long, enough)
