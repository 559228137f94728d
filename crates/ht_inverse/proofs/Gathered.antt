-- What the places of a share say of the coded bits of each symbol.
use Rattle.std.proofs.Common.{◌≡◌, ℕ, ◌+◌, ◌-◌, ◌*◌, ◌^◌, ◌/◌, ◌%◌, ◌<◌, ◌≤◌, List, ◌∷◌, [], ◌++◌, map, length, slice_index_or}
use Rattle.std.proofs.Common.{Bool, true, false, Option, None, Some, refl, sym, ap, ◌∙◌, subst, arith, mod-lt}
use Rattle.std.specs.Prelude.{if◌then◌else◌, ◌==◌}
use Rattle.std.specs.Int.{bit_at}
use Rattle.std.specs.List.{range_with_len}
use Rattle.std.proofs.lemmas.List.FromFn.{length-map-range_with_len, get_or-map-range_with_len, map-range_with_len_more}
use Rattle.std.proofs.lemmas.Simd.{map-map}
use Rattle.std.proofs.lemmas.Nat.{div-mul-add, mod-mul-add, mul-add-lt, div-add-mod'}
use Rattle.std.proofs.Math.Nat.{add-mul, div-le_self, mod-eq_of_lt, mul_assoc, mul_comm, mul-le-mul}
use Rattle.ht_rate.specs.declared.rates.Rate.{Rate}
use Rattle.ht_rate.specs.Rates.{coded_bits_of, encoders_of, streams_of, data_carriers_of, label_bits_of, modulation_of, pattern_of, steps_of}
use Rattle.ht_rate.specs.Schemes.{bits_of}
use Rattle.ht_rate.proofs.RateFacts.{coded_bits_of-range, streams_of-range, data_carriers_of-range, label_bits_of-range}
use Rattle.ht_conv.specs.Puncturing.{sent_count}
use Rattle.ht_map.specs.Gray.{label_bit}
use Rattle.ht_parse.specs.Streams.{share_of, stream_place_of}
use Rattle.ht_interleave.specs.Interleaver.{place_of}
use Rattle.ht_landing.specs.declared.landings.Landing.{Landing}
use Rattle.ht_landing.specs.Landings.{landing_of}
use Rattle.ht_landing.proofs.Landed.{lands, share-some}
use Rattle.ht_viterbi.specs.declared.received_bit.ReceivedBit.{ReceivedBit}
use Rattle.ht_viterbi.specs.declared.received_bit.ReceivedBit.TheVariants.{Erased, Zero, One}
use Rattle.ht_viterbi.specs.Received.{known_of}
use Rattle.ht_inverse.specs.declared.label_bit.LabelBit.{LabelBit}
use Rattle.ht_inverse.specs.Received.{is_lost, label_number, labels_per_symbol, received_at, received_of, value_at, values_of}
use Rattle.ht_inverse.specs.Shares.{HasDecision, HasSymbols, HasValue, bit_in, decision_in, known_at, label_bit_of, label_bits_to, value_in}

-- coded bit i of a symbol's share lands in that symbol where it lands in the first one
landing-moved : (r : Rate) (j n i : ℕ) → i < share_of r
    → landing_of r j (n * share_of r + i)
    ≡ (let there = landing_of r j i in let l : Landing = record { symbol = n; stream = there.stream; carrier = there.carrier; bit = there.bit } in l)
unfolding landing_of
landing-moved r j n i below =
    let rest : (n * share_of r + i) % share_of r ≡ i % share_of r = mod-mul-add n (share_of r) i below ∙ sym (mod-eq_of_lt below) in
    let symbol : (n * share_of r + i) / share_of r ≡ n = div-mul-add n (share_of r) i below in
    let at : ℕ → ℕ → Landing = λ m k.
    let place = stream_place_of r j k in
    let p = place_of r place.0 place.1 in
    record { symbol = m; stream = place.0; carrier = p / label_bits_of r; bit = p % label_bits_of r } in
    ap (λ m. at m ((n * share_of r + i) % share_of r)) symbol ∙ ap (λ k. at n k) rest

modulation-bits : (r : Rate) → bits_of (modulation_of r) ≡ label_bits_of r
unfolding label_bits_of
modulation-bits r = refl

-- the number of a label in the frame is that of its symbol's first label and its number in the symbol
number-split : (n width carrier streams k : ℕ) → (n * width + carrier) * streams + k ≡ n * (width * streams) + (carrier * streams + k)
number-split n width carrier streams k =
    let a = add-mul (n * width) carrier streams in
    let b = mul_assoc n width streams in
    omega (arith, a, b)

lands-at : (r : Rate) (j i : ℕ) → j < encoders_of r → (landing_of r j i).bit < label_bits_of r
lands-at r j i there = (lands r j i there).label.bit

-- a place lies within the symbol's labels
place-bounds : (r : Rate) (erased j i : ℕ) → j < encoders_of r
    → ((label_bit_of r erased j i).label < labels_per_symbol r) × ((label_bit_of r erased j i).shift < 6)
unfolding label_bit_of
place-bounds r erased j i there =
    let landing = landing_of r j i in
    let l = (lands r j i there).label in
    let low = l.stream_low in
    let high = l.stream_high in
    let bits = (label_bits_of-range r).1 in
    let carrier = l.carrier in
    let bit = l.bit in
    let within = mul-add-lt landing.carrier (streams_of r) (landing.stream - 1) (data_carriers_of r) carrier (omega arith) in
    (subst (λ (k : ℕ). landing.carrier * streams_of r + (landing.stream - 1) < k) (mul_comm (streams_of r) (data_carriers_of r)) within, omega arith)

-- a place has the coded bit of each symbol
pub place-received : (r : Rate) (erased j n i : ℕ) (labels : List ℕ) → i < share_of r
    → received_at r erased labels j (n * share_of r + i)
    ≡ bit_in (label_bit_of r erased j i) (slice_index_or labels (n * labels_per_symbol r + (label_bit_of r erased j i).label) 0)
unfolding received_at label_bit_of label_bit
place-received r erased j n i labels below =
    let there = landing_of r j i in
    let at : Landing → Option Bool = λ l.
    if is_lost r erased l.carrier then None
    else Some (label_bit (modulation_of r) (slice_index_or labels (label_number r l.symbol l.carrier l.stream) 0) l.bit) in
    let said : ℕ → ℕ → Option Bool = λ number bits.
    if is_lost r erased there.carrier then None else Some (bit_at (slice_index_or labels number 0) (bits - 1 - there.bit) == 1) in
    ap at (landing-moved r j n i below)
    ∙ (ap (λ k. said (label_number r n there.carrier there.stream) k) (modulation-bits r)
    ∙ ap (λ k. said k (label_bits_of r)) (number-split n (data_carriers_of r) there.carrier (streams_of r) (there.stream - 1)))

-- a symbol has few coded bits
pub share-few : (r : Rate) → share_of r ≤ 2592
unfolding share_of
share-few r =
    let most = (coded_bits_of-range r).1 in
    let less = div-le_self (coded_bits_of r) (encoders_of r) in
    omega (arith, most, less)

pub places-length : (r : Rate) (erased j : ℕ) (places : List LabelBit) → places ≡ label_bits_to r erased j (share_of r) → length places ≡ share_of r
places-length r erased j places are =
    ap (λ (xs : List LabelBit). length xs) are ∙ length-map-range_with_len (label_bit_of r erased j) 0 (share_of r)

pub place-is : (r : Rate) (erased j i : ℕ) (places : List LabelBit) (past : LabelBit) → places ≡ label_bits_to r erased j (share_of r) → i < share_of r
    → slice_index_or places i past ≡ label_bit_of r erased j i
place-is r erased j i places past are below =
    ap (λ (xs : List LabelBit). slice_index_or xs i past) are
    ∙ get_or-map-range_with_len (label_bit_of r erased j) 0 (share_of r) i i past below (omega arith)

-- the label of a place stands among those of the symbols
pub label-within : (r : Rate) (erased j symbol i symbols per : ℕ) (place : LabelBit) → j < encoders_of r
    → place ≡ label_bit_of r erased j i → symbol < symbols → per ≡ labels_per_symbol r
    → (symbol * per + place.label < symbols * labels_per_symbol r) × (place.shift < 6)
label-within r erased j symbol i symbols per place there is within wide =
    let bounds = place-bounds r erased j i there in
    let label : place.label < labels_per_symbol r = subst (λ (p : LabelBit). p.label < labels_per_symbol r) (sym is) bounds.0 in
    let h = mul-add-lt symbol (labels_per_symbol r) place.label symbols within label in
    let inside : symbol * labels_per_symbol r + place.label < symbols * labels_per_symbol r = omega (arith, h, mul_comm (labels_per_symbol r) symbols) in (
      subst (λ (w : ℕ). symbol * w + place.label < symbols * labels_per_symbol r) (sym wide) inside,
      subst (λ (p : LabelBit). p.shift < 6) (sym is) bounds.1,
    )

-- the label of a place that is listed
pub label-inside : (r : Rate) (erased j symbol i symbols per : ℕ) (places : List LabelBit) (past : LabelBit) → j < encoders_of r
    → places ≡ label_bits_to r erased j (share_of r) → i < share_of r → symbol < symbols → per ≡ labels_per_symbol r
    → symbol * per + (slice_index_or places i past).label < symbols * labels_per_symbol r
label-inside r erased j symbol i symbols per places past there are below within wide =
    let is = place-is r erased j i places past are below in
    (label-within r erased j symbol i symbols per (slice_index_or places i past) there is within wide).0

-- what is known of a place is known of its coded bit in each symbol
known-there : {V : Type 0} (known : ℕ → LabelBit → V) (r : Rate) (erased j n i : ℕ) → i < share_of r
    → known_at known r erased j (n * share_of r + i) ≡ known (n * labels_per_symbol r + (label_bit_of r erased j i).label) (label_bit_of r erased j i)
known-there {V} known r erased j n i below =
    let at : ℕ → ℕ → V = λ m k. known (m * labels_per_symbol r + (label_bit_of r erased j k).label) (label_bit_of r erased j k) in
    ap (λ m. at m ((n * share_of r + i) % share_of r)) (div-mul-add n (share_of r) i below) ∙ ap (λ k. at n k) (mod-mul-add n (share_of r) i below)

pub known-is : {V : Type 0} (known : ℕ → LabelBit → V) (r : Rate) (erased j symbol i per label : ℕ) (place : LabelBit)
    → place ≡ label_bit_of r erased j i → i < share_of r → per ≡ labels_per_symbol r → label ≡ place.label
    → known (symbol * per + label) place ≡ known_at known r erased j (symbol * share_of r + i)
known-is {V} known r erased j symbol i per label place is below wide label_is =
    let at : ℕ → LabelBit → V = λ w p. known (symbol * w + p.label) p in
    ap (λ k. known (symbol * per + k) place) label_is
    ∙ (ap (λ w. at w place) wide ∙ (ap (λ p. at (labels_per_symbol r) p) is ∙ sym (known-there known r erased j symbol i below)))

pub has-is : (has : ℕ → LabelBit → Type 0) (r : Rate) (erased j symbols symbol i per label : ℕ) (place : LabelBit)
    → HasSymbols has r erased j symbols → symbol < symbols
    → place ≡ label_bit_of r erased j i → i < share_of r → per ≡ labels_per_symbol r → label ≡ place.label → has (symbol * per + label) place
has-is has r erased j symbols symbol i per label place all within is below wide label_is =
    subst (λ (k : ℕ). has (symbol * per + k) place) (sym label_is)
    (subst (λ (w : ℕ). has (symbol * w + place.label) place) (sym wide)
    (subst (λ (p : LabelBit). has (symbol * labels_per_symbol r + p.label) p) (sym is) (all symbol i within below)))

-- a coded bit by its symbol and its place in the symbol's share
pub parts : (r : Rate) (q : ℕ) → (q / share_of r * share_of r + q % share_of r ≡ q) × (q % share_of r < share_of r)
parts r q = (div-add-mod' q (share_of r), mod-lt q (share-some r))

-- a hard decision is that of the received list
decides : (lost one : Bool) → known_of (if lost then Erased else (if one then One else Zero)) ≡ (if lost then None else Some one)
decides true one = refl
decides false true = refl
decides false false = refl

decided-at : (r : Rate) (erased j q : ℕ) (labels : List ℕ)
    → known_of (known_at (λ label place. decision_in place (slice_index_or labels label 0)) r erased j q) ≡ received_at r erased labels j q
decided-at r erased j q labels =
    let is = parts r q in
    let n = q / share_of r in
    let place = label_bit_of r erased j (q % share_of r) in
    decides place.lost (bit_at (slice_index_or labels (n * labels_per_symbol r + place.label) 0) place.shift == 1)
    ∙ (sym (place-received r erased j n (q % share_of r) labels is.1) ∙ ap (λ k. received_at r erased labels j k) is.0)

pub map-same : {X Y : Type 0} (f g : X → Y) → ((x : X) → f x ≡ g x) → (xs : List X) → map f xs ≡ map g xs
map-same f g same [] = refl
map-same f g same (x ∷ xs) = ap (λ y. y ∷ map f xs) (same x) ∙ ap (λ ys. g x ∷ ys) (map-same f g same xs)

pub decisions-are : (r : Rate) (octets erased j count : ℕ) (labels : List ℕ) (bits : List ReceivedBit)
    → count ≡ sent_count (pattern_of r) (steps_of r octets)
    → bits ≡ map (known_at (λ label place. decision_in place (slice_index_or labels label 0)) r erased j) (range_with_len 0 count)
    → map known_of bits ≡ received_of r octets erased labels j
unfolding received_of
decisions-are r octets erased j count labels bits many are =
    let known = known_at (λ label place. decision_in place (slice_index_or labels label 0)) r erased j in
    ap (λ (xs : List ReceivedBit). map known_of xs) are
    ∙ (map-map known_of known (range_with_len 0 count)
    ∙ (map-same (λ q. known_of (known q)) (received_at r erased labels j) (λ q. decided-at r erased j q labels) (range_with_len 0 count)
    ∙ ap (λ (n : ℕ). map (received_at r erased labels j) (range_with_len 0 n)) many))

-- and a value that of the frame's values
valued-at : {V : Type 0} (lost : V) (r : Rate) (erased j q bits : ℕ) (values : List V) → j < encoders_of r → bits ≡ label_bits_of r
    → known_at (value_in lost bits values) r erased j q ≡ value_at lost r erased values j q
unfolding value_at label_bit_of
valued-at {V} lost r erased j q bits values encoder wide =
    let is = parts r q in
    let n = q / share_of r in
    let i = q % share_of r in
    let there = landing_of r j i in
    let bit = lands-at r j i encoder in
    let said : ℕ → V = λ k. if is_lost r erased there.carrier then lost else slice_index_or values k lost in
    let at : Landing → V = λ l.
    if is_lost r erased l.carrier then lost else slice_index_or values (label_number r l.symbol l.carrier l.stream * label_bits_of r + l.bit) lost in
    let back : label_bits_of r - 1 - (label_bits_of r - 1 - there.bit) ≡ there.bit = omega (arith, bit) in
    let number = n * labels_per_symbol r + (there.carrier * streams_of r + (there.stream - 1)) in
    ap (λ w. said (number * w + (w - 1 - (label_bits_of r - 1 - there.bit)))) wide
    ∙ (ap (λ k. said (number * label_bits_of r + k)) back
    ∙ (ap (λ k. said (k * label_bits_of r + there.bit)) (sym (number-split n (data_carriers_of r) there.carrier (streams_of r) (there.stream - 1)))
    ∙ (sym (ap at (landing-moved r j n i is.1)) ∙ ap (λ k. at (landing_of r j k)) is.0)))

pub values-are : {V : Type 0} (lost : V) (r : Rate) (octets erased j count bits : ℕ) (values found : List V) → j < encoders_of r → bits ≡ label_bits_of r
    → count ≡ sent_count (pattern_of r) (steps_of r octets)
    → found ≡ map (known_at (value_in lost bits values) r erased j) (range_with_len 0 count)
    → found ≡ values_of lost r octets erased values j
unfolding values_of
values-are lost r octets erased j count bits values found encoder wide many are =
    are
    ∙ (map-same (known_at (value_in lost bits values) r erased j) (value_at lost r erased values j)
    (λ q. valued-at lost r erased j q bits values encoder wide) (range_with_len 0 count)
    ∙ ap (λ (n : ℕ). map (value_at lost r erased values j) (range_with_len 0 n)) many)

-- labels and values of a frame have all coded bits
pub has-decisions : (r : Rate) (erased j symbols : ℕ) (labels : List ℕ) → j < encoders_of r
    → length labels ≡ symbols * labels_per_symbol r → HasSymbols (λ label place. HasDecision labels label place) r erased j symbols
unfolding label_bit_of
has-decisions r erased j symbols labels there all n i within below =
    let w = label-within r erased j n i symbols (labels_per_symbol r) (label_bit_of r erased j i) there refl within refl in
    let inside = w.0 in
    let low = w.1 in
    record {
      there = omega (arith, inside, all);
      bit = omega (arith, low);
    }

pub has-values : {V : Type 0} (r : Rate) (erased j symbols bits : ℕ) (values : List V) → j < encoders_of r → bits ≡ label_bits_of r
    → length values ≡ symbols * labels_per_symbol r * label_bits_of r
    → HasSymbols (λ label place. HasValue values bits label place) r erased j symbols
unfolding label_bit_of
has-values {V} r erased j symbols bits values there wide all n i within below =
    let w = label-within r erased j n i symbols (labels_per_symbol r) (label_bit_of r erased j i) there refl within refl in
    let bit = lands-at r j i there in
    let number = n * labels_per_symbol r + (label_bit_of r erased j i).label in
    let rest = label_bits_of r - 1 - (label_bits_of r - 1 - (landing_of r j i).bit) in
    let inside = mul-add-lt number (label_bits_of r) rest (symbols * labels_per_symbol r) w.0 (omega (arith, bit)) in
    let turned = mul_comm (label_bits_of r) (symbols * labels_per_symbol r) in
    record {
      bit = omega (arith, bit, wide);
      there = subst (λ (k : ℕ). number * k + (k - 1 - (label_bits_of r - 1 - (landing_of r j i).bit)) < length values) (sym wide)
          (omega (arith, inside, turned, all));
    }

-- a frame has few labels
pub few-labels : (r : Rate) (symbols n : ℕ) → symbols ≤ 2 ^ 20 → n ≤ symbols * labels_per_symbol r → n < 2 ^ 40
few-labels r symbols n few within =
    let a = (data_carriers_of-range r).1 in
    let b = (streams_of-range r).1 in
    let wide : labels_per_symbol r ≤ 108 * 4 = mul-le-mul a b in
    let all : symbols * labels_per_symbol r ≤ 2 ^ 20 * (108 * 4) = mul-le-mul few wide in
    omega arith

-- a turn of a loop adds the next value
pub value-added : {A : Type 0} (f : ℕ → A) (list : List A) (value : A) (here next : ℕ) → value ≡ f here → next ≡ here + 1
    → list ≡ map f (range_with_len 0 here) → list ++ value ∷ [] ≡ map f (range_with_len 0 next)
value-added f list value here next is more so_far =
    ap (λ xs. xs ++ value ∷ []) so_far
    ∙ (ap (λ b. map f (range_with_len 0 here) ++ b ∷ []) is
    ∙ (sym (map-range_with_len_more f 0 here here (omega arith)) ∙ ap (λ k. map f (range_with_len 0 k)) (sym more)))

-- the length of a list of values
pub counted-length : {A : Type 0} (f : ℕ → A) (list : List A) (count : ℕ) → list ≡ map f (range_with_len 0 count) → length list ≡ count
counted-length {A} f list count is = ap (λ (xs : List A). length xs) is ∙ length-map-range_with_len f 0 count

-- the bits of a whole symbol are among those that are wanted
pub whole-within : (symbol count wide share : ℕ) → wide ≡ share → symbol < count / wide → symbol * share + wide ≤ count
whole-within symbol count wide share same below =
    let parts = div-add-mod' count wide in
    let up : (symbol + 1) * wide ≤ count / wide * wide = mul-le-mul (omega arith) (omega arith) in
    let one = add-mul symbol 1 wide in
    subst (λ (n : ℕ). symbol * n + wide ≤ count) same (omega (arith, parts, up, one))

-- whole symbols and a rest
pub parted : (count wide share : ℕ) → wide ≡ share → 0 < share → (count / wide * share + count % wide ≡ count) × (count % wide ≤ share)
parted count wide share same some =
    let rest : count % wide < wide = mod-lt count (omega arith) in
    (subst (λ (n : ℕ). count / wide * n + count % wide ≡ count) same (div-add-mod' count wide), omega (arith, rest))
