-- How the octets of frames lead through the fields of a capture.
use Rattle.std.proofs.Common.{◌≡◌, ℕ, zero, suc, ◌+◌, ◌*◌, ◌-◌, ◌<◌, ◌≤◌, ◌^◌, ◌%◌, List, [], ◌∷◌, ◌++◌, length, flat_map, nat_eq}
use Rattle.std.proofs.Common.{Bool, true, false, ◌&&◌, if◌then◌else◌, refl, sym, ap, subst, ◌∙◌, append_assoc, length-append, arith}
use Rattle.std.proofs.lemmas.Bool.Decides.{nat_tests}
use Rattle.std.proofs.lemmas.List.{append-nil}
use Rattle.std.proofs.lemmas.Nat.{or_disjoint, mod-pow-add, pow_pos}
use Rattle.std.proofs.lemmas.Nat.Bits.{and_pow, bit_at_above, bit_at-lt, bit_at-zero}
use Rattle.std.proofs.Math.Nat.{mod-lt, mod-eq_of_lt}
use Rattle.std.specs.Int.{bit_at}
use Rattle.std.specs.Int.Bits.{bit_or, bit_and}
use Rattle.byteorder.specs.Endian.{big_bytes}
use Rattle.byteorder.specs.Numbers.{big_number-reads_back}
use Rattle.ht_fields.specs.Grammar.{Good}
use Rattle.ht_fields.specs.Cases.{IsField}
use Rattle.ht_fields.proofs.Routes.{Route as RouteIn, route_none as none_in, route_then as then_in, route_field as field_in}
use Rattle.ht_fields.proofs.Routes.{route_from as from_in, route_to as to_in, route_as as as_in}
use Rattle.ht_rate.specs.declared.rates.Rate.{Rate}
use Rattle.ht_rate.specs.Schemes.{bandwidth_code}
use Rattle.ht_rate.specs.Rates.{bandwidth_of, mcs_of, streams_of, carriers_of}
use Rattle.ht_rate.proofs.Numbers.{rate_of-named, bandwidth_code-bound}
use Rattle.ht_rate.proofs.RateFacts.{streams_of-range}
use Rattle.ht_metric.specs.Rows.{Leg}
use Rattle.ht_heads.specs.Heads.{start_octets}
use Rattle.ht_capture.specs.declared.items.FrameHead.{FrameHead}
use Rattle.ht_capture.specs.declared.items.Item.{Item}
use Rattle.ht_capture.specs.declared.items.Item.TheVariants.{Frame}
use Rattle.ht_capture.specs.declared.places.Present.{Present}
use Rattle.ht_capture.specs.declared.places.Turn.{Turn}
use Rattle.ht_capture.specs.Frames.{erase}
use Rattle.ht_capture.specs.Systems.{triangle_of, triangle_octets}
use Rattle.ht_capture.specs.Fields.{CaptureState, Magic, Version, Count, Bandwidth, Mcs, Length, Flag, Triangle, Symbol, bad_flag, captures}
use Rattle.ht_capture.specs.Fields.{carriers_due, capture_due, first_symbol, turn_due, head_given, known_version, capture_magic, capture_magic_due, new_head}
use Rattle.ht_capture.specs.Files.{is_erased, flagged, triangles_behind, flagged_octets, legs_octets, present_among, capture_start}
use Rattle.ht_capture.specs.Contents.{AreLegs, AreTriangles, presents, seen}
use Rattle.ht_capture.proofs.Judges.{good_magic, good_version, good_count, good_bandwidth, good_mcs, good_length, good_triangle, zero_flag, flag_good}
use Rattle.ht_capture.proofs.Turns.{frame_is, flag_is, triangle_is, symbol_is, none_given, one_given}
use Rattle.ht_capture.proofs.Grids.{asks_legs}
use Rattle.ht_capture.proofs.Decoded.{triangle_read}
use Rattle.ht_capture.proofs.Written.{length-legs}

-- the octets are good fields that lead from one state of a capture to another, and give these items
abbrev pub Route : CaptureState → CaptureState → List ℕ → List Item → Type 0
Route s t octets items = RouteIn captures s t octets items

pub route_none : (s t : CaptureState) → s ≡ t → Route s t [] []
route_none s t e = none_in captures s t e

pub route_then : (s t u : CaptureState) (a b : List ℕ) (x y : List Item) → Route s t a x → Route t u b y → Route s u (a ++ b) (x ++ y)
route_then s t u a b x y p q = then_in captures s t u a b x y p q

pub route_field : (s t : CaptureState) (x : List ℕ) (items : List Item) → IsField (capture_due s) x (Good t items) → Route s t x items
route_field s t x items good = field_in captures s t x items good

pub route_from : (s t u : CaptureState) (a : List ℕ) (x : List Item) → s ≡ t → Route t u a x → Route s u a x
route_from s t u a x e r = from_in captures s t u a x e r

pub route_to : (s t u : CaptureState) (a : List ℕ) (x : List Item) → t ≡ u → Route s t a x → Route s u a x
route_to s t u a x e r = to_in captures s t u a x e r

pub route_as : (s t : CaptureState) (a b : List ℕ) (x : List Item) → a ≡ b → Route s t a x → Route s t b x
route_as s t a b x e r = as_in captures s t a b x e r

pub route_gives : (s t : CaptureState) (a : List ℕ) (x y : List Item) → x ≡ y → Route s t a x → Route s t a y
route_gives s t a x y e r = subst (λ (z : List Item). Route s t a z) e r

abbrev pub first_turn : ℕ → ℕ → Turn
first_turn version count = record { version = version; left = count; frame = 0; number = 0 }

-- the seven octets in front of the frames
pub route_start : (version count : ℕ) → known_version version ≡ true → count < 2 ^ 16
    → Route (capture_magic_due capture_magic) (turn_due (first_turn version count)) (capture_start version count) []
unfolding start_octets
route_start version count known small =
    let octet : (x : ℕ) (more : List ℕ) → Route (Magic x more) (capture_magic_due more) (x ∷ []) [] =
    λ x more. route_field (Magic x more) (capture_magic_due more) (x ∷ []) [] (refl, good_magic x more x refl) in
    let number : Route (Count version) (turn_due (first_turn version count)) (big_bytes 2 count) [] =
    route_field (Count version) (turn_due (first_turn version count)) (big_bytes 2 count) []
    (refl, good_count version count (big_bytes 2 count) (sym (big_number-reads_back 2 count [] small))) in
    route_then (Magic 72 (84 ∷ 67 ∷ 80 ∷ [])) (Magic 84 (67 ∷ 80 ∷ [])) _ (72 ∷ []) _ [] [] (octet 72 (84 ∷ 67 ∷ 80 ∷ []))
    (route_then (Magic 84 (67 ∷ 80 ∷ [])) (Magic 67 (80 ∷ [])) _ (84 ∷ []) _ [] [] (octet 84 (67 ∷ 80 ∷ []))
    (route_then (Magic 67 (80 ∷ [])) (Magic 80 []) _ (67 ∷ []) _ [] [] (octet 67 (80 ∷ []))
    (route_then (Magic 80 []) Version _ (80 ∷ []) _ [] [] (octet 80 [])
    (route_then Version (Count version) _ (version ∷ []) (big_bytes 2 count) [] []
    (route_field Version (Count version) (version ∷ []) [] (refl, good_version version known)) number))))

-- bandwidth, MCS and length
pub route_head : (turn : Turn) (rate : Rate) (len : ℕ) → 0 < turn.left → 1 ≤ len → len < 2 ^ 16
    → Route (turn_due turn) (carriers_due turn (new_head turn rate len) 0 []) (bandwidth_code (bandwidth_of rate) ∷ mcs_of rate ∷ big_bytes 2 len) []
route_head turn rate len some_left some small =
    let code = bandwidth_code (bandwidth_of rate) in
    let low : code ≤ 1 = bandwidth_code-bound (bandwidth_of rate) in
    route_from (turn_due turn) (Bandwidth turn) _ _ [] (frame_is turn some_left)
    (route_then (Bandwidth turn) (Mcs turn code) _ (code ∷ []) _ [] []
    (route_field (Bandwidth turn) (Mcs turn code) (code ∷ []) [] (refl, good_bandwidth turn code low))
    (route_then (Mcs turn code) (Length turn rate) _ (mcs_of rate ∷ []) _ [] []
    (route_field (Mcs turn code) (Length turn rate) (mcs_of rate ∷ []) [] (refl, good_mcs turn code (mcs_of rate) rate low (rate_of-named rate)))
    (route_field (Length turn rate) _ (big_bytes 2 len) []
    (refl, good_length turn rate (big_bytes 2 len) len (sym (big_number-reads_back 2 len [] small)) some))))

-- what is given with the last of this many subcarriers
abbrev pub given_with : ℕ → FrameHead → List Item
given_with zero head = []
given_with (suc n) head = Frame head ∷ []

-- one subcarrier, and those behind it
given_next : (head last : FrameHead) (k m : ℕ) → k + 1 + m ≡ carriers_of head.rate
    → (m ≡ 0 → head ≡ last) → head_given head (k + 1) ++ given_with m last ≡ Frame last ∷ []
given_next head last k zero sum same =
    let over : carriers_of head.rate ≤ k + 1 = omega (arith, sum) in
    ap (λ (z : List Item). z ++ []) (one_given head (k + 1) over) ∙ ap (λ (h : FrameHead). Frame h ∷ []) (same refl)
given_next head last k (suc m) sum same =
    let under : k + 1 < carriers_of head.rate = omega (arith, sum) in
    ap (λ (z : List Item). z ++ (Frame last ∷ [])) (none_given head (k + 1) under)

abbrev pub with_erased : FrameHead → ℕ → FrameHead
with_erased head erased = record { frame = head.frame; rate = head.rate; length = head.length; erased = erased }

some_legs : (legs : List Leg) → 1 ≤ length legs → 2 ≤ length (legs_octets legs)
some_legs [] some = absurd (omega (arith, some))
some_legs (leg ∷ legs) some = omega arith

-- the triangle of a subcarrier
pub route_triangle : (turn : Turn) (head : FrameHead) (k : ℕ) (done : List Present) (legs : List Leg)
    → length legs ≡ streams_of head.rate → AreLegs legs → length legs ≤ 4 → 1 ≤ length legs
    → Route (Triangle turn head k done) (carriers_due turn head (k + 1) (done ++ record { carrier = k; triangle = legs } ∷ []))
    (legs_octets legs) (head_given head (k + 1))
route_triangle turn head k done legs len typed few some =
    let size : length (legs_octets legs) ≡ triangle_octets (streams_of head.rate) = length-legs legs few ∙ ap (λ n. triangle_octets n) len in
    let low : 2 ≤ length (legs_octets legs) = some_legs legs some in
    let is : legs ≡ triangle_of (streams_of head.rate) (legs_octets legs) = sym (triangle_read legs typed) ∙ ap (λ n. triangle_of n (legs_octets legs)) len in
    route_field (Triangle turn head k done) _ (legs_octets legs) (head_given head (k + 1))
    (asks_legs (length (legs_octets legs)) head.rate head.rate size refl low, good_triangle turn head k done (legs_octets legs) legs head.rate refl is)

-- the mark of one subcarrier more
marked : (e k : ℕ) → bit_at e k ≡ 1 → bit_or (e % 2 ^ k) (2 ^ k) ≡ e % 2 ^ (1 + k)
marked e k set =
    let low : e % 2 ^ k < 2 ^ k = mod-lt e (pow_pos k) in
    let zeros : 0 * 2 ^ k ≡ 0 = omega arith in
    let none : bit_and (e % 2 ^ k) (2 ^ k) ≡ 0 = and_pow (e % 2 ^ k) k ∙ (ap (λ b. b * 2 ^ k) (bit_at_above (e % 2 ^ k) k k low (omega arith)) ∙ zeros) in
    let sum : bit_or (e % 2 ^ k) (2 ^ k) ≡ e % 2 ^ k + 2 ^ k = or_disjoint (e % 2 ^ k) (2 ^ k) none in
    let all : e % 2 ^ (1 + k) ≡ 1 * 2 ^ k + e % 2 ^ k = mod-pow-add e 1 k ∙ ap (λ b. b * 2 ^ k + e % 2 ^ k) set in
    omega (arith, sum, all)

unmarked : (e k : ℕ) → bit_at e k ≡ 0 → e % 2 ^ (1 + k) ≡ e % 2 ^ k
unmarked e k clear =
    let all : e % 2 ^ (1 + k) ≡ 0 * 2 ^ k + e % 2 ^ k = mod-pow-add e 1 k ∙ ap (λ b. b * 2 ^ k + e % 2 ^ k) clear in
    omega (arith, all)

-- the head while the subcarriers below one were read
abbrev pub head_at : FrameHead → ℕ → ℕ → FrameHead
head_at head erased k = with_erased head (erased % 2 ^ k)

erased_next : (head : FrameHead) (e k : ℕ) → bit_at e k ≡ 1 → erase (head_at head e k) k ≡ head_at head e (k + 1)
unfolding erase
erased_next head e k set =
    let place : 1 + k ≡ k + 1 = omega arith in
    ap (with_erased head) (marked e k set ∙ ap (λ n. e % 2 ^ n) place)

pub kept_next : (head : FrameHead) (e k : ℕ) → bit_at e k ≡ 0 → head_at head e k ≡ head_at head e (k + 1)
kept_next head e k clear =
    let place : 1 + k ≡ k + 1 = omega arith in
    ap (with_erased head) (sym (unmarked e k clear) ∙ ap (λ n. e % 2 ^ n) place)

-- a bit is 1 or 0
set_bit : (e k : ℕ) → nat_eq (bit_at e k) 1 ≡ true → bit_at e k ≡ 1
set_bit e k is = grind (arith, nat_tests)

clear_bit : (e k : ℕ) → nat_eq (bit_at e k) 1 ≡ false → bit_at e k ≡ 0
clear_bit e k is = let low : bit_at e k < 2 = bit_at-lt e k in grind (arith, nat_tests)

both_false : (a b : Bool) → (a ≡ true → b ≡ true → ⊥) → (a && b) ≡ false
both_false true true no_both = absurd (no_both refl refl)
both_false true false no_both = refl
both_false false b no_both = refl

-- the flag 1 is good where a subcarrier is left
fine_flag : (head : FrameHead) (k count : ℕ) → k < carriers_of head.rate → (k + 1 ≡ carriers_of head.rate → 1 ≤ count) → bad_flag head k count 1 ≡ false
unfolding bad_flag
fine_flag head k count lt some =
    both_false (nat_eq k (carriers_of head.rate - 1)) (nat_eq count 0)
    (λ a b. let last : k ≡ carriers_of head.rate - 1 = grind (arith, nat_tests) in
    let none : count ≡ 0 = grind (arith, nat_tests) in
    let one : 1 ≤ count = some (omega (arith, last, lt)) in omega (arith, one, none))

-- a subcarrier of version 2
flag_step : (b : Bool) (turn : Turn) (head : FrameHead) (e k later : ℕ) (done : List Present) (ts : List (List Leg)) → nat_eq (bit_at e k) 1 ≡ b
    → k < carriers_of head.rate → (k + 1 ≡ carriers_of head.rate → 1 ≤ length done + (if b then 0 else 1))
    → length ts ≡ (if b then later else 1 + later) → AreTriangles (streams_of head.rate) ts
    → Route (Flag turn (head_at head e k) k done) (carriers_due turn (head_at head e (k + 1)) (k + 1) (done ++ seen b k ts))
    (flagged b ts) (head_given (head_at head e (k + 1)) (k + 1))
flag_step true turn head e k later done ts is lt some len typed =
    let good = flag_good turn (head_at head e k) k done 1 (omega arith) (fine_flag (head_at head e k) k (length done) lt (λ last. omega (arith, some last))) in
    subst (λ (h : FrameHead). Route (Flag turn (head_at head e k) k done) (carriers_due turn h (k + 1) (done ++ [])) (1 ∷ []) (head_given h (k + 1)))
    (erased_next head e k (set_bit e k is))
    (subst (λ (d : List Present). Route (Flag turn (head_at head e k) k done) (carriers_due turn (erase (head_at head e k) k) (k + 1) d)
    (1 ∷ []) (head_given (erase (head_at head e k) k) (k + 1))) (sym (append-nil done))
    (route_field (Flag turn (head_at head e k) k done) _ (1 ∷ []) _ (refl, good)))
flag_step false turn head e k later done [] is lt some len typed = absurd (omega (arith, len))
flag_step false turn head e k later done (t ∷ ts) is lt some len typed =
    let range = streams_of-range head.rate in
    let few : length t ≤ 4 = omega (arith, typed.0, range.1) in
    let one : 1 ≤ length t = omega (arith, typed.0, range.0) in
    let good = zero_flag turn (head_at head e k) k done 0 refl in
    let legs = route_triangle turn (head_at head e k) k done t typed.0 typed.1 few one in
    subst (λ (h : FrameHead). Route (Flag turn (head_at head e k) k done)
    (carriers_due turn h (k + 1) (done ++ record { carrier = k; triangle = t } ∷ [])) (0 ∷ legs_octets t) (head_given h (k + 1)))
    (kept_next head e k (clear_bit e k is))
    (route_then (Flag turn (head_at head e k) k done) (Triangle turn (head_at head e k) k done) _ (0 ∷ []) (legs_octets t) [] _
    (route_field (Flag turn (head_at head e k) k done) (Triangle turn (head_at head e k) k done) (0 ∷ []) [] (refl, good)) legs)

pub behind_typed : (b : Bool) (n : ℕ) (ts : List (List Leg)) → AreTriangles n ts → AreTriangles n (triangles_behind b ts)
behind_typed true n ts typed = typed
behind_typed false n [] typed = tt
behind_typed false n (t ∷ ts) typed = typed.2

pub behind_length : (b : Bool) (later : ℕ) (ts : List (List Leg)) → length ts ≡ (if b then later else 1 + later) → length (triangles_behind b ts) ≡ later
behind_length true later ts len = len
behind_length false later [] len = absurd (omega (arith, len))
behind_length false later (t ∷ ts) len = omega (arith, len)

pub seen_length : (b : Bool) (k : ℕ) (ts : List (List Leg)) → length (seen b k ts) ≡ (if b then 0 else 1)
seen_length true k ts = refl
seen_length false k ts = refl

pub count_step : (b : Bool) (a later total : ℕ) → total ≡ (if b then later else 1 + later) → a + total ≡ a + (if b then 0 else 1) + later
count_step true a later total is = omega (arith, is)
count_step false a later total is = omega (arith, is)

-- the subcarriers of version 2
pub route_flagged : (n k : ℕ) (turn : Turn) (head : FrameHead) (e : ℕ) (done : List Present) (ts : List (List Leg))
    → turn.version ≡ 2 → k + n ≡ carriers_of head.rate → e < 2 ^ carriers_of head.rate
    → length ts ≡ present_among n k e → AreTriangles (streams_of head.rate) ts → 1 ≤ length done + present_among n k e
    → Route (carriers_due turn (head_at head e k) k done)
    (Symbol (first_symbol turn (with_erased head e) (length (done ++ presents n k e ts))) (done ++ presents n k e ts))
    (flagged_octets n k e ts) (given_with n (with_erased head e))
route_flagged zero k turn head e done ts two sum small len typed some =
    let place : carriers_of head.rate ≡ k = omega (arith, sum) in
    let all : e % 2 ^ k ≡ e = mod-eq_of_lt (subst (λ n. e < 2 ^ n) place small) in
    route_none _ _ (symbol_is turn (head_at head e k) k done (omega (arith, sum))
    ∙ (ap (λ m. Symbol (first_symbol turn (with_erased head m) (length done)) done) all
    ∙ ap (λ (d : List Present). Symbol (first_symbol turn (with_erased head e) (length d)) d) (sym (append-nil done))))
route_flagged (suc m) k turn head e done ts two sum small len typed some =
    let b = is_erased e k in
    let later = present_among m (k + 1) e in
    let next : k + 1 + m ≡ carriers_of head.rate = omega (arith, sum) in
    let lt : k < carriers_of head.rate = omega (arith, sum) in
    let total : length done + (if b then later else 1 + later) ≡ length done + (if b then 0 else 1) + later = count_step b (length done) later _ refl in
    let grown : length (done ++ seen b k ts) ≡ length done + (if b then 0 else 1) =
    length-append done (seen b k ts) ∙ ap (λ n. length done + n) (seen_length b k ts) in
    let left : 1 ≤ length (done ++ seen b k ts) + later = omega (arith, some, total, grown) in
    let last : k + 1 ≡ carriers_of head.rate → 1 ≤ length done + (if b then 0 else 1) = λ e2. let z : m ≡ 0 = omega (arith, e2, next) in
    let nothing : later ≡ 0 = ap (λ i. present_among i (k + 1) e) z in omega (arith, some, total, nothing) in
    let step = flag_step b turn head e k later done ts refl lt last len typed in
    let rest = route_flagged m (k + 1) turn head e (done ++ seen b k ts) (triangles_behind b ts) two next small
    (behind_length b later ts len) (behind_typed b (streams_of head.rate) ts typed) left in
    let same : m ≡ 0 → head_at head e (k + 1) ≡ with_erased head e = λ z. let place : carriers_of head.rate ≡ k + 1 = omega (arith, z, next) in
    ap (with_erased head) (mod-eq_of_lt (subst (λ n. e < 2 ^ n) place small)) in
    let given = given_next (head_at head e (k + 1)) (with_erased head e) k m next same in
    let regrouped : (done ++ seen b k ts) ++ presents m (k + 1) e (triangles_behind b ts)
    ≡ done ++ (seen b k ts ++ presents m (k + 1) e (triangles_behind b ts)) =
    append_assoc done (seen b k ts) (presents m (k + 1) e (triangles_behind b ts)) in
    route_from _ (Flag turn (head_at head e k) k done) _ _ _ (flag_is turn (head_at head e k) k done lt two)
    (route_gives _ _ _ _ _ given
    (route_to _ _ _ _ _ (ap (λ (d : List Present). Symbol (first_symbol turn (with_erased head e) (length d)) d) regrouped)
    (route_then (Flag turn (head_at head e k) k done) _ _ (flagged b ts) (flagged_octets m (k + 1) e (triangles_behind b ts)) _ _ step rest)))

pub none_erased : (k : ℕ) → is_erased 0 k ≡ false
none_erased k = ap (λ n. nat_eq n 1) (bit_at-zero k)

-- the subcarriers of version 1
pub route_plain : (n k : ℕ) (turn : Turn) (head : FrameHead) (done : List Present) (ts : List (List Leg))
    → (turn.version ≡ 2 → ⊥) → k + n ≡ carriers_of head.rate
    → length ts ≡ n → AreTriangles (streams_of head.rate) ts
    → Route (carriers_due turn head k done) (Symbol (first_symbol turn head (length (done ++ presents n k 0 ts))) (done ++ presents n k 0 ts))
    (flat_map legs_octets ts) (given_with n head)
route_plain zero k turn head done [] one sum len typed =
    route_none _ _ (symbol_is turn head k done (omega (arith, sum))
    ∙ ap (λ (d : List Present). Symbol (first_symbol turn head (length d)) d) (sym (append-nil done)))
route_plain zero k turn head done (t ∷ ts) one sum len typed = absurd (omega (arith, len))
route_plain (suc m) k turn head done [] one sum len typed = absurd (omega (arith, len))
route_plain (suc m) k turn head done (t ∷ ts) one sum len typed =
    let range = streams_of-range head.rate in
    let few : length t ≤ 4 = omega (arith, typed.0, range.1) in
    let some : 1 ≤ length t = omega (arith, typed.0, range.0) in
    let lt : k < carriers_of head.rate = omega (arith, sum) in
    let next : k + 1 + m ≡ carriers_of head.rate = omega (arith, sum) in
    let here : Present = record { carrier = k; triangle = t } in
    let step = route_triangle turn head k done t typed.0 typed.1 few some in
    let rest = route_plain m (k + 1) turn head (done ++ here ∷ []) ts one next (omega (arith, len)) typed.2 in
    let all : (done ++ here ∷ []) ++ presents m (k + 1) 0 ts ≡ done ++ presents (suc m) k 0 (t ∷ ts) =
    append_assoc done (here ∷ []) (presents m (k + 1) 0 ts)
    ∙ ap (λ (b : Bool). done ++ (seen b k (t ∷ ts) ++ presents m (k + 1) 0 (triangles_behind b (t ∷ ts)))) (sym (none_erased k)) in
    route_from _ (Triangle turn head k done) _ _ _ (triangle_is turn head k done lt one)
    (route_gives _ _ _ _ _ (given_next head head k m next (λ z. refl))
    (route_to _ _ _ _ _ (ap (λ (d : List Present). Symbol (first_symbol turn head (length d)) d) all)
    (route_then (Triangle turn head k done) _ _ (legs_octets t) (flat_map legs_octets ts) _ _ step rest)))
