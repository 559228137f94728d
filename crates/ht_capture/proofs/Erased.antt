-- The bits of a frame's head are the flags of its subcarriers.
use Rattle.std.specs.Prelude.{◌↔◌}
use Rattle.std.proofs.Common.{◌≡◌, ◌⊎◌, ℕ, zero, suc, ◌+◌, ◌-◌, ◌*◌, ◌^◌, ◌<◌, ◌≤◌, List, [], ◌∷◌, ◌++◌, length, take, drop, nat_eq}
use Rattle.std.proofs.Common.{nat_lt, Bool, true, false, if◌then◌else◌, refl, sym, ap, subst, ◌∙◌, ◌≢◌, max, inl, inr, arith}
use Rattle.std.proofs.lemmas.Bool.Decides.{nat_tests}
use Rattle.std.proofs.lemmas.List.{length-take-le, take-append-drop}
use Rattle.std.proofs.Math.Nat.{max-zero}
use Rattle.std.proofs.lemmas.Nat.Bits.{bit_at_or, bit_at-pow_same, bit_at-pow_other, bit_at-zero}
use Rattle.std.specs.Int.{bit_at}
use Rattle.ht_io.specs.declared.faults.Kind.{Kind}
use Rattle.ht_io.specs.declared.faults.Kind.TheVariants.{BadBandwidth, BadMcs, BadLength, BadErased}
use Rattle.byteorder.specs.Endian.{big_number}
use Rattle.ht_fields.specs.Grammar.{Verdict, Good, Bad}
use Rattle.ht_fields.specs.Meanings.{Meaning, before, judged, meaning, meaning_of}
use Rattle.ht_rate.specs.declared.rates.Rate.{Rate}
use Rattle.ht_rate.specs.Rates.{rate_at, carriers_of, streams_of}
use Rattle.ht_capture.specs.declared.items.FrameHead.{FrameHead}
use Rattle.ht_capture.specs.declared.items.Item.{Item}
use Rattle.ht_capture.specs.declared.items.Item.TheVariants.{Frame}
use Rattle.ht_capture.specs.declared.places.Present.{Present}
use Rattle.ht_capture.specs.declared.places.Turn.{Turn}
use Rattle.ht_capture.specs.Frames.{erase}
use Rattle.ht_capture.specs.Systems.{triangle_octets, triangle_of}
use Rattle.ht_capture.specs.Fields.{CaptureState, Bandwidth, Mcs, Length, Flag, Triangle, captures, carriers_due, head_given}
use Rattle.ht_capture.specs.Fields.{new_head, judge_bandwidth, judge_mcs, judge_length, judge_flag, judge_triangle, bad_flag}
use Rattle.ht_capture.specs.Erased.{flag_at}
use Rattle.ht_fields.proofs.Steps.{early_end, good_field}
use Rattle.ht_fields.proofs.Readers.{field_is}
use Rattle.ht_rate.proofs.RateFacts.{streams_of-range, carriers_of-range}
use Rattle.ht_capture.proofs.Encoded.{only_one}
use Rattle.ht_capture.proofs.Judges.{zero_flag, flag_good, flag_bad, good_triangle}
use Rattle.ht_capture.proofs.Turns.{flag_is, triangle_is, none_given, one_given}
use Rattle.ht_fields.specs.Tests.{octet_of}

items_of : Meaning Item → List Item
items_of m = m.items

-- what a head tells of its subcarriers from one on, whose octets these are
pub record Marks (head h : FrameHead) (c : ℕ) (octets : List ℕ) : Type 0 where
  pub rate : h.rate ≡ head.rate
  pub below : (k : ℕ) → k < c → bit_at h.erased k ≡ bit_at head.erased k
  pub here : (j : ℕ) → c + j < carriers_of head.rate → (bit_at h.erased (c + j) ≡ 1) ↔ (flag_at (triangle_octets (streams_of head.rate)) j octets ≡ 1)
  pub above : (k : ℕ) → carriers_of head.rate ≤ k → bit_at h.erased k ≡ 0

same_head : (a b : FrameHead) (xs ys : List Item) → Frame a ∷ xs ≡ Frame b ∷ ys → a ≡ b
same_head a b xs ys e = cc

no_item : (head : FrameHead) (more : List Item) → [] ≡ Frame head ∷ more → ⊥
no_item head more e = cc

-- behind the last subcarrier the head is given
last : (head h : FrameHead) (c : ℕ) (more : List Item) (octets : List ℕ) (rest : Meaning Item)
    → c ≡ carriers_of head.rate → ((k : ℕ) → c ≤ k → bit_at head.erased k ≡ 0)
    → (before (head_given head c) rest).items ≡ Frame h ∷ more → Marks head h c octets
last head h c more octets rest all none e =
    let given : head_given head c ≡ Frame head ∷ [] = one_given head c (omega (arith, all)) in
    let same : head ≡ h = same_head head h rest.items more (ap (λ (z : List Item). z ++ rest.items) (sym given) ∙ e) in
    subst (λ (z : FrameHead). Marks head z c octets) same
    (record {
      rate = refl;
      below = λ k lt. refl;
      here = λ j lt. absurd (omega (arith, all, lt));
      above = λ k le. none k (omega (arith, all, le));
    })

-- before it none is given
more_of : (head h : FrameHead) (c : ℕ) (more : List Item) (rest : Meaning Item) → c < carriers_of head.rate
    → (before (head_given head c) rest).items ≡ Frame h ∷ more → rest.items ≡ Frame h ∷ more
more_of head h c more rest lt e = ap (λ (z : List Item). z ++ rest.items) (sym (none_given head c lt)) ∙ e

-- a subcarrier and those behind it
join : (head mid h : FrameHead) (c : ℕ) (octets rest : List ℕ) → mid.rate ≡ head.rate → ((k : ℕ) → k < c → bit_at mid.erased k ≡ bit_at head.erased k)
    → (bit_at mid.erased c ≡ 1) ↔ (octet_of octets ≡ 1)
    → drop (if nat_eq (octet_of octets) 0 then triangle_octets (streams_of head.rate) + 1 else 1) octets ≡ rest
    → Marks mid h (c + 1) rest → Marks head h c octets
join head mid h c octets rest r low bit is m =
    let rate : h.rate ≡ head.rate = m.rate ∙ r in
    let width = triangle_octets (streams_of head.rate) in
    let wide : triangle_octets (streams_of mid.rate) ≡ width = ap (λ (z : Rate). triangle_octets (streams_of z)) r in
    let all : carriers_of mid.rate ≡ carriers_of head.rate = ap (λ (z : Rate). carriers_of z) r in
    record {
      rate = rate;
      below = λ k lt. m.below k (omega (arith, lt)) ∙ low k lt;
      here = λ j lt. elim_at j lt;
      above = λ k le. m.above k (omega (arith, all, le));
    }
  where
    elim_at : (j : ℕ) → c + j < carriers_of head.rate → (bit_at h.erased (c + j) ≡ 1) ↔ (flag_at (triangle_octets (streams_of head.rate)) j octets ≡ 1)
    elim_at zero lt =
        let at : bit_at h.erased c ≡ bit_at mid.erased c = m.below c (omega arith) in
        let place : c + 0 ≡ c = omega arith in
        subst (λ (k : ℕ). (bit_at h.erased k ≡ 1) ↔ (octet_of octets ≡ 1)) (sym place)
        ((λ e. bit.0 (sym at ∙ e)), (λ e. at ∙ bit.1 e))
    elim_at (suc i) lt =
        let place : (c + 1) + i ≡ c + suc i = omega arith in
        let all : carriers_of mid.rate ≡ carriers_of head.rate = ap (λ (z : Rate). carriers_of z) r in
        let wide : triangle_octets (streams_of mid.rate) ≡ triangle_octets (streams_of head.rate) = ap (λ (z : Rate). triangle_octets (streams_of z)) r in
        let within : (c + 1) + i < carriers_of mid.rate = omega (arith, all, lt, place) in
        subst (λ (k : ℕ). (bit_at h.erased k ≡ 1) ↔ (flag_at (triangle_octets (streams_of head.rate)) (suc i) octets ≡ 1)) place
        (subst (λ (o : List ℕ). (bit_at h.erased ((c + 1) + i) ≡ 1) ↔ (flag_at (triangle_octets (streams_of head.rate)) i o ≡ 1)) (sym is)
        (subst (λ (w : ℕ). (bit_at h.erased ((c + 1) + i) ≡ 1) ↔ (flag_at w i rest ≡ 1)) wide (m.here i within)))

bit_cases : (b : Bool) → (b ≡ true) ⊎ (b ≡ false)
bit_cases true = inl refl
bit_cases false = inr refl

-- the bits of a head with one subcarrier more
erased_here : (head : FrameHead) (c : ℕ) → bit_at head.erased c ≡ 0 → bit_at (erase head c).erased c ≡ 1
unfolding erase
erased_here head c none = bit_at_or head.erased (2 ^ c) c ∙ (ap (λ (n : ℕ). max n (bit_at (2 ^ c) c)) none ∙ ap (λ (n : ℕ). max 0 n) (bit_at-pow_same c))

erased_there : (head : FrameHead) (c k : ℕ) → k ≢ c → bit_at (erase head c).erased k ≡ bit_at head.erased k
unfolding erase
erased_there head c k other =
    bit_at_or head.erased (2 ^ c) k ∙ (ap (λ (n : ℕ). max (bit_at head.erased k) n) (bit_at-pow_other c k other) ∙ max-zero (bit_at head.erased k))

erased_rate : (head : FrameHead) (c : ℕ) → (erase head c).rate ≡ head.rate
unfolding erase
erased_rate head c = refl

-- what has to hold behind a subcarrier
abbrev Goes : Turn → FrameHead → FrameHead → ℕ → List Item → Type 0
Goes turn head h c more =
    (mid : FrameHead) (place : ℕ) (seen : List Present) (rest : List ℕ) → mid.rate ≡ head.rate → ((k : ℕ) → c + 1 ≤ k → bit_at mid.erased k ≡ 0)
    → (before (head_given mid (c + 1)) (meaning captures (carriers_due turn mid (c + 1) seen) place rest)).items ≡ Frame h ∷ more → Marks mid h (c + 1) rest

wide : (n : ℕ) → 1 ≤ n → 2 ≤ triangle_octets n
wide zero le = absurd (omega arith)
wide (suc m) le = let square : (suc m) * (suc m) ≡ m * m + 2 * m + 1 = omega arith in omega (arith, square)

-- behind a triangle stands what has to hold behind its octets
triangle_step : {R : Type 0} (turn : Turn) (head h : FrameHead) (c at : ℕ) (present : List Present) (octets : List ℕ) (more : List Item)
    → ((place : ℕ) (seen : List Present)
    → (before (head_given head (c + 1))
    (meaning captures (carriers_due turn head (c + 1) seen) place (drop (triangle_octets (streams_of head.rate)) octets))).items ≡ Frame h ∷ more → R)
    → (meaning captures (Triangle turn head c present) at octets).items ≡ Frame h ∷ more → R
triangle_step {R = R} turn head h c at present octets more goes e = by_length (bit_cases (nat_lt (length octets) (triangle_octets (streams_of head.rate))))
  where
    by_length : (nat_lt (length octets) (triangle_octets (streams_of head.rate)) ≡ true)
        ⊎ (nat_lt (length octets) (triangle_octets (streams_of head.rate)) ≡ false) → R
    by_length (inl t) =
        let w = triangle_octets (streams_of head.rate) in
        let some : 2 ≤ w = wide (streams_of head.rate) (streams_of-range head.rate).0 in
        let few : length octets < w = grind (arith, nat_tests) in
        let short : length octets < (w - 1) + 1 = omega (arith, few, some) in
        absurd (no_item h more (sym (ap (λ (m : Meaning Item). m.items) (early_end captures (Triangle turn head c present) at octets short)) ∙ e))
    by_length (inr f) =
        let w = triangle_octets (streams_of head.rate) in
        let some : 2 ≤ w = wide (streams_of head.rate) (streams_of-range head.rate).0 in
        let le : w ≤ length octets = grind (arith, nat_tests) in
        let x = take w octets in
        let rest = drop w octets in
        let len : length x ≡ w = length-take-le w octets le in
        let legs = triangle_of (streams_of head.rate) x in
        let seen : List Present = present ++ record { carrier = c; triangle = legs } ∷ [] in
        let good = good_triangle turn head c present x legs head.rate refl refl in
        let positive : 0 < w = omega (arith, some) in
        let is = good_field captures (Triangle turn head c present) (carriers_due turn head (c + 1) seen) at x (head_given head (c + 1)) rest
        (field_is w (judge_triangle turn head c present) x (Good (carriers_due turn head (c + 1) seen) (head_given head (c + 1))) positive len good) in
        let all : meaning captures (Triangle turn head c present) at octets
        ≡ before (head_given head (c + 1)) (meaning captures (carriers_due turn head (c + 1) seen) (at + length x) rest) =
        ap (λ (o : List ℕ). meaning captures (Triangle turn head c present) at o) (sym (take-append-drop w octets)) ∙ is in
        goes (at + length x) seen (sym (ap (λ (m : Meaning Item). m.items) all) ∙ e)

judged_flag : (turn : Turn) (head : FrameHead) (c at y : ℕ) (present : List Present) (ys : List ℕ)
    → meaning captures (Flag turn head c present) at (y ∷ ys) ≡ judged (judge_flag turn head c present (y ∷ [])) at (λ next. meaning captures next (at + 1) ys)
unfolding meaning meaning_of
judged_flag turn head c at y present ys = refl

judged_items : (v w : Verdict CaptureState Item) (at : ℕ) (ys : List ℕ) (items : List Item) (m : Meaning Item)
    → m ≡ judged v at (λ next. meaning captures next (at + 1) ys) → v ≡ w → m.items ≡ items
    → (judged w at (λ next. meaning captures next (at + 1) ys)).items ≡ items
judged_items v w at ys items m is same e =
    sym (ap (λ (z : Verdict CaptureState Item). (judged z at (λ next. meaning captures next (at + 1) ys)).items) same)
    ∙ (sym (ap (λ (z : Meaning Item). z.items) is) ∙ e)

nothing_read : (turn : Turn) (head : FrameHead) (c at : ℕ) (present : List Present) → (meaning captures (Flag turn head c present) at []).items ≡ []
unfolding meaning meaning_of
nothing_read turn head c at present = refl

-- a subcarrier, and what has to hold behind it
marked : (turn : Turn) (head h : FrameHead) (c at : ℕ) (present : List Present) (octets : List ℕ) (more : List Item)
    → c < carriers_of head.rate → ((k : ℕ) → c ≤ k → bit_at head.erased k ≡ 0) → Goes turn head h c more
    → (meaning captures (Flag turn head c present) at octets).items ≡ Frame h ∷ more → Marks head h c octets
marked turn head h c at present [] more lt none goes e = absurd (no_item h more (sym (nothing_read turn head c at present) ∙ e))
marked turn head h c at present (y ∷ ys) more lt none goes e = by_flag (bit_cases (nat_eq y 0)) (bit_cases (bad_flag head c (length present) y))
  where
    by_flag : (nat_eq y 0 ≡ true) ⊎ (nat_eq y 0 ≡ false)
        → (bad_flag head c (length present) y ≡ true) ⊎ (bad_flag head c (length present) y ≡ false) → Marks head h c (y ∷ ys)
    by_flag (inl z) b =
        let w = triangle_octets (streams_of head.rate) in
        let zero_is : y ≡ 0 = grind (arith, nat_tests) in
        let beyond : w + 1 ≡ suc w = omega arith in
        let is = judged_items _ (Good (Triangle turn head c present) []) at ys (Frame h ∷ more) _
        (judged_flag turn head c at y present ys) (zero_flag turn head c present y zero_is) e in
        let m = triangle_step turn head h c (at + 1) present ys more
        (λ place seen later. goes head place seen (drop w ys) refl (λ k le. none k (omega (arith, le))) later) is in
        let step : drop (if nat_eq y 0 then w + 1 else 1) (y ∷ ys) ≡ drop w ys =
        ap (λ (t : Bool). drop (if t then w + 1 else 1) (y ∷ ys)) z ∙ ap (λ (n : ℕ). drop n (y ∷ ys)) beyond in
        let bit : (bit_at head.erased c ≡ 1) ↔ (y ≡ 1) = ((λ p. absurd (omega (arith, none c (omega arith), p))), (λ p. absurd (omega (arith, p, zero_is)))) in
        join head head h c (y ∷ ys) (drop w ys) refl (λ k less. refl) bit step m
    by_flag (inr z) (inl b) =
        let some : 1 ≤ y = grind (arith, nat_tests) in
        absurd (no_item h more (judged_items _ (Bad BadErased) at ys (Frame h ∷ more) _
        (judged_flag turn head c at y present ys) (flag_bad turn head c present y some b) e))
    by_flag (inr z) (inr b) =
        let w = triangle_octets (streams_of head.rate) in
        let some : 1 ≤ y = grind (arith, nat_tests) in
        let one : y ≡ 1 = only_one head c (length present) y (sym b) some in
        let mid = erase head c in
        let is = judged_items _ (Good (carriers_due turn mid (c + 1) present) (head_given mid (c + 1))) at ys
        (Frame h ∷ more) _ (judged_flag turn head c at y present ys) (flag_good turn head c present y some b) e in
        let others : (k : ℕ) → k ≢ c → bit_at mid.erased k ≡ bit_at head.erased k = erased_there head c in
        let m = goes mid (at + 1) present ys (erased_rate head c) (λ k le. others k (λ same. omega (arith, le, same)) ∙ none k (omega (arith, le))) is in
        let step : drop (if nat_eq y 0 then w + 1 else 1) (y ∷ ys) ≡ ys = ap (λ (t : Bool). drop (if t then w + 1 else 1) (y ∷ ys)) z in
        let bit : (bit_at mid.erased c ≡ 1) ↔ (y ≡ 1) = ((λ p. one), (λ p. erased_here head c (none c (omega arith)))) in
        join head mid h c (y ∷ ys) ys (erased_rate head c) (λ k less. others k (λ same. omega (arith, less, same))) bit step m

-- all subcarriers from one on
marks : (n : ℕ) (turn : Turn) (head h : FrameHead) (c at : ℕ) (present : List Present) (octets : List ℕ) (more : List Item)
    → turn.version ≡ 2 → c + suc n ≡ carriers_of head.rate → ((k : ℕ) → c ≤ k → bit_at head.erased k ≡ 0)
    → (meaning captures (carriers_due turn head c present) at octets).items ≡ Frame h ∷ more → Marks head h c octets
marks zero turn head h c at present octets more two all none e =
    let lt : c < carriers_of head.rate = omega (arith, all) in
    marked turn head h c at present octets more lt none
    (λ mid place seen rest same free is. last mid h (c + 1) more rest (meaning captures (carriers_due turn mid (c + 1) seen) place rest)
    (omega (arith, all, ap (λ (z : Rate). carriers_of z) same)) free is)
    (ap (λ (s : CaptureState). (meaning captures s at octets).items) (sym (flag_is turn head c present lt two)) ∙ e)
marks (suc n) turn head h c at present octets more two all none e =
    let lt : c < carriers_of head.rate = omega (arith, all) in
    marked turn head h c at present octets more lt none
    (λ mid place seen rest same free is.
    let count : carriers_of mid.rate ≡ carriers_of head.rate = ap (λ (z : Rate). carriers_of z) same in
    marks n turn mid h (c + 1) place seen rest more two (omega (arith, all, count)) free
    (more_of mid h (c + 1) more (meaning captures (carriers_due turn mid (c + 1) seen) place rest) (omega (arith, all, count)) is))
    (ap (λ (s : CaptureState). (meaning captures s at octets).items) (sym (flag_is turn head c present lt two)) ∙ e)

-- in version 1 the head stays as it was
plain : (n : ℕ) (turn : Turn) (head h : FrameHead) (c at : ℕ) (present : List Present) (octets : List ℕ) (more : List Item)
    → (turn.version ≡ 2 → ⊥) → c + suc n ≡ carriers_of head.rate
    → (meaning captures (carriers_due turn head c present) at octets).items ≡ Frame h ∷ more → head ≡ h
plain zero turn head h c at present octets more one all e =
    triangle_step turn head h c at present octets more
    (λ place seen later.
    let rest = meaning captures (carriers_due turn head (c + 1) seen) place (drop (triangle_octets (streams_of head.rate)) octets) in
    same_head head h rest.items more (ap (λ (z : List Item). z ++ rest.items) (sym (one_given head (c + 1) (omega (arith, all)))) ∙ later))
    (ap (λ (s : CaptureState). (meaning captures s at octets).items) (sym (triangle_is turn head c present (omega (arith, all)) one)) ∙ e)
plain (suc n) turn head h c at present octets more one all e =
    triangle_step turn head h c at present octets more
    (λ place seen later.
    plain n turn head h (c + 1) place seen (drop (triangle_octets (streams_of head.rate)) octets) more one (omega (arith, all))
    (more_of head h (c + 1) more (meaning captures (carriers_due turn head (c + 1) seen) place (drop (triangle_octets (streams_of head.rate)) octets))
    (omega (arith, all)) later))
    (ap (λ (s : CaptureState). (meaning captures s at octets).items) (sym (triangle_is turn head c present (omega (arith, all)) one)) ∙ e)

-- a good field of a head goes on to the next
chosen : (b : Bool) (bad : Kind) (next : CaptureState) (at place : ℕ) (rest : List ℕ) (h : FrameHead) (more : List Item)
    → (judged (if b then Bad bad else Good next []) at (λ (s : CaptureState). meaning captures s place rest)).items ≡ Frame h ∷ more
    → (meaning captures next place rest).items ≡ Frame h ∷ more
chosen true bad next at place rest h more e = absurd (no_item h more e)
chosen false bad next at place rest h more e = e

-- a head that was given begins with its bandwidth, MCS and length
pub record Begun (turn : Turn) (octets : List ℕ) (h : FrameHead) (more : List Item) : Type 0 where
  pub rate : Rate
  pub len : ℕ
  pub place : ℕ
  pub given : (meaning captures (carriers_due turn (new_head turn rate len) 0 []) place (drop 4 octets)).items ≡ Frame h ∷ more

begun : (turn : Turn) (at : ℕ) (octets : List ℕ) (h : FrameHead) (more : List Item)
    → (meaning captures (Bandwidth turn) at octets).items ≡ Frame h ∷ more → Begun turn octets h more
unfolding meaning meaning_of judge_bandwidth judge_mcs judge_length
begun turn at [] h more e = absurd (no_item h more e)
begun turn at (a ∷ []) h more e = absurd (no_item h more (chosen (nat_lt 1 a) BadBandwidth (Mcs turn a) at (at + 1) [] h more e))
begun turn at (a ∷ b ∷ []) h more e =
    absurd (no_item h more (chosen (nat_lt 31 b) BadMcs (Length turn (rate_at a b)) (at + 1) (at + 1 + 1)
    [] h more (chosen (nat_lt 1 a) BadBandwidth (Mcs turn a) at (at + 1) (b ∷ []) h more e)))
begun turn at (a ∷ b ∷ l ∷ []) h more e =
    absurd (no_item h more (chosen (nat_lt 31 b) BadMcs (Length turn (rate_at a b)) (at + 1) (at + 1 + 1)
    (l ∷ []) h more (chosen (nat_lt 1 a) BadBandwidth (Mcs turn a) at (at + 1) (b ∷ l ∷ []) h more e)))
begun turn at (a ∷ b ∷ l ∷ m ∷ rest) h more e =
    let rate = rate_at a b in
    let len = big_number 2 (l ∷ m ∷ []) in
    record {
      rate = rate;
      len = len;
      place = at + 1 + 1 + 1 + 1;
      given = chosen (nat_eq len 0) BadLength (carriers_due turn (new_head turn rate len) 0 []) (at + 1 + 1) (at + 1 + 1 + 1 + 1) rest h more
          (chosen (nat_lt 31 b) BadMcs (Length turn rate) (at + 1) (at + 1 + 1) (l ∷ m ∷ rest) h more
          (chosen (nat_lt 1 a) BadBandwidth (Mcs turn a) at (at + 1) (b ∷ l ∷ m ∷ rest) h more e));
    }

-- In version 2 the bits of a head are the flags.
pub flags_marked : (turn : Turn) (at : ℕ) (octets : List ℕ) (h : FrameHead) (more : List Item) → turn.version ≡ 2
    → (meaning captures (Bandwidth turn) at octets).items ≡ Frame h ∷ more
    → ((c : ℕ) → c < carriers_of h.rate → (bit_at h.erased c ≡ 1) ↔ (flag_at (triangle_octets (streams_of h.rate)) c (drop 4 octets) ≡ 1))
    × ((c : ℕ) → carriers_of h.rate ≤ c → bit_at h.erased c ≡ 0)
flags_marked turn at octets h more two e =
    let b = begun turn at octets h more e in
    let head = new_head turn b.rate b.len in
    let some : 56 ≤ carriers_of b.rate = (carriers_of-range b.rate).0 in
    let all : 0 + suc (carriers_of b.rate - 1) ≡ carriers_of b.rate = omega (arith, some) in
    let m = marks (carriers_of b.rate - 1) turn head h 0 b.place [] (drop 4 octets) more two all (λ k le. bit_at-zero k) b.given in
    let same : carriers_of h.rate ≡ carriers_of b.rate = ap (λ (r : Rate). carriers_of r) m.rate in (
      λ c lt.
          let zero_on : 0 + c ≡ c = omega arith in
          let within : 0 + c < carriers_of b.rate = omega (arith, lt, same) in
          subst (λ (r : Rate). (bit_at h.erased c ≡ 1) ↔ (flag_at (triangle_octets (streams_of r)) c (drop 4 octets) ≡ 1)) (sym m.rate)
          (subst (λ (k : ℕ). (bit_at h.erased k ≡ 1) ↔ (flag_at (triangle_octets (streams_of b.rate)) c (drop 4 octets) ≡ 1)) zero_on (m.here c within)),
      λ c le. m.above c (omega (arith, le, same)),
    )

-- In version 1 none is set.
pub none_marked : (turn : Turn) (at : ℕ) (octets : List ℕ) (h : FrameHead) (more : List Item) → (turn.version ≡ 2 → ⊥)
    → (meaning captures (Bandwidth turn) at octets).items ≡ Frame h ∷ more → h.erased ≡ 0
none_marked turn at octets h more one e =
    let b = begun turn at octets h more e in
    let head = new_head turn b.rate b.len in
    let some : 56 ≤ carriers_of b.rate = (carriers_of-range b.rate).0 in
    let all : 0 + suc (carriers_of b.rate - 1) ≡ carriers_of b.rate = omega (arith, some) in
    sym (ap (λ (f : FrameHead). f.erased) (plain (carriers_of b.rate - 1) turn head h 0 b.place [] (drop 4 octets) more one all b.given))
