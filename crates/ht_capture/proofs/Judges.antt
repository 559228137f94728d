-- What is said of each field, over plain values.
use Rattle.std.proofs.Common.{◌≡◌, ℕ, zero, suc, ◌+◌, ◌-◌, ◌<◌, ◌≤◌, List, [], ◌∷◌, ◌++◌, length, nat_eq, nat_lt, Bool}
use Rattle.std.proofs.Common.{true, false, ◌&&◌, ◌||◌, if◌then◌else◌, Result, Ok, Err, sym, ap, subst, ◌∙◌, arith}
use Rattle.std.proofs.lemmas.Bool.Decides.{nat_tests}
use Rattle.byteorder.specs.Endian.{big_number}
use Rattle.ht_io.specs.declared.faults.Kind.TheVariants.{BadVersion, BadMcs, BadErased}
use Rattle.ht_fields.specs.Grammar.{Verdict, Good, Bad}
use Rattle.ht_rate.specs.declared.rates.Rate.{Rate}
use Rattle.ht_rate.specs.declared.rates.RateFault.{RateFault}
use Rattle.ht_rate.specs.declared.rates.RateFault.TheVariants.{BadBandwidth as BadBandwidthOfRate, BadMcs as BadMcsOfRate}
use Rattle.ht_rate.specs.Rates.{rate_at, rate_of, streams_of, carriers_of}
use Rattle.ht_metric.specs.Rows.{Leg}
use Rattle.ht_capture.specs.Systems.{triangle_of}
use Rattle.ht_capture.specs.declared.items.FrameHead.{FrameHead}
use Rattle.ht_capture.specs.declared.items.Item.{Item}
use Rattle.ht_capture.specs.declared.places.Present.{Present}
use Rattle.ht_capture.specs.declared.places.Turn.{Turn}
use Rattle.ht_capture.specs.Frames.{erase}
use Rattle.ht_capture.specs.Fields.{CaptureState, Count, Mcs, Length, Triangle, capture_magic_due, bad_flag, known_version}
use Rattle.ht_capture.specs.Fields.{turn_due, carriers_due, head_given, new_head, judge_magic, judge_version}
use Rattle.ht_capture.specs.Fields.{judge_bandwidth, judge_mcs, judge_length, judge_flag, judge_count, judge_triangle}
use Rattle.ht_fields.proofs.Choices.{when_true, when_false}

pub good_magic : (w : ℕ) (more : List ℕ) (y : ℕ) → y ≡ w → judge_magic w more (y ∷ []) ≡ Good (capture_magic_due more) []
unfolding judge_magic
good_magic w more y e = let t : nat_eq y w ≡ true = grind (arith, nat_tests) in when_true _ _ _ t

pub good_version : (v : ℕ) → known_version v ≡ true → judge_version (v ∷ []) ≡ Good (Count v) []
unfolding judge_version
good_version v t = when_true _ _ _ t

pub bad_version : (v : ℕ) → known_version v ≡ false → judge_version (v ∷ []) ≡ Bad BadVersion
unfolding judge_version
bad_version v t = when_false _ _ _ t

pub good_count : (version left : ℕ) (octets : List ℕ) → left ≡ big_number 2 octets
    → judge_count version octets ≡ Good (turn_due (record { version = version; left = left; frame = 0; number = 0 })) []
unfolding judge_count
good_count version left octets is =
    ap (λ (n : ℕ). let v : Verdict CaptureState Item = Good (turn_due (record { version = version; left = n; frame = 0; number = 0 })) [] in v) (sym is)

pub good_bandwidth : (turn : Turn) (code : ℕ) → code ≤ 1 → judge_bandwidth turn (code ∷ []) ≡ Good (Mcs turn code) []
unfolding judge_bandwidth
good_bandwidth turn code le = let t : nat_lt 1 code ≡ false = grind (arith, nat_tests) in when_false _ _ _ t

abbrev found : Rate → Result Rate RateFault → Rate
found d (Ok r) = r
found d (Err e) = d

abbrev IsBad : Result Rate RateFault → Type 0
IsBad (Ok r) = ⊥
IsBad (Err e) = Unit {0}

if_ok : (turn : Turn) (a b : Bool) (r rate : Rate) → a ≡ false → (if a then Err BadBandwidthOfRate else (if b then Err BadMcsOfRate else Ok r)) ≡ Ok rate
    → (if b then Bad BadMcs else Good (Length turn r) []) ≡ (let v : Verdict CaptureState Item = Good (Length turn rate) [] in v)
if_ok turn a true r rate low is =
    absurd (subst IsBad (ap (λ (c : Bool). let z : Result Rate RateFault = if c then Err BadBandwidthOfRate else Err BadMcsOfRate in z) (sym low) ∙ is) tt)
if_ok turn a false r rate low is =
    let same : r ≡ rate = ap (found rate) (ap (λ (c : Bool). let z : Result Rate RateFault = if c then Err BadBandwidthOfRate else Ok r in z) (sym low) ∙ is) in
    ap (λ (x : Rate). let v : Verdict CaptureState Item = Good (Length turn x) [] in v) same

pub good_mcs : (turn : Turn) (code index : ℕ) (rate : Rate) → code ≤ 1
    → rate_of code index ≡ Ok rate → judge_mcs turn code (index ∷ []) ≡ Good (Length turn rate) []
unfolding judge_mcs rate_of
good_mcs turn code index rate le is =
    let t : nat_lt 1 code ≡ false = grind (arith, nat_tests) in if_ok turn (nat_lt 1 code) (nat_lt 31 index) (rate_at code index) rate t is

pub good_triangle : (turn : Turn) (head : FrameHead) (carrier : ℕ) (present : List Present) (octets : List ℕ) (legs : List Leg) (rate : Rate)
    → head.rate ≡ rate → legs ≡ triangle_of (streams_of rate) octets
    → judge_triangle turn head carrier present octets
    ≡ Good (carriers_due turn head (carrier + 1) (present ++ record { carrier = carrier; triangle = legs } ∷ [])) (head_given head (carrier + 1))
unfolding judge_triangle
good_triangle turn head carrier present octets legs rate same is =
    ap (λ (t : List Leg). let v : Verdict CaptureState Item =
    Good (carriers_due turn head (carrier + 1) (present ++ record { carrier = carrier; triangle = t } ∷ [])) (head_given head (carrier + 1)) in v)
    (ap (λ (r : Rate). triangle_of (streams_of r) octets) same ∙ sym is)

pub good_length : (turn : Turn) (rate : Rate) (octets : List ℕ) (len : ℕ) → len ≡ big_number 2 octets → 1 ≤ len
    → judge_length turn rate octets ≡ Good (carriers_due turn (new_head turn rate len) 0 []) []
unfolding judge_length
good_length turn rate octets len is some =
    let t : nat_eq (big_number 2 octets) 0 ≡ false = grind (arith, nat_tests) in
    when_false _ _ _ t ∙ ap (λ (n : ℕ). let v : Verdict CaptureState Item = Good (carriers_due turn (new_head turn rate n) 0 []) [] in v) (sym is)

pub zero_flag : (turn : Turn) (head : FrameHead) (carrier : ℕ) (present : List Present) (flag : ℕ) → flag ≡ 0
    → judge_flag turn head carrier present (flag ∷ []) ≡ Good (Triangle turn head carrier present) []
unfolding judge_flag
zero_flag turn head carrier present flag none = let z : nat_eq flag 0 ≡ true = grind (arith, nat_tests) in when_true _ _ _ z

or_true : (b : Bool) → false ≡ (b || true) → ⊥
or_true true e = grind arith
or_true false e = grind arith

-- where the last flag is good and not 0, a lower subcarrier is present
pub some_left : (head : FrameHead) (carrier count flag : ℕ) → false ≡ bad_flag head carrier count flag → carrier + 1 ≡ carriers_of head.rate → 0 < count
unfolding bad_flag
some_left head carrier zero flag e last =
    let t : nat_eq carrier (carriers_of head.rate - 1) ≡ true = grind (arith, nat_tests) in
    absurd (or_true (nat_lt 1 flag) (e ∙ ap (λ (b : Bool). nat_lt 1 flag || (b && true)) t))
some_left head carrier (suc count) flag e last = omega arith

pub flag_good : (turn : Turn) (head : FrameHead) (carrier : ℕ) (present : List Present) (flag : ℕ)
    → 1 ≤ flag → bad_flag head carrier (length present) flag ≡ false
    → judge_flag turn head carrier present (flag ∷ [])
    ≡ Good (carriers_due turn (erase head carrier) (carrier + 1) present) (head_given (erase head carrier) (carrier + 1))
unfolding judge_flag
flag_good turn head carrier present flag some t = let z : nat_eq flag 0 ≡ false = grind (arith, nat_tests) in when_false _ _ _ z ∙ when_false _ _ _ t

pub flag_bad : (turn : Turn) (head : FrameHead) (carrier : ℕ) (present : List Present) (flag : ℕ)
    → 1 ≤ flag → bad_flag head carrier (length present) flag ≡ true
    → judge_flag turn head carrier present (flag ∷ []) ≡ Bad BadErased
unfolding judge_flag
flag_bad turn head carrier present flag some t = let z : nat_eq flag 0 ≡ false = grind (arith, nat_tests) in when_false _ _ _ z ∙ when_true _ _ _ t
