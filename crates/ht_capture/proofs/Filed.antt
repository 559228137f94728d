-- The file of frames as a capture.
use Rattle.std.proofs.Common.{◌≡◌, ◌⊎◌, inl, inr, ℕ, zero, suc, ◌+◌, ◌*◌, ◌-◌, ◌<◌, ◌≤◌, ◌^◌, ◌%◌, List, [], ◌∷◌, ◌++◌, length, take, drop}
use Rattle.std.proofs.Common.{flat_map, nat_eq, nat_lt, Bool, true, false, if◌then◌else◌, All, refl, sym, ap, subst, ◌∙◌, append_assoc, arith}
use Rattle.std.proofs.lemmas.Bool.Decides.{nat_tests}
use Rattle.std.proofs.Math.Nat.{mod-one}
use Rattle.std.proofs.lemmas.List.{append-nil, length-drop, length-take-le}
use Rattle.std.proofs.lemmas.List.Elements.{All-head, All-tail}
use Rattle.ht_fields.specs.Cases.{IsFile, octets_of_fields}
use Rattle.ht_rate.specs.declared.rates.Rate.{Rate}
use Rattle.ht_rate.specs.Rates.{streams_of, carriers_of, symbols_of, needed_bits_of, data_bits_of}
use Rattle.ht_rate.proofs.LengthFacts.{symbols_of-holds}
use Rattle.ht_rate.proofs.RateFacts.{carriers_of-range, streams_of-range}
use Rattle.ht_metric.specs.declared.sample.Sample.{Sample}
use Rattle.ht_metric.specs.Jobs.{JobView}
use Rattle.ht_metric.specs.Rows.{Leg, Row, rows_of}
use Rattle.ht_capture.specs.declared.frames.CaptureFrame.{CaptureFrame}
use Rattle.ht_capture.specs.declared.items.FrameHead.{FrameHead}
use Rattle.ht_capture.specs.declared.items.Item.{Item}
use Rattle.ht_capture.specs.declared.items.Item.TheVariants.{Frame, Job}
use Rattle.ht_capture.specs.declared.places.Present.{Present}
use Rattle.ht_capture.specs.declared.places.Turn.{Turn}
use Rattle.ht_capture.specs.declared.places.SymbolTurn.{SymbolTurn}
use Rattle.ht_capture.specs.Frames.{carrier_octets, grid_at, job_at, jobs_at}
use Rattle.ht_capture.specs.Systems.{samples_at}
use Rattle.ht_capture.specs.Fields.{Symbol, Over, captures, carriers_due, first_symbol, turn_due, known_version, new_head, next_symbol, next_turn, symbol_due}
use Rattle.ht_capture.specs.Files.{AreCaptureFrames, FitsFrame, HasAllCarriers, triangles_behind, carriers_octets, capture_file_of, flagged_octets}
use Rattle.ht_capture.specs.Files.{capture_frame_octets, front_octets, is_erased, legs_octets, present_among, present_of, sample_octets}
use Rattle.ht_capture.specs.Contents.{AreSamples, AreTriangles, AreTyped, IsTyped, IsVersion, frame_jobs, head_of}
use Rattle.ht_capture.specs.Contents.{items_from, items_of, job_of, presents, presents_of, seen, symbol_jobs}
use Rattle.ht_capture.proofs.Grids.{ones}
use Rattle.ht_capture.proofs.Turns.{over_is, symbol_good}
use Rattle.ht_capture.proofs.Decoded.{behind_more, length-samples, rows_read}
use Rattle.ht_capture.proofs.Routes.{Route, behind_length, behind_typed, first_turn, none_erased, given_with, route_as, route_field, route_flagged}
use Rattle.ht_capture.proofs.Routes.{route_from, route_gives, route_head, route_none, route_plain, route_start, route_then, with_erased}
use Rattle.ht_fields.proofs.Choices.{when_true, when_false}
use Rattle.ht_fields.proofs.Putting.{map_split}

-- a system for each of these subcarriers
abbrev AreHeld : ℕ → List Present → Type 0
AreHeld streams [] = Unit {0}
AreHeld streams (p ∷ ps) = (length p.triangle ≡ streams) × AreHeld streams ps

held_append : (streams : ℕ) (xs ys : List Present) → AreHeld streams xs → AreHeld streams ys → AreHeld streams (xs ++ ys)
held_append streams [] ys a b = b
held_append streams (x ∷ xs) ys a b = (a.0, held_append streams xs ys a.1 b)

held_seen : (b : Bool) (streams k later : ℕ) (ts : List (List Leg))
    → length ts ≡ (if b then later else 1 + later) → AreTriangles streams ts → AreHeld streams (seen b k ts)
held_seen true streams k later ts len typed = tt
held_seen false streams k later [] len typed = absurd (omega (arith, len))
held_seen false streams k later (t ∷ ts) len typed = (typed.0, tt)

held_presents : (n streams k e : ℕ) (ts : List (List Leg)) → length ts ≡ present_among n k e → AreTriangles streams ts → AreHeld streams (presents n k e ts)
held_presents zero streams k e ts len typed = tt
held_presents (suc n) streams k e ts len typed =
    let b = is_erased e k in
    held_append streams (seen b k ts) _ (held_seen b streams k (present_among n (k + 1) e) ts len typed)
    (held_presents n streams (k + 1) e (triangles_behind b ts) (behind_length b (present_among n (k + 1) e) ts len) (behind_typed b streams ts typed))

length-step : (b : Bool) (k later : ℕ) (ts : List (List Leg)) (rest : List Present)
    → length rest ≡ later → length (seen b k ts ++ rest) ≡ (if b then later else 1 + later)
length-step true k later ts rest is = is
length-step false k later ts rest is = omega (arith, is)

pub length-presents : (n k e : ℕ) (ts : List (List Leg)) → length (presents n k e ts) ≡ present_among n k e
length-presents zero k e ts = refl
length-presents (suc n) k e ts = length-step (is_erased e k) k (present_among n (k + 1) e) ts _
    (length-presents n (k + 1) e (triangles_behind (is_erased e k) ts))

-- samples that are numbers of the machine stay so in each part
pub samples_behind : (n : ℕ) (samples : List Sample) → AreSamples samples → AreSamples (drop n samples)
samples_behind zero samples typed = typed
samples_behind (suc n) [] typed = tt
samples_behind (suc n) (s ∷ ss) typed = samples_behind n ss typed.2

pub samples_before : (n : ℕ) (samples : List Sample) → AreSamples samples → AreSamples (take n samples)
samples_before zero samples typed = tt
samples_before (suc n) [] typed = tt
samples_before (suc n) (s ∷ ss) typed = (typed.0, typed.1, samples_before n ss typed.2)

-- a job from its octets is the job from its samples
job_read : (head : FrameHead) (symbol number : ℕ) (p : Present) (samples : List Sample) (octets rest : List ℕ) (at : ℕ)
    → length p.triangle ≡ streams_of head.rate → streams_of head.rate ≤ length samples
    → drop at octets ≡ flat_map sample_octets samples ++ rest → AreSamples samples → job_at head symbol number p octets at ≡ job_of head symbol number p samples
unfolding job_at
job_read head symbol number p samples octets rest at len few is typed =
    let rows : rows_of p.triangle (samples_at (streams_of head.rate) octets at) ≡ rows_of p.triangle samples =
    ap (λ n. rows_of p.triangle (samples_at n octets at)) (sym len) ∙ rows_read p.triangle samples octets rest at (omega (arith, len, few)) is typed in
    ap (λ (r : List Row). let j : JobView =
    record {
      number = number;
      place = record { frame = head.frame; symbol = symbol; carrier = p.carrier };
      grid =
          grid_at head.rate symbol p.carrier;
      system = r;
    } in j) rows

-- the jobs of a symbol from its octets are those from its samples
jobs_read : (head : FrameHead) (symbol number : ℕ) (ps : List Present) (samples : List Sample) (octets rest : List ℕ) (at : ℕ)
    → AreHeld (streams_of head.rate) ps → length ps * streams_of head.rate ≤ length samples
    → drop at octets ≡ flat_map sample_octets samples ++ rest → AreSamples samples
    → jobs_at head symbol number ps octets at ≡ symbol_jobs head symbol number ps samples
unfolding jobs_at
jobs_read head symbol number [] samples octets rest at held few is typed = refl
jobs_read head symbol number (p ∷ ps) samples octets rest at held few is typed =
    let n = streams_of head.rate in
    let total : (1 + length ps) * n ≡ n + length ps * n = omega arith in
    let one : n ≤ length samples = omega (arith, few, total) in
    let size : length (flat_map sample_octets (take n samples)) ≡ 8 * n = length-samples (take n samples) ∙ ap (λ k. 8 * k) (length-take-le n samples one) in
    let parted : drop at octets ≡ flat_map sample_octets (take n samples) ++ (flat_map sample_octets (drop n samples) ++ rest) =
    is ∙ (ap (λ z. z ++ rest) (sym (map_split sample_octets samples n))
    ∙ append_assoc (flat_map sample_octets (take n samples)) (flat_map sample_octets (drop n samples)) rest) in
    let next : drop (at + 8 * n) octets ≡ flat_map sample_octets (drop n samples) ++ rest =
    behind_more octets (flat_map sample_octets (take n samples)) _ at (8 * n) parted size in
    let left : length ps * n ≤ length (drop n samples) = omega (arith, few, total, length-drop n samples) in
    ap (λ (j : JobView). Job j ∷ jobs_at head symbol (number + 1) ps octets (at + 8 * n))
    (job_read head symbol number p samples octets rest at held.0 one is typed)
    ∙ ap (λ (js : List Item). Job (job_of head symbol number p samples) ∷ js)
    (jobs_read head symbol (number + 1) ps (drop n samples) octets rest (at + 8 * n) held.1 left next (samples_behind n samples typed))

abbrev pub turn_at : Turn → ℕ → Turn
turn_at turn number = record { version = turn.version; left = turn.left; frame = turn.frame; number = number }

abbrev pub turn_behind : Turn → ℕ → Turn
turn_behind turn number = record { version = turn.version; left = turn.left - 1; frame = turn.frame + 1; number = number }

abbrev pub due_of : Turn → FrameHead → ℕ → ℕ → ℕ → SymbolTurn
due_of turn head symbol number count =
    record { turn = turn_at turn number; head = head; symbol = symbol; symbols = symbols_of head.rate head.length; count = count }

pub many : (a b : ℕ) → 1 ≤ a → 1 ≤ b → 1 ≤ a * b
many zero b one some = absurd (omega (arith, one))
many (suc a) b one some = let e : (1 + a) * b ≡ b + a * b = omega arith in omega (arith, e, some)

-- a symbol
symbol_step : (turn : Turn) (head : FrameHead) (symbol number : ℕ) (present : List Present) (samples : List Sample)
    → AreHeld (streams_of head.rate) present → 1 ≤ length present
    → length samples ≡ length present * streams_of head.rate → AreSamples samples
    → Route (Symbol (due_of turn head symbol number (length present)) present)
    (symbol_due (next_symbol (due_of turn head symbol number (length present))) present)
    (flat_map sample_octets samples) (symbol_jobs head symbol number present samples)
symbol_step turn head symbol number present samples held some len typed =
    let octets = flat_map sample_octets samples in
    let due = due_of turn head symbol number (length present) in
    let size : length octets ≡ length present * carrier_octets head.rate = omega (arith, length-samples samples, len) in
    let one : 1 ≤ length present * streams_of head.rate = many (length present) (streams_of head.rate) some (streams_of-range head.rate).0 in
    let low : 1 ≤ length octets = omega (arith, length-samples samples, len, one) in
    let few : length present * streams_of head.rate ≤ length samples = omega (arith, len) in
    route_gives _ _ _ _ _ (jobs_read head symbol number present samples octets [] 0 held few (sym (append-nil octets)) typed)
    (route_field (Symbol due present) _ octets _ (ones (length octets) _ size low, symbol_good due present octets))

symbol_more : (turn : Turn) (head : FrameHead) (symbol number count : ℕ) (present : List Present) → symbol + 1 < symbols_of head.rate head.length
    → symbol_due (next_symbol (due_of turn head symbol number count)) present ≡ Symbol (due_of turn head (symbol + 1) (number + count) count) present
unfolding symbol_due next_symbol
symbol_more turn head symbol number count present lt =
    let t : nat_lt (symbol + 1) (symbols_of head.rate head.length) ≡ true = grind (arith, nat_tests) in when_true _ _ _ t

symbol_last : (turn : Turn) (head : FrameHead) (symbol number count : ℕ) (present : List Present) → symbols_of head.rate head.length ≤ symbol + 1
    → symbol_due (next_symbol (due_of turn head symbol number count)) present ≡ turn_due (turn_behind turn (number + count))
unfolding symbol_due next_symbol next_turn
symbol_last turn head symbol number count present le =
    let t : nat_lt (symbol + 1) (symbols_of head.rate head.length) ≡ false = grind (arith, nat_tests) in when_false _ _ _ t

-- the symbols behind one
route_behind : (n last : ℕ) (turn : Turn) (head : FrameHead) (symbol number : ℕ) (present : List Present) (samples : List Sample)
    → symbol + (1 + n) ≡ symbols_of head.rate head.length → last ≡ number + (1 + n) * length present
    → AreHeld (streams_of head.rate) present → 1 ≤ length present → length samples ≡ n * (length present * streams_of head.rate) → AreSamples samples
    → Route (symbol_due (next_symbol (due_of turn head symbol number (length present))) present) (turn_due (turn_behind turn last))
    (flat_map sample_octets samples) (frame_jobs n head (symbol + 1) (number + length present) present samples)
route_behind zero last turn head symbol number present [] sum end held some len typed =
    let all : number + length present ≡ last = omega (arith, end) in
    route_none _ _ (symbol_last turn head symbol number (length present) present (omega (arith, sum)) ∙ ap (λ n. turn_due (turn_behind turn n)) all)
route_behind zero last turn head symbol number present (s ∷ ss) sum end held some len typed =
    let none : 0 * (length present * streams_of head.rate) ≡ 0 = omega arith in absurd (omega (arith, len, none))
route_behind (suc n) last turn head symbol number present samples sum end held some len typed =
    let c = length present in
    let w = length present * streams_of head.rate in
    let next : symbol + 1 + (1 + n) ≡ symbols_of head.rate head.length = omega (arith, sum) in
    let more : last ≡ number + c + (1 + n) * c = omega (arith, end) in
    let split : (1 + n) * w ≡ w + n * w = omega arith in
    let all : length samples ≡ (1 + n) * w = len ∙ ap (λ k. k * w) (let e : suc n ≡ 1 + n = omega arith in e) in
    let enough : w ≤ length samples = omega (arith, all, split) in
    let rest : length (drop w samples) ≡ n * w = omega (arith, all, split, length-drop w samples) in
    let front = symbol_step turn head (symbol + 1) (number + c) present (take w samples) held some
    (length-take-le w samples enough) (samples_before w samples typed) in
    let behind = route_behind n last turn head (symbol + 1) (number + c) present (drop w samples) next more held some rest (samples_behind w samples typed) in
    route_from _ _ _ _ _ (symbol_more turn head symbol number c present (omega (arith, sum)))
    (route_as _ _ _ _ _ (map_split sample_octets samples w) (route_then _ _ _ _ _ _ _ front behind))

-- the symbols of a frame
pub route_symbols : (n last : ℕ) (turn : Turn) (head : FrameHead) (number : ℕ) (present : List Present) (samples : List Sample)
    → n ≡ symbols_of head.rate head.length → 1 ≤ n → last ≡ number + n * length present
    → AreHeld (streams_of head.rate) present → 1 ≤ length present → length samples ≡ n * (length present * streams_of head.rate) → AreSamples samples
    → Route (Symbol (due_of turn head 0 number (length present)) present) (turn_due (turn_behind turn last))
    (flat_map sample_octets samples) (frame_jobs n head 0 number present samples)
route_symbols zero last turn head number present samples is one end held some len typed = absurd (omega (arith, one))
route_symbols (suc n) last turn head number present samples is one end held some len typed =
    let c = length present in
    let w = length present * streams_of head.rate in
    let next : 0 + (1 + n) ≡ symbols_of head.rate head.length = omega (arith, is) in
    let more : last ≡ number + (1 + n) * c = end ∙ ap (λ k. number + k * c) (let e : suc n ≡ 1 + n = omega arith in e) in
    let split : (1 + n) * w ≡ w + n * w = omega arith in
    let all : length samples ≡ (1 + n) * w = len ∙ ap (λ k. k * w) (let e : suc n ≡ 1 + n = omega arith in e) in
    let enough : w ≤ length samples = omega (arith, all, split) in
    let rest : length (drop w samples) ≡ n * w = omega (arith, all, split, length-drop w samples) in
    let front = symbol_step turn head 0 number present (take w samples) held some (length-take-le w samples enough) (samples_before w samples typed) in
    let behind = route_behind n last turn head 0 number present (drop w samples) next more held some rest (samples_behind w samples typed) in
    route_as _ _ _ _ _ (map_split sample_octets samples w) (route_then _ _ _ _ _ _ _ front behind)

none_fails : (n needed bits : ℕ) → 1 ≤ needed → needed ≤ n * bits → 1 ≤ n
none_fails zero needed bits some le = let e : 0 * bits ≡ 0 = omega arith in absurd (omega (arith, some, le, e))
none_fails (suc n) needed bits some le = omega arith

bits_needed : (rate : Rate) (len : ℕ) → 1 ≤ needed_bits_of rate len
unfolding needed_bits_of
bits_needed rate len = omega arith

-- there is a symbol
pub some_symbols : (rate : Rate) (len : ℕ) → 1 ≤ symbols_of rate len
some_symbols rate len = none_fails (symbols_of rate len) (needed_bits_of rate len) (data_bits_of rate) (bits_needed rate len) (symbols_of-holds rate len).0

abbrev pub CanBe : ℕ → CaptureFrame → Type 0
CanBe version f = ((version ≡ 1) × HasAllCarriers f) ⊎ (version ≡ 2)

given_some : (n : ℕ) (head : FrameHead) → 1 ≤ n → given_with n head ≡ Frame head ∷ []
given_some zero head some = absurd (omega (arith, some))
given_some (suc n) head some = refl

pub all_present : (n k : ℕ) → present_among n k 0 ≡ n
all_present zero k = refl
all_present (suc n) k =
    ap (λ (b : Bool). if b then present_among n (k + 1) 0 else 1 + present_among n (k + 1) 0) (none_erased k) ∙ omega (arith, all_present n (k + 1))

-- the subcarriers of a frame, in either version
pub route_carriers : (turn : Turn) (f : CaptureFrame) → CanBe turn.version f → FitsFrame f → IsTyped f
    → Route (carriers_due turn (new_head turn f.rate f.length) 0 [])
    (Symbol (first_symbol turn (head_of turn.frame f) (length (presents_of f))) (presents_of f))
    (carriers_octets turn.version (carriers_of f.rate) f.erased f.triangles) (Frame (head_of turn.frame f) ∷ [])
unfolding carriers_octets
route_carriers turn f (inl one) fits typed =
    let c = carriers_of f.rate in
    let head = new_head turn f.rate f.length in
    let not : turn.version ≡ 2 → ⊥ = λ two. absurd (omega (arith, one.0, two)) in
    let octets : flat_map legs_octets f.triangles
    ≡ (if nat_eq turn.version 2 then flagged_octets c 0 f.erased f.triangles else flat_map legs_octets f.triangles) =
    let t : nat_eq turn.version 2 ≡ false = grind (arith, nat_tests) in sym (when_false _ _ _ t) in
    let all : 0 + c ≡ c = omega arith in
    let size : length f.triangles ≡ c = fits.triangles ∙ (ap (λ e. present_among c 0 e) one.1 ∙ all_present c 0) in
    let low : 1 ≤ c = omega (arith, (carriers_of-range f.rate).0) in
    let route = route_plain c 0 turn head [] f.triangles not all size typed.triangles in
    route_as _ _ _ _ _ octets
    (subst (λ (e : ℕ). Route (carriers_due turn head 0 [])
    (Symbol (first_symbol turn (with_erased head e) (length (presents c 0 e f.triangles))) (presents c 0 e f.triangles))
    (flat_map legs_octets f.triangles) (Frame (with_erased head e) ∷ [])) (sym one.1)
    (route_gives _ _ _ _ _ (given_some c head low) route))
route_carriers turn f (inr two) fits typed =
    let head = new_head turn f.rate f.length in
    let octets : flagged_octets (carriers_of f.rate) 0 f.erased f.triangles
    ≡ (if nat_eq turn.version 2 then flagged_octets (carriers_of f.rate) 0 f.erased f.triangles else flat_map legs_octets f.triangles) =
    let t : nat_eq turn.version 2 ≡ true = grind (arith, nat_tests) in sym (when_true _ _ _ t) in
    let none : f.erased % 2 ^ 0 ≡ 0 = mod-one f.erased in
    let all : 0 + carriers_of f.rate ≡ carriers_of f.rate = omega arith in
    let some : 1 ≤ 0 + present_among (carriers_of f.rate) 0 f.erased = omega (arith, fits.present) in
    let route = route_flagged (carriers_of f.rate) 0 turn head f.erased [] f.triangles two all fits.marks fits.triangles typed.triangles some in
    let low : 1 ≤ carriers_of f.rate = omega (arith, (carriers_of-range f.rate).0) in
    route_as _ _ _ _ _ octets (route_gives _ _ _ _ _ (given_some (carriers_of f.rate) (head_of turn.frame f) low)
    (route_from _ _ _ _ _ (ap (λ m. carriers_due turn (with_erased head m) 0 []) (sym none)) route))

-- a frame
route_frame : (turn : Turn) (f : CaptureFrame) (last : ℕ) → 0 < turn.left → CanBe turn.version f
    → FitsFrame f → IsTyped f → last ≡ turn.number + symbols_of f.rate f.length * length (presents_of f)
    → Route (turn_due turn) (turn_due (turn_behind turn last)) (capture_frame_octets turn.version f)
    (Frame (head_of turn.frame f) ∷ frame_jobs (symbols_of f.rate f.length) (head_of turn.frame f) 0 turn.number (presents_of f) f.samples)
unfolding capture_frame_octets front_octets
route_frame turn f last some_left can fits typed end =
    let head = route_head turn f.rate f.length some_left fits.some typed.length_is in
    let carriers = route_carriers turn f can fits typed in
    let count : length (presents_of f) ≡ present_of f = length-presents (carriers_of f.rate) 0 f.erased f.triangles in
    let held = held_presents (carriers_of f.rate) (streams_of f.rate) 0 f.erased f.triangles fits.triangles typed.triangles in
    let size : length f.samples ≡ symbols_of f.rate f.length * (length (presents_of f) * streams_of f.rate) =
    fits.samples ∙ ap (λ n. symbols_of f.rate f.length * (n * streams_of f.rate)) (sym count) in
    let symbols = route_symbols (symbols_of f.rate f.length) last turn (head_of turn.frame f) turn.number
    (presents_of f) f.samples refl (some_symbols f.rate f.length) end held (omega (arith, count, fits.present)) size typed.samples in
    route_then _ _ _ _ _ _ _ (route_then _ _ _ _ _ _ _ head carriers) symbols

pub can_be : (version : ℕ) (f : CaptureFrame) (fs : List CaptureFrame) → IsVersion version (f ∷ fs) → CanBe version f
can_be version f fs (inl one) = inl (one.0, one.1.0)
can_be version f fs (inr two) = inr two

pub others : (version : ℕ) (f : CaptureFrame) (fs : List CaptureFrame) → IsVersion version (f ∷ fs) → IsVersion version fs
others version f fs (inl one) = inl (one.0, one.1.1)
others version f fs (inr two) = inr two

-- this many frames
pub route_frames : (fs : List CaptureFrame) (turn : Turn) → turn.left ≡ length fs → All FitsFrame fs → AreTyped fs → IsVersion turn.version fs
    → Route (turn_due turn) Over (flat_map (capture_frame_octets turn.version) fs) (items_from turn.frame turn.number fs)
unfolding items_from
route_frames [] turn left fits typed is = route_none _ _ (over_is turn left)
route_frames (f ∷ fs) turn left fits typed is =
    let last = turn.number + symbols_of f.rate f.length * length (presents_of f) in
    let front = route_frame turn f last (omega (arith, left)) (can_be turn.version f fs is) (All-head FitsFrame f fs fits) typed.0 refl in
    let rest = route_frames fs (turn_behind turn last) (omega (arith, left)) (All-tail FitsFrame f fs fits) typed.1 (others turn.version f fs is) in
    route_then _ _ _ _ _ _ _ front rest

known : (version : ℕ) (fs : List CaptureFrame) → IsVersion version fs → known_version version ≡ true
known version fs (inl one) = ap known_version one.0
known version fs (inr two) = ap known_version two

-- the whole file
pub file_written : (version : ℕ) (fs : List CaptureFrame) → AreCaptureFrames fs → AreTyped fs
    → IsVersion version fs → IsFile captures (capture_file_of version fs) (items_of fs)
unfolding capture_file_of
file_written version fs fit typed is =
    let few : length fs < 2 ^ 16 = omega (arith, fit.few) in
    let route = route_then _ _ _ _ _ _ _ (route_start version (length fs) (known version fs is) few)
    (route_frames fs (first_turn version (length fs)) refl fit.fit typed is) in (
      length (octets_of_fields route.fields),
      Over,
      record { fields = route.fields; good = route.good; split = route.split ∙ sym (append-nil (octets_of_fields route.fields)); length_is = refl },
      tt,
    )
