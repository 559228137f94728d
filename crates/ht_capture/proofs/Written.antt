-- Octets that are put one after another.
use Rattle.std.proofs.Common.{◌≡◌, ℕ, zero, suc, ◌+◌, ◌*◌, ◌-◌, ◌<◌, ◌≤◌, List, [], ◌∷◌, ◌++◌, length, drop, take, get_or}
use Rattle.std.proofs.Common.{slice_index_or, flat_map, Bool, true, false, if◌then◌else◌, Option}
use Rattle.std.proofs.Common.{refl, sym, ap, subst, ◌∙◌, append_assoc, length-append, arith}
use Rattle.std.proofs.lemmas.Grind.{flat_map-append}
use Rattle.std.proofs.lemmas.List.{get_or-drop, drop-drop, length-drop, append-nil, drop_all, take_more}
use Rattle.ht_fields.proofs.Putting.{part_first}
use Rattle.ht_io.specs.Pieces.{KnownGrown, KnownGrownByPart}
use Rattle.ht_io.proofs.Pieces.{grown-append, grown_by_part-append}
use Rattle.ht_metric.specs.declared.sample.Sample.{Sample}
use Rattle.std.proofs.Math.Seq.{drop-cons}
use Rattle.ht_metric.specs.declared.tap.Tap.{Tap}
use Rattle.ht_metric.specs.Rows.{Leg, no_tap, no_leg}
use Rattle.ht_capture.specs.Files.{sample_octets, tap_octets, taps_octets, leg_octets, legs_octets, is_erased}
use Rattle.ht_capture.specs.Files.{flagged, triangles_behind, flagged_octets, present_among, front_octets, capture_frame_octets}
use Rattle.ht_capture.specs.declared.frames.CaptureFrame.{CaptureFrame}

-- a piece more
pub put_step : (chunk next piece rest whole : List ℕ) → next ≡ chunk ++ piece → chunk ++ (piece ++ rest) ≡ whole → next ++ rest ≡ whole
put_step chunk next piece rest whole is eq = ap (λ c. c ++ rest) is ∙ (append_assoc chunk piece rest ∙ eq)

-- an entry, and those behind it
pub taps_next : (n m k : ℕ) (right : List Tap) (tap : Tap) → n ≡ suc m → tap ≡ slice_index_or right k no_tap
    → taps_octets n (drop k right) ≡ tap_octets tap ++ taps_octets m (drop (k + 1) right)
taps_next n m k right tap is at =
    let place : k + 0 ≡ k = omega arith in
    let entry : slice_index_or (drop k right) 0 no_tap ≡ tap = get_or-drop k right 0 no_tap ∙ (ap (λ i. slice_index_or right i no_tap) place ∙ sym at) in
    let rest : drop 1 (drop k right) ≡ drop (k + 1) right = drop-drop 1 k right in
    ap (λ i. taps_octets i (drop k right)) is
    ∙ (ap (λ t. tap_octets t ++ taps_octets m (drop 1 (drop k right))) entry ∙ ap (λ r. tap_octets tap ++ taps_octets m r) rest)

pub length-taps : (n : ℕ) (right : List Tap) → length (taps_octets n right) ≡ 4 * n
length-taps zero right = refl
length-taps (suc n) right = omega (arith, length-taps n (drop 1 right))

pub length-leg : (n : ℕ) (leg : Leg) → length (leg_octets n leg) ≡ 2 + 4 * n
length-leg n leg = omega (arith, length-taps n leg.right)

-- a triangle of up to four rows
pub length-legs : (legs : List Leg) → length legs ≤ 4 → length (legs_octets legs) ≡ 2 * (length legs * length legs)
length-legs [] few = refl
length-legs (a ∷ []) few = refl
length-legs (a ∷ b ∷ []) few = refl
length-legs (a ∷ b ∷ c ∷ []) few = refl
length-legs (a ∷ b ∷ c ∷ d ∷ []) few = refl
length-legs (a ∷ b ∷ c ∷ d ∷ e ∷ more) few = absurd (omega (arith, few))

pub few_legs : (legs : List Leg) → length legs ≤ 4 → length (legs_octets legs) ≤ 32
few_legs [] few = omega arith
few_legs (a ∷ []) few = omega arith
few_legs (a ∷ b ∷ []) few = omega arith
few_legs (a ∷ b ∷ c ∷ []) few = omega arith
few_legs (a ∷ b ∷ c ∷ d ∷ []) few = omega arith
few_legs (a ∷ b ∷ c ∷ d ∷ e ∷ more) few = absurd (omega (arith, few))

-- a row, and those below it
pub legs_next : (legs : List Leg) (k : ℕ) → k < length legs
    → legs_octets (drop k legs) ≡ leg_octets (length legs - k - 1) (slice_index_or legs k no_leg) ++ legs_octets (drop (k + 1) legs)
legs_next legs k lt =
    let size : length (drop (suc k) legs) ≡ length legs - k - 1 = omega (arith, length-drop (suc k) legs) in
    let e : suc k ≡ k + 1 = omega arith in
    ap legs_octets (drop-cons legs k no_leg lt)
    ∙ (ap (λ n. leg_octets n (slice_index_or legs k no_leg) ++ legs_octets (drop (suc k) legs)) size
    ∙ ap (λ j. leg_octets (length legs - k - 1) (slice_index_or legs k no_leg) ++ legs_octets (drop j legs)) e)

-- this many octets were there, and the row that is due has room
pub row_room : (chunk old : List ℕ) (legs : List Leg) (k : ℕ) → k < length legs → length legs ≤ 4
    → chunk ++ legs_octets (drop k legs) ≡ old ++ legs_octets legs → length old + 32 ≤ 4096 → length chunk + (2 + 4 * (length legs - k - 1)) ≤ 4096
row_room chunk old legs k lt few eq room =
    let all : length chunk + length (legs_octets (drop k legs)) ≡ length old + length (legs_octets legs) =
    sym (length-append chunk (legs_octets (drop k legs))) ∙ (ap length eq ∙ length-append old (legs_octets legs)) in
    let next : length (legs_octets (drop k legs))
    ≡ length (leg_octets (length legs - k - 1) (slice_index_or legs k no_leg)) + length (legs_octets (drop (k + 1) legs)) =
    ap length (legs_next legs k lt) ∙ length-append (leg_octets (length legs - k - 1) (slice_index_or legs k no_leg)) (legs_octets (drop (k + 1) legs)) in
    omega (arith, few_legs legs few, length-leg (length legs - k - 1) (slice_index_or legs k no_leg), room)

pub triangle_size : (chunk old : List ℕ) (legs : List Leg) → length legs ≤ 4 → chunk ≡ old ++ legs_octets legs → length chunk ≤ length old + 32
triangle_size chunk old legs few eq = omega (arith, ap length eq, length-append old (legs_octets legs), few_legs legs few)

-- a subcarrier, and those behind it
pub flagged_next : (n m k erased : ℕ) (triangles : List (List Leg)) → n ≡ suc m
    → flagged_octets n k erased triangles
    ≡ flagged (is_erased erased k) triangles ++ flagged_octets m (k + 1) erased (triangles_behind (is_erased erased k) triangles)
flagged_next n m k erased triangles is = ap (λ i. flagged_octets i k erased triangles) is

-- the triangles of the subcarriers behind one
left_of : (is : Bool) (n k erased : ℕ) (triangles : List (List Leg))
    → length triangles ≡ (if is then present_among n (k + 1) erased else 1 + present_among n (k + 1) erased)
    → length (triangles_behind is triangles) ≡ present_among n (k + 1) erased
left_of true n k erased triangles len = len
left_of false n k erased [] len = absurd (omega (arith, len))
left_of false n k erased (t ∷ ts) len = omega (arith, len)

pub left_next : (n m k erased : ℕ) (triangles : List (List Leg)) → n ≡ suc m → length triangles ≡ present_among n k erased
    → length (triangles_behind (is_erased erased k) triangles) ≡ present_among m (k + 1) erased
left_next n m k erased triangles is len = left_of (is_erased erased k) m k erased triangles (len ∙ ap (λ i. present_among i k erased) is)

some_of : (is : Bool) (a b : ℕ) → a ≡ (if is then b else 1 + b) → is ≡ false → 0 < a
some_of true a b len e = absurd cc
some_of false a b len e = omega (arith, len)

-- a subcarrier that is present has a triangle
pub left_some : (n m k erased : ℕ) (triangles : List (List Leg)) → n ≡ suc m → length triangles ≡ present_among n k erased
    → is_erased erased k ≡ false → 0 < length triangles
left_some n m k erased triangles is len e =
    some_of (is_erased erased k) (length triangles) (present_among m (k + 1) erased) (len ∙ ap (λ i. present_among i k erased) is) e

present_few : (is : Bool) (a b n : ℕ) → a ≡ (if is then b else 1 + b) → b ≤ n → a ≤ suc n
present_few true a b n e le = omega (arith, e, le)
present_few false a b n e le = omega (arith, e, le)

-- no more are present than there are
pub present_most : (n k erased : ℕ) → present_among n k erased ≤ n
present_most zero k erased = omega arith
present_most (suc n) k erased = present_few (is_erased erased k) _ (present_among n (k + 1) erased) n refl (present_most n (k + 1) erased)

-- the rows that were put are all
pub triangle_done : (chunk old : List ℕ) (legs : List Leg) (k : ℕ) → length legs ≤ k
    → chunk ++ legs_octets (drop k legs) ≡ old ++ legs_octets legs → chunk ≡ old ++ legs_octets legs
triangle_done chunk old legs k over eq = sym (append-nil chunk) ∙ (ap (λ l. chunk ++ legs_octets l) (sym (drop_all k legs over)) ∙ eq)

-- a part of the samples of a frame, behind its front
pub behind_front : (version : ℕ) (f : CaptureFrame) (held mid new : Option (List ℕ)) (put : List ℕ) (samples : List Sample)
    → KnownGrown held mid put → put ≡ front_octets version f → samples ≡ f.samples
    → KnownGrownByPart mid new (flat_map sample_octets samples) → KnownGrownByPart held new (capture_frame_octets version f)
unfolding capture_frame_octets
behind_front version f held mid new put samples a is same b =
    grown_by_part-append held mid new (front_octets version f) (flat_map sample_octets f.samples) (subst (λ (p : List ℕ). KnownGrown held mid p) is a)
    (subst (λ (s : List Sample). KnownGrownByPart mid new (flat_map sample_octets s)) same b)

-- the octets of one sample more
samples_next : (chunk new : List ℕ) (samples : List Sample) (k : ℕ) (d : Sample) → k < length samples
    → chunk ≡ flat_map sample_octets (take k samples) → new ≡ chunk ++ sample_octets (get_or samples k d)
    → new ≡ flat_map sample_octets (take (k + 1) samples)
samples_next chunk new samples k d lt is put =
    let front = flat_map sample_octets (take k samples) in
    let one : Sample = get_or samples k d in
    put ∙ (ap (λ (c : List ℕ). c ++ sample_octets one) is
    ∙ (ap (λ (o : List ℕ). front ++ o) (sym (append-nil (sample_octets one)))
    ∙ (sym (flat_map-append sample_octets (take k samples) (one ∷ []))
    ∙ sym (ap (λ (xs : List Sample). flat_map sample_octets xs) (take_more samples k d lt)))))

samples_size : (chunk new : List ℕ) (s : Sample) (k : ℕ) → length chunk ≡ 8 * k → new ≡ chunk ++ sample_octets s → length new ≡ 8 * (k + 1)
samples_size chunk new s k size put = omega (arith, ap length put, length-append chunk (sample_octets s))

pub sample_added : (chunk new : List ℕ) (samples : List Sample) (k : ℕ) (d : Sample) → k < length samples
    → chunk ≡ flat_map sample_octets (take k samples) → length chunk ≡ 8 * k → new ≡ chunk ++ sample_octets (get_or samples k d)
    → (new ≡ flat_map sample_octets (take (k + 1) samples)) × (length new ≡ 8 * (k + 1))
sample_added chunk new samples k d lt is size put =
    (samples_next chunk new samples k d lt is put, samples_size chunk new (get_or samples k d) k size put)

-- the octets of one frame more
pub frames_next : (f : CaptureFrame → List ℕ) (frames : List CaptureFrame) (k : ℕ) (x : CaptureFrame) (start : List ℕ) (held mid new : Option (List ℕ))
    → k < length frames → x ≡ get_or frames k x → KnownGrown held mid (start ++ flat_map f (take k frames)) → KnownGrown mid new (f x)
    → KnownGrown held new (start ++ flat_map f (take (k + 1) frames))
frames_next f frames k x start held mid new lt at a b =
    let front = flat_map f (take k frames) in
    let more : front ++ f x ≡ flat_map f (take (k + 1) frames) =
    ap (λ (z : List ℕ). front ++ z) (sym (append-nil (f x)))
    ∙ (sym (flat_map-append f (take k frames) (x ∷ []))
    ∙ ap (λ (xs : List CaptureFrame). flat_map f xs)
    (ap (λ (y : CaptureFrame). take k frames ++ y ∷ []) at ∙ sym (take_more frames k x lt))) in
    subst (λ (w : List ℕ). KnownGrown held new w) (append_assoc start front (f x) ∙ ap (λ (z : List ℕ). start ++ z) more)
    (grown-append held mid new (start ++ front) (f x) a b)

-- a frame, behind its front
pub behind_front_all : (version : ℕ) (f : CaptureFrame) (held mid new : Option (List ℕ)) (put : List ℕ) (samples : List Sample)
    → KnownGrown held mid put → put ≡ front_octets version f → samples ≡ f.samples
    → KnownGrown mid new (flat_map sample_octets samples) → KnownGrown held new (capture_frame_octets version f)
unfolding capture_frame_octets
behind_front_all version f held mid new put samples a is same b =
    grown-append held mid new (front_octets version f) (flat_map sample_octets f.samples) (subst (λ (p : List ℕ). KnownGrown held mid p) is a)
    (subst (λ (s : List Sample). KnownGrown mid new (flat_map sample_octets s)) same b)

-- a part of its front
pub part_of_front : (version : ℕ) (f : CaptureFrame) (held new : Option (List ℕ)) (put : List ℕ) → put ≡ front_octets version f
    → KnownGrownByPart held new put → KnownGrownByPart held new (capture_frame_octets version f)
unfolding capture_frame_octets
part_of_front version f held new put is a = part_first held new put (front_octets version f) (flat_map sample_octets f.samples) _ is refl a
