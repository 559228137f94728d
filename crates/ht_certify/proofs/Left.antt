-- What is left of the records of symbols, one more having been made.
use Rattle.std.proofs.Common.{◌≡◌, ℕ, suc, ◌+◌, ◌-◌, ◌*◌, ◌<◌, List, [], ◌∷◌, ◌++◌, get_or, length, take, drop, map, flat_map, Bool, true, if◌then◌else◌}
use Rattle.std.proofs.Common.{refl, sym, ap, ◌∙◌, append_assoc, arith}
use Rattle.std.proofs.lemmas.List.{drop_more, map-append, append-nil}
use Rattle.std.proofs.lemmas.Grind.{flat_map-append}
use Rattle.std.proofs.Math.Nat.{suc-mul}
use Rattle.std.proofs.lemmas.Bool.{cond-true}
use Rattle.ht_rate.specs.declared.kinds.Modulation.{Modulation}
use Rattle.ht_rate.specs.declared.rates.Rate.{Rate}
use Rattle.ht_pam.specs.declared.axes.Axes.{Axes}
use Rattle.ht_metric.specs.declared.sample.Sample.{Sample}
use Rattle.ht_metric.specs.Rows.{Leg, Row, rows_of}
use Rattle.ht_capture.specs.declared.frames.CaptureFrame.{CaptureFrame}
use Rattle.ht_capture.specs.Contents.{presents, seen}
use Rattle.ht_capture.specs.Files.{is_erased, present_among, triangles_behind}
use Rattle.ht_capture.proofs.Written.{left_next}
use Rattle.ht_cert.specs.declared.record.Record.{Record}
use Rattle.ht_cert.specs.Files.{record_octets}
use Rattle.ht_cert.specs.Records.{no_place}
use Rattle.ht_certify.specs.declared.subcarriers.Subcarrier.{Subcarrier}
use Rattle.ht_certify.specs.Certifying.{record_of}
use Rattle.ht_certify.specs.Making.{job_on, records_of_frame, records_of_frames, records_of_symbol, records_of_symbols, records_on, subcarrier_of}

-- a system takes as many samples as it has rows
pub rows_front : (legs : List Leg) (samples : List Sample) → rows_of legs (take (length legs) samples) ≡ rows_of legs samples
rows_front [] samples = refl
rows_front (leg ∷ legs) [] = refl
rows_front (leg ∷ legs) (s ∷ ss) =
    ap (λ (rows : List Row). record { diagonal = leg.diagonal; right = leg.right; sample = s } ∷ rows) (rows_front legs ss)

on_front : (m : Modulation) (g : List Axes) (s : Subcarrier) (n : ℕ) (samples : List Sample) → length s.triangle ≡ n
    → records_on m g s (take n samples) ≡ records_on m g s samples
on_front m g s n samples size =
    let rows : rows_of s.triangle (take n samples) ≡ rows_of s.triangle samples =
    ap (λ k. rows_of s.triangle (take k samples)) (sym size) ∙ rows_front s.triangle samples in
    ap (λ (system : List Row). if s.carries_data then record_of 0 m (record { number = 0; place = no_place; grid = g; system = system }) ∷ [] else []) rows

-- the subcarriers from one on are that subcarrier and those behind it
pub symbol_next : (m : Modulation) (g : List Axes) (n : ℕ) (ss : List Subcarrier) (samples : List Sample) (k : ℕ) (s : Subcarrier)
    → k < length ss → s ≡ get_or ss k s → length s.triangle ≡ n
    → records_of_symbol m g n (drop k ss) samples
    ≡ records_on m g s (take n samples) ++ records_of_symbol m g n (drop (k + 1) ss) (drop n samples)
symbol_next m g n ss samples k s lt is size =
    let rest = records_of_symbol m g n (drop (k + 1) ss) (drop n samples) in
    ap (λ (xs : List Subcarrier). records_of_symbol m g n xs samples) (drop_more ss k s lt)
    ∙ (ap (λ (x : Subcarrier). records_on m g x samples ++ rest) (sym is)
    ∙ ap (λ (x : List Record). x ++ rest) (sym (on_front m g s n samples size)))

-- the symbols from one on are that symbol and those behind it
pub symbols_next : (m : Modulation) (g : List Axes) (n left less : ℕ) (ss : List Subcarrier) (samples : List Sample) → left ≡ suc less
    → records_of_symbols m g n left ss samples
    ≡ records_of_symbol m g n ss (take (length ss * n) samples) ++ records_of_symbols m g n less ss (drop (length ss * n) samples)
symbols_next m g n left less ss samples is = ap (λ k. records_of_symbols m g n k ss samples) is

-- as many samples as are left
pub one_less : (now before n k width : ℕ) → k < n → now + width ≡ before → before ≡ (n - k) * width → now ≡ (n - (k + 1)) * width
one_less now before n k width lt is all =
    let step : n - k ≡ suc (n - (k + 1)) = omega arith in
    let times : (n - k) * width ≡ (n - (k + 1)) * width + width = ap (λ j. j * width) step ∙ suc-mul (n - (k + 1)) width in
    omega (arith, is, all, times)

-- the present subcarriers from one on
pub presents_next : (rate : Rate) (left less carrier erased : ℕ) (triangles : List (List Leg)) → left ≡ suc less
    → map (subcarrier_of rate) (presents left carrier erased triangles)
    ≡ map (subcarrier_of rate) (seen (is_erased erased carrier) carrier triangles)
    ++ map (subcarrier_of rate) (presents less (carrier + 1) erased (triangles_behind (is_erased erased carrier) triangles))
presents_next rate left less carrier erased triangles is =
    ap (λ k. map (subcarrier_of rate) (presents k carrier erased triangles)) is
    ∙ map-append (subcarrier_of rate) (seen (is_erased erased carrier) carrier triangles) _

-- the octets of what is left are those of one more and of the others
pub symbol_left : (m same : Modulation) (g : List Axes) (n : ℕ) (ss : List Subcarrier) (rest now later : List Sample) (k : ℕ) (s : Subcarrier)
    → k < length ss → s ≡ get_or ss k s → length s.triangle ≡ n → same ≡ m → now ≡ take n rest → later ≡ drop n rest
    → flat_map record_octets (records_of_symbol m g n (drop k ss) rest)
    ≡ flat_map record_octets (records_on same g s now) ++ flat_map record_octets (records_of_symbol m g n (drop (k + 1) ss) later)
symbol_left m same g n ss rest now later k s lt is size em en el =
    ap (flat_map record_octets) (symbol_next m g n ss rest k s lt is size
    ∙ (ap (λ (x : Modulation). records_on x g s (take n rest) ++ records_of_symbol m g n (drop (k + 1) ss) (drop n rest)) (sym em)
    ∙ (ap (λ (xs : List Sample). records_on same g s xs ++ records_of_symbol m g n (drop (k + 1) ss) (drop n rest)) (sym en)
    ∙ ap (λ (xs : List Sample). records_on same g s now ++ records_of_symbol m g n (drop (k + 1) ss) xs) (sym el))))
    ∙ flat_map-append record_octets (records_on same g s now) (records_of_symbol m g n (drop (k + 1) ss) later)

pub symbols_left : (m same : Modulation) (g : List Axes) (n left less width : ℕ) (ss : List Subcarrier) (rest now later : List Sample)
    → left ≡ suc less → same ≡ m → width ≡ length ss * n → now ≡ take width rest → later ≡ drop width rest
    → flat_map record_octets (records_of_symbols m g n left ss rest)
    ≡ flat_map record_octets (records_of_symbol same g n ss now) ++ flat_map record_octets (records_of_symbols m g n less ss later)
symbols_left m same g n left less width ss rest now later is em ew en el =
    let front : now ≡ take (length ss * n) rest = en ∙ ap (λ w. take w rest) ew in
    let back : later ≡ drop (length ss * n) rest = el ∙ ap (λ w. drop w rest) ew in
    ap (flat_map record_octets) (symbols_next m g n left less ss rest is
    ∙ (ap (λ (x : Modulation). records_of_symbol x g n ss (take (length ss * n) rest) ++ records_of_symbols m g n less ss (drop (length ss * n) rest)) (sym em)
    ∙ (ap (λ (xs : List Sample). records_of_symbol same g n ss xs ++ records_of_symbols m g n less ss (drop (length ss * n) rest)) (sym front)
    ∙ ap (λ (xs : List Sample). records_of_symbol same g n ss now ++ records_of_symbols m g n less ss xs) (sym back))))
    ∙ flat_map-append record_octets (records_of_symbol same g n ss now) (records_of_symbols m g n less ss later)

pub frames_left : (fs : List CaptureFrame) (k : ℕ) (f : CaptureFrame) → k < length fs → f ≡ get_or fs k f
    → flat_map record_octets (records_of_frames (drop k fs))
    ≡ flat_map record_octets (records_of_frame f) ++ flat_map record_octets (records_of_frames (drop (k + 1) fs))
frames_left fs k f lt is =
    ap (λ (xs : List CaptureFrame). flat_map record_octets (records_of_frames xs)) (drop_more fs k f lt)
    ∙ (ap (λ (x : CaptureFrame). flat_map record_octets (records_of_frame x ++ records_of_frames (drop (k + 1) fs))) (sym is)
    ∙ flat_map-append record_octets (records_of_frame f) (records_of_frames (drop (k + 1) fs)))

-- a subcarrier that carries data has one record
pub on_data : (m : Modulation) (g : List Axes) (s : Subcarrier) (samples : List Sample) (r : Record) → s.carries_data ≡ true
    → r ≡ record_of 0 m (job_on g s.triangle samples) → record_octets r ≡ flat_map record_octets (records_on m g s samples)
on_data m g s samples r is same =
    let one : List Record = record_of 0 m (job_on g s.triangle samples) ∷ [] in
    let none : List Record = [] in
    ap record_octets same ∙ (sym (append-nil (record_octets (record_of 0 m (job_on g s.triangle samples))))
    ∙ ap (flat_map record_octets) (sym (cond-true s.carries_data one none is)))

-- a carrier more was looked at
pub listed_next : (rate : Rate) (old new all : List Subcarrier) (b : Bool) (left less k erased : ℕ) (ts behind : List (List Leg))
    → left ≡ suc less → b ≡ is_erased erased k → new ≡ old ++ map (subcarrier_of rate) (seen b k ts) → behind ≡ triangles_behind b ts
    → old ++ map (subcarrier_of rate) (presents left k erased ts) ≡ all
    → new ++ map (subcarrier_of rate) (presents less (k + 1) erased behind) ≡ all
listed_next rate old new all b left less k erased ts behind step eb en eh h =
    let here = map (subcarrier_of rate) (seen (is_erased erased k) k ts) in
    let rest = map (subcarrier_of rate) (presents less (k + 1) erased (triangles_behind (is_erased erased k) ts)) in
    let e1 : new ≡ old ++ here = en ∙ ap (λ (x : Bool). old ++ map (subcarrier_of rate) (seen x k ts)) eb in
    let e2 : behind ≡ triangles_behind (is_erased erased k) ts = eh ∙ ap (λ (x : Bool). triangles_behind x ts) eb in
    ap (λ (zs : List (List Leg)). new ++ map (subcarrier_of rate) (presents less (k + 1) erased zs)) e2
    ∙ (ap (λ (ys : List Subcarrier). ys ++ rest) e1 ∙ (append_assoc old here rest
    ∙ (ap (λ (z : List Subcarrier). old ++ z) (sym (presents_next rate left less k erased ts step)) ∙ h)))

pub behind_left : (b : Bool) (left less k erased : ℕ) (ts behind : List (List Leg)) → left ≡ suc less → b ≡ is_erased erased k
    → behind ≡ triangles_behind b ts → length ts ≡ present_among left k erased → length behind ≡ present_among less (k + 1) erased
behind_left b left less k erased ts behind step eb eh h =
    ap (λ (zs : List (List Leg)). length zs) (eh ∙ ap (λ (x : Bool). triangles_behind x ts) eb) ∙ left_next left less k erased ts step h

-- all carriers were looked at
pub listed_over : (rate : Rate) (old all : List Subcarrier) (left k erased : ℕ) (ts : List (List Leg)) → left ≡ 0
    → old ++ map (subcarrier_of rate) (presents left k erased ts) ≡ all → old ≡ all
listed_over rate old all left k erased ts none h =
    sym (append-nil old) ∙ (ap (λ n. old ++ map (subcarrier_of rate) (presents n k erased ts)) (sym none) ∙ h)
