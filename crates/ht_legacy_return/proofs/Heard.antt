-- The jobs of a frame that was received exactly: each is detected as it was sent, at distance 0.
use Rattle.std.proofs.Common.{◌≡◌, ℕ, zero, suc, ◌+◌, ◌*◌, ◌%◌, ◌<◌, ◌^◌, ℤ, pos, negsuc, ◌+ℤ◌, unsigned_abs, List, [], ◌∷◌, ◌++◌}
use Rattle.std.proofs.Common.{length, take, drop, get_or, Bool, true, false, ◌&&◌, IsTrue, refl, sym, ap, subst, ◌∙◌, arith, rules}
use Rattle.std.specs.List.{AllByRecursion, range_with_len}
use Rattle.std.proofs.lemmas.Bool.{and_from}
use Rattle.std.proofs.lemmas.Int.{ints}
use Rattle.std.proofs.lemmas.List.{get_or-drop, get_or-map, get_or-take, length-map}
use Rattle.std.proofs.lemmas.List.Elements.{All-cons, All-get_or, All-nil}
use Rattle.std.proofs.lemmas.Nat.{mod-mul-add}
use Rattle.std.proofs.Common.{Option, is_some}
use Rattle.ht_rate.specs.declared.kinds.Carrier.{Carrier}
use Rattle.ht_rate.specs.declared.kinds.Carrier.TheVariants.{Data, Pilot}
use Rattle.ht_rate.specs.Schemes.{bits_of}
use Rattle.ht_pam.specs.declared.point.Point.{Point}
use Rattle.ht_pam.specs.Ladders.{has}
use Rattle.ht_map.specs.Gray.{point_of}
use Rattle.ht_map.proofs.LabelFacts.{is_some-label_of, label_of-point_of}
use Rattle.ht_metric.specs.declared.complex.Complex.{Complex}
use Rattle.ht_metric.specs.declared.sample.Sample.{Sample}
use Rattle.ht_metric.specs.Distance.{received, scaled}
use Rattle.ht_metric.specs.Jobs.{JobView, near}
use Rattle.ht_metric.specs.Rows.{Row, no_sample}
use Rattle.ht_metric.specs.Vectors.{is_in, no_point}
use Rattle.ht_metric.proofs.Noiseless.{noiseless_found}
use Rattle.ht_capture.specs.Frames.{one_point}
use Rattle.ht_capture_laws.proofs.Lists.{all_append, all_map, all_range}
use Rattle.ht_clause18.specs.declared.rates.LegacyRate.{LegacyRate}
use Rattle.ht_clause18.specs.Carriers.{carriers, carrier_of}
use Rattle.ht_clause18.specs.Coded.{symbol_bits}
use Rattle.ht_clause18.specs.Frames.{LegacyFrameView}
use Rattle.ht_clause18.specs.Interleaver.{interleaved}
use Rattle.ht_clause18.specs.Pilots.{pilot_of}
use Rattle.ht_clause18.specs.Points.{carried, label_at, points_of, sent_points}
use Rattle.ht_clause18.specs.Rates.{label_bits_of, modulation_of, symbols_of}
use Rattle.ht_data.proofs.Written.{written-below}
use Rattle.ht_clause18.proofs.RateFacts.{label_bits_of-is}
use Rattle.ht_clause18.proofs.Sent.{length-sent_points, sent_points-at}
use Rattle.ht_legacy_files.specs.CaptureFiles.{LegacyCapture}
use Rattle.ht_legacy_sim.specs.Drawing.{exact_from}
use Rattle.ht_legacy_blocks.specs.Frames.{Course, behind_symbol, symbol_at}
use Rattle.ht_legacy_blocks.specs.Jobs.{SymbolView, axes_for, grid_at, job_of, jobs_between, jobs_of}
use Rattle.ht_legacy_return.specs.Exact.{IsExact}
use Rattle.ht_legacy_return.proofs.Captured.{length-exact}
use Rattle.ht_legacy_return.proofs.Small.{abs-pilot}

-- what is sent on a subcarrier of a symbol
abbrev pub sent_at : LegacyFrameView → ℕ → ℕ → Point
sent_at f symbol carrier = carried f.rate (interleaved f.rate (symbol_bits f symbol)) symbol (carrier_of carrier)

-- a job that is detected as it was sent
abbrev pub IsFound : LegacyFrameView → JobView → Type 0
IsFound f job = near job ≡ record { vector = sent_at f job.place.symbol job.place.carrier ∷ []; distance = 0 }

-- what is sent lies in the grid
pub label-small : (r : LegacyRate) (places : List Bool) (m : ℕ) → label_at r places m < 2 ^ bits_of (modulation_of r)
unfolding label_at
label-small r places m =
    subst (λ (n : ℕ). label_at r places m < 2 ^ n) (label_bits_of-is r)
    (written-below (λ e. get_or places (m * label_bits_of r + e) false) (label_bits_of r))

on_one : (v : ℤ) → unsigned_abs v ≡ 1 → (has (one_point v).i v && has (one_point v).q (pos 0)) ≡ true
on_one (pos zero) e = absurd (omega (arith, e))
on_one (pos (suc zero)) e = refl
on_one (pos (suc (suc n))) e = absurd (omega (arith, e))
on_one (negsuc zero) e = refl
on_one (negsuc (suc n)) e = absurd (omega (arith, e))

on_axes : (r : LegacyRate) (places : List Bool) (symbol : ℕ) (c : Carrier)
    → (has (axes_for r symbol c).i (carried r places symbol c).i && has (axes_for r symbol c).q (carried r places symbol c).q) ≡ true
on_axes r places symbol (Data m) =
    let label : ℕ = label_at r places m in
    sym (is_some-label_of (modulation_of r) (point_of (modulation_of r) label))
    ∙ ap (λ (o : Option ℕ). is_some o) (label_of-point_of (modulation_of r) label (label-small r places m))
on_axes r places symbol (Pilot k) = on_one (pilot_of symbol k) (abs-pilot symbol k)

true-IsTrue : (b : Bool) → b ≡ true → IsTrue b
true-IsTrue b e = subst IsTrue (sym e) (search rules)

in_grid : (f : LegacyFrameView) (r : LegacyRate) (symbol carrier : ℕ) → r ≡ f.rate → IsTrue (is_in (grid_at r symbol carrier) (sent_at f symbol carrier ∷ []))
unfolding grid_at
in_grid f r symbol carrier is =
    let x : Point = sent_at f symbol carrier in
    subst (λ (q : LegacyRate). IsTrue (is_in (axes_for q symbol (carrier_of carrier) ∷ []) (x ∷ []))) (sym is)
    (true-IsTrue (is_in (axes_for f.rate symbol (carrier_of carrier) ∷ []) (x ∷ []))
    (and_from (has (axes_for f.rate symbol (carrier_of carrier)).i x.i && has (axes_for f.rate symbol (carrier_of carrier)).q x.q) true
    (on_axes f.rate (interleaved f.rate (symbol_bits f symbol)) symbol (carrier_of carrier)) refl))

-- nothing stands to the right of a diagonal
add_none : (a : ℤ) → a +ℤ pos 0 ≡ a
add_none a = omega (arith, ints)

alone : (c : Complex) → record { re = c.re +ℤ pos 0; im = c.im +ℤ pos 0 } ≡ c
alone c =
    let made : ℤ → ℤ → Complex = λ re im. record { re = re; im = im } in
    ap (λ (v : ℤ). made v (c.im +ℤ pos 0)) (add_none c.re) ∙ ap (λ (v : ℤ). made c.re v) (add_none c.im)

-- one job
job_found : (f : LegacyFrameView) (s : SymbolView) (carrier : ℕ) → s.head.rate ≡ f.rate → 0 < get_or s.diagonals carrier 0
    → received (get_or s.samples carrier no_sample) ≡ scaled (get_or s.diagonals carrier 0) (sent_at f s.symbol carrier) → IsFound f (job_of s carrier)
unfolding job_of grid_at
job_found f s carrier rate some is =
    let x : Point = sent_at f s.symbol carrier in
    let own : Complex = scaled (get_or s.diagonals carrier 0) x in
    noiseless_found (job_of s carrier) (x ∷ []) refl
    (All-cons (λ (row : Row). 0 < row.diagonal) (record { diagonal = get_or s.diagonals carrier 0; right = []; sample = get_or s.samples carrier no_sample }) []
    some (All-nil (λ (row : Row). 0 < row.diagonal)))
    (is ∙ sym (alone own), tt) (in_grid f s.head.rate s.symbol carrier rate)

-- what is heard of a number of symbols from one on
abbrev pub IsHeard : LegacyFrameView → List ℕ → ℕ → ℕ → List Sample → Type 0
IsHeard f ds symbol n samples =
    (j m : ℕ) → j < n → m < carriers → received (get_or samples (j * carriers + m) no_sample) ≡ scaled (get_or ds m 0) (sent_at f (symbol + j) m)

abbrev pub AreSome : List ℕ → Type 0
AreSome ds = (m : ℕ) → m < carriers → 0 < get_or ds m 0

-- the jobs of these symbols
abbrev pub symbol_views : ℕ → Course → List Sample → List JobView
symbol_views zero c samples = []
symbol_views (suc n) c samples = jobs_of (symbol_at c (take carriers samples)) ++ symbol_views n (behind_symbol c) (drop carriers samples)

symbol_found : (f : LegacyFrameView) (s : SymbolView) → s.head.rate ≡ f.rate → AreSome s.diagonals
    → ((m : ℕ) → m < carriers → received (get_or s.samples m no_sample) ≡ scaled (get_or s.diagonals m 0) (sent_at f s.symbol m))
    → AllByRecursion (IsFound f) (jobs_of s)
unfolding jobs_between
symbol_found f s rate some heard =
    all_map (IsFound f) (job_of s) (range_with_len 0 carriers)
    (all_range (λ carrier. IsFound f (job_of s carrier)) 0 carriers
    (λ carrier lt. let low : carrier < carriers = omega (arith, lt) in job_found f s carrier rate (some carrier low) (heard carrier low)))

pub frame_found : (n : ℕ) (f : LegacyFrameView) (c : Course) (samples : List Sample) → c.head.rate ≡ f.rate → AreSome c.diagonals
    → IsHeard f c.diagonals c.symbol n samples → AllByRecursion (IsFound f) (symbol_views n c samples)
frame_found zero f c samples rate some heard = tt
frame_found (suc n) f c samples rate some heard =
    let first : (m : ℕ) → m < carriers
    → received (get_or (take carriers samples) m no_sample) ≡ scaled (get_or c.diagonals m 0) (sent_at f c.symbol m) = λ m lt.
    let place : m ≡ 0 * carriers + m = omega arith in
    let same : c.symbol + 0 ≡ c.symbol = omega arith in
    ap received (get_or-take carriers samples m no_sample lt ∙ ap (λ (k : ℕ). get_or samples k no_sample) place)
    ∙ (heard 0 m (omega arith) lt ∙ ap (λ (k : ℕ). scaled (get_or c.diagonals m 0) (sent_at f k m)) same) in
    let later : IsHeard f c.diagonals (c.symbol + 1) n (drop carriers samples) = λ j m lj lm.
    let place : carriers + (j * carriers + m) ≡ suc j * carriers + m = omega arith in
    let same : c.symbol + suc j ≡ c.symbol + 1 + j = omega arith in
    ap received (get_or-drop carriers samples (j * carriers + m) no_sample ∙ ap (λ (k : ℕ). get_or samples k no_sample) place)
    ∙ (heard (suc j) m (omega (arith, lj)) lm ∙ ap (λ (k : ℕ). scaled (get_or c.diagonals m 0) (sent_at f k m)) same) in
    all_append (IsFound f) (jobs_of (symbol_at c (take carriers samples))) (symbol_views n (behind_symbol c) (drop carriers samples))
    (symbol_found f (symbol_at c (take carriers samples)) rate some first)
    (frame_found n f (behind_symbol c) (drop carriers samples) rate some later)

-- a sample that was received exactly
exact-at : (ds : List ℕ) (place : ℕ) (points : List Point) (k : ℕ) (d : Complex) → k < length points
    → get_or (exact_from ds place points) k d ≡ scaled (get_or ds ((place + k) % carriers) 0) (get_or points k no_point)
exact-at ds place [] k d lt = absurd (omega (arith, lt))
exact-at ds place (x ∷ xs) zero d lt =
    let same : place ≡ place + 0 = omega arith in
    ap (λ (n : ℕ). scaled (get_or ds (n % carriers) 0) x) same
exact-at ds place (x ∷ xs) (suc k) d lt =
    let same : place + 1 + k ≡ place + suc k = omega arith in
    exact-at ds (place + 1) xs k d (omega (arith, lt)) ∙ ap (λ (n : ℕ). scaled (get_or ds (n % carriers) 0) (get_or xs k no_point)) same

pub frame_heard : (f : LegacyFrameView) (c : LegacyCapture) → IsExact f c → IsHeard f c.head.diagonals 0 (symbols_of f.rate (length f.octets)) c.samples
unfolding points_of
frame_heard f c exact j m lj lm =
    let n : ℕ = symbols_of f.rate (length f.octets) in
    let ds : List ℕ = c.head.diagonals in
    let none : Complex = received no_sample in
    let k : ℕ = j * carriers + m in
    let all : length (sent_points f) ≡ n * carriers = length-sent_points f in
    let size : length c.samples ≡ length (sent_points f) =
    sym (length-map c.samples received) ∙ (ap length exact.samples ∙ length-exact ds 0 (sent_points f)) in
    let low : k < n * carriers = omega (arith, lj, lm) in
    let point : get_or (sent_points f) k no_point ≡ sent_at f j m = sent_points-at f j m no_point lj lm in
    let start : 0 + k ≡ k = omega arith in
    let place : (0 + k) % carriers ≡ m = ap (λ (i : ℕ). i % carriers) start ∙ mod-mul-add j carriers m lm in
    let same : j ≡ 0 + j = omega arith in
    sym (get_or-map received c.samples k no_sample none (omega (arith, low, all, size)))
    ∙ (ap (λ (cs : List Complex). get_or cs k none) exact.samples
    ∙ (exact-at ds 0 (sent_points f) k none (omega (arith, low, all))
    ∙ (ap (λ (i : ℕ). scaled (get_or ds i 0) (get_or (sent_points f) k no_point)) place
    ∙ (ap (λ (x : Point). scaled (get_or ds m 0) x) point ∙ ap (λ (i : ℕ). scaled (get_or ds m 0) (sent_at f i m)) same))))

pub frame_some : (f : LegacyFrameView) (c : LegacyCapture) → IsExact f c → AreSome c.head.diagonals
frame_some f c exact m lt =
    let count = exact.count in
    All-get_or (λ d. 0 < d) c.head.diagonals m 0 (omega (arith, lt, count)) exact.some
