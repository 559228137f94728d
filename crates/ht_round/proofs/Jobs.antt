-- The jobs of a frame that was received exactly: each is detected as the vector that was sent, at distance 0.
use Rattle.std.proofs.Common.{◌≡◌, ℕ, zero, suc, ◌+◌, ◌*◌, ◌<◌, ◌≤◌, List, [], ◌∷◌, ◌++◌, length, take, drop, map, Bool, true}
use Rattle.std.proofs.Common.{IsTrue, refl, sym, ap, subst, ◌∙◌, append_assoc, rules, arith}
use Rattle.std.specs.List.{AllByRecursion}
use Rattle.std.proofs.lemmas.List.{append-nil, drop-map, drop_at, map-append, take-map, take_at}
use Rattle.ht_rate.specs.declared.rates.Rate.{Rate}
use Rattle.ht_rate.specs.Rates.{carriers_of, streams_of, symbols_of}
use Rattle.ht_pam.specs.declared.point.Point.{Point}
use Rattle.ht_metric.specs.declared.complex.Complex.{Complex}
use Rattle.ht_metric.specs.declared.place.Place.{Place}
use Rattle.ht_metric.specs.declared.sample.Sample.{Sample}
use Rattle.ht_metric.proofs.RowLemmas.{length-rows_of}
use Rattle.ht_metric.specs.Distance.{received}
use Rattle.ht_metric.specs.Jobs.{JobView, near}
use Rattle.ht_metric.specs.declared.found.Found.{Found}
use Rattle.ht_metric.specs.Rows.{Leg}
use Rattle.ht_metric.specs.Vectors.{is_in}
use Rattle.ht_metric.proofs.Noiseless.{noiseless_found}
use Rattle.ht_capture.specs.declared.items.FrameHead.{FrameHead}
use Rattle.ht_capture.specs.declared.items.Item.{Item}
use Rattle.ht_capture.specs.declared.items.Item.TheVariants.{Job}
use Rattle.ht_capture.specs.declared.places.Present.{Present}
use Rattle.ht_capture.specs.Contents.{frame_jobs, job_of, presents, seen, symbol_jobs}
use Rattle.ht_capture.specs.Files.{triangles_behind}
use Rattle.ht_capture.specs.Frames.{grid_at}
use Rattle.ht_capture.proofs.Routes.{none_erased}
use Rattle.ht_capture_laws.proofs.Lists.{all_append}
use Rattle.ht_tx.specs.Symbols.{IsSymbols}
use Rattle.ht_sim.specs.Channel.{mixed}
use Rattle.ht_round.specs.Exact.{HasFullDiagonal}
use Rattle.ht_round.proofs.Points.{in_grid, length-grid, length-vector, vector_at}
use Rattle.ht_sim.proofs.Shapes.{length-mixed}
use Rattle.ht_round.proofs.Mixed.{HaveRows, length-symbol, noiseless_rows, regular_rows, symbol_from, symbols_from}

-- all subcarriers from one on, with their triangles
abbrev pub numbered : ℕ → List (List Leg) → List Present
numbered carrier [] = []
numbered carrier (t ∷ ts) = record { carrier = carrier; triangle = t } ∷ numbered (carrier + 1) ts

pub length-numbered : (carrier : ℕ) (ts : List (List Leg)) → length (numbered carrier ts) ≡ length ts
length-numbered carrier [] = refl
length-numbered carrier (t ∷ ts) = ap suc (length-numbered (carrier + 1) ts)

pub all_presents : (carrier : ℕ) (ts : List (List Leg)) → presents (length ts) carrier 0 ts ≡ numbered carrier ts
all_presents carrier [] = refl
all_presents carrier (t ∷ ts) =
    ap (λ (b : Bool). seen b carrier (t ∷ ts) ++ presents (length ts) (carrier + 1) 0 (triangles_behind b (t ∷ ts))) (none_erased carrier)
    ∙ ap (λ (z : List Present). record { carrier = carrier; triangle = t } ∷ z) (all_presents (carrier + 1) ts)

-- the jobs of a symbol, and of a number of symbols
abbrev pub symbol_views : FrameHead → ℕ → ℕ → List Present → List Sample → List JobView
symbol_views head symbol number [] samples = []
symbol_views head symbol number (p ∷ ps) samples =
    job_of head symbol number p samples ∷ symbol_views head symbol (number + 1) ps (drop (streams_of head.rate) samples)

abbrev pub frame_views : ℕ → FrameHead → ℕ → ℕ → List Present → List Sample → List JobView
frame_views zero head symbol number present samples = []
frame_views (suc n) head symbol number present samples =
    symbol_views head symbol number present (take (length present * streams_of head.rate) samples)
    ++ frame_views n head (symbol + 1) (number + length present) present (drop (length present * streams_of head.rate) samples)

symbol_items : (head : FrameHead) (symbol number : ℕ) (present : List Present) (samples : List Sample)
    → symbol_jobs head symbol number present samples ≡ map Job (symbol_views head symbol number present samples)
symbol_items head symbol number [] samples = refl
symbol_items head symbol number (p ∷ ps) samples =
    ap (λ (z : List Item). Job (job_of head symbol number p samples) ∷ z) (symbol_items head symbol (number + 1) ps (drop (streams_of head.rate) samples))

pub frame_items : (n : ℕ) (head : FrameHead) (symbol number : ℕ) (present : List Present) (samples : List Sample)
    → frame_jobs n head symbol number present samples ≡ map Job (frame_views n head symbol number present samples)
frame_items zero head symbol number present samples = refl
frame_items (suc n) head symbol number present samples =
    let w : ℕ = length present * streams_of head.rate in
    let here : List JobView = symbol_views head symbol number present (take w samples) in
    let rest : List JobView = frame_views n head (symbol + 1) (number + length present) present (drop w samples) in
    ap (λ (z : List Item). z ++ frame_jobs n head (symbol + 1) (number + length present) present (drop w samples))
    (symbol_items head symbol number present (take w samples))
    ∙ (ap (λ (z : List Item). map Job here ++ z) (frame_items n head (symbol + 1) (number + length present) present (drop w samples))
    ∙ sym (map-append Job here rest))

-- the vector that was sent on a place, at distance 0
abbrev pub sent_found : Rate → List Point → Place → Found
sent_found r points place = record { vector = vector_at r points place.symbol place.carrier; distance = 0 }

abbrev pub IsFound : Rate → List Point → JobView → Type 0
IsFound r points job = near job ≡ sent_found r points job.place

-- one job
true-IsTrue : (b : Bool) → b ≡ true → IsTrue b
true-IsTrue b e = subst IsTrue (sym e) (search rules)

job_found : (head : FrameHead) (octets : ℕ) (points : List Point) (symbol number carrier : ℕ) (t : List Leg) (samples : List Sample) (rest : List Complex)
    → IsSymbols head.rate octets points → symbol < symbols_of head.rate octets → carrier < carriers_of head.rate
    → length t ≡ streams_of head.rate → HasFullDiagonal t
    → map received samples ≡ mixed t (vector_at head.rate points symbol carrier) ++ rest
    → IsFound head.rate points (job_of head symbol number (record { carrier = carrier; triangle = t }) samples)
job_found head octets points symbol number carrier t samples rest are ls lc rows full is =
    let r : Rate = head.rate in
    let job : JobView = job_of head symbol number (record { carrier = carrier; triangle = t }) samples in
    let xs : List Point = vector_at r points symbol carrier in
    let long : length xs ≡ streams_of r = length-vector r octets points symbol carrier are ls lc in
    noiseless_found job xs (length-grid r symbol carrier ∙ (sym rows ∙ sym (length-rows_of t samples)))
    (regular_rows t samples full) (noiseless_rows t samples xs rest (long ∙ sym rows) is)
    (true-IsTrue (is_in (grid_at r symbol carrier) xs) (in_grid r octets points symbol carrier are ls lc))

-- the jobs of a symbol, from a subcarrier on
symbol_found : (head : FrameHead) (octets : ℕ) (points : List Point) (symbol number carrier : ℕ) (ts : List (List Leg)) (samples : List Sample)
    (rest : List Complex) → IsSymbols head.rate octets points → symbol < symbols_of head.rate octets → carrier + length ts ≤ carriers_of head.rate
    → HaveRows (streams_of head.rate) ts → AllByRecursion HasFullDiagonal ts
    → map received samples ≡ symbol_from (streams_of head.rate) (symbol * carriers_of head.rate + carrier) ts points ++ rest
    → AllByRecursion (IsFound head.rate points) (symbol_views head symbol number (numbered carrier ts) samples)
symbol_found head octets points symbol number carrier [] samples rest are ls lc rows full is = tt
symbol_found head octets points symbol number carrier (t ∷ ts) samples rest are ls lc rows full is =
    let r : Rate = head.rate in
    let place : ℕ = symbol * carriers_of r + carrier in
    let next : place + 1 ≡ symbol * carriers_of r + (carrier + 1) = omega arith in
    let here : List Complex = mixed t (vector_at r points symbol carrier) in
    let later : List Complex = symbol_from (streams_of r) (symbol * carriers_of r + (carrier + 1)) ts points in
    let long : length here ≡ streams_of r = length-mixed t (vector_at r points symbol carrier) ∙ rows.0 in
    let split : map received samples ≡ here ++ (later ++ rest) =
    is ∙ (append_assoc here (symbol_from (streams_of r) (place + 1) ts points) rest
    ∙ ap (λ (k : ℕ). here ++ (symbol_from (streams_of r) k ts points ++ rest)) next) in
    let behind : map received (drop (streams_of r) samples) ≡ later ++ rest =
    sym (drop-map received (streams_of r) samples)
    ∙ (ap (λ (cs : List Complex). drop (streams_of r) cs) split ∙ drop_at here (later ++ rest) (streams_of r) long) in (
      job_found head octets points symbol number carrier t samples (later ++ rest) are ls (omega (arith, lc)) rows.0 full.0 split,
      symbol_found head octets points symbol (number + 1) (carrier + 1) ts (drop (streams_of r) samples) rest are ls (omega (arith, lc)) rows.1 full.1 behind,
    )

-- the jobs of a number of symbols from one on
pub frame_found : (n : ℕ) (head : FrameHead) (octets : ℕ) (points : List Point) (symbol number : ℕ) (ts : List (List Leg)) (samples : List Sample)
    → IsSymbols head.rate octets points → symbol + n ≤ symbols_of head.rate octets → length ts ≡ carriers_of head.rate
    → HaveRows (streams_of head.rate) ts → AllByRecursion HasFullDiagonal ts
    → map received samples ≡ symbols_from n (streams_of head.rate) symbol ts points
    → AllByRecursion (IsFound head.rate points) (frame_views n head symbol number (numbered 0 ts) samples)
frame_found zero head octets points symbol number ts samples are ls count rows full is = tt
frame_found (suc n) head octets points symbol number ts samples are ls count rows full is =
    let r : Rate = head.rate in
    let w : ℕ = length (numbered 0 ts) * streams_of r in
    let here : List Complex = symbol_from (streams_of r) (symbol * length ts) ts points in
    let later : List Complex = symbols_from n (streams_of r) (symbol + 1) ts points in
    let wide : length here ≡ w =
    length-symbol (streams_of r) (symbol * length ts) ts points rows ∙ ap (λ (k : ℕ). k * streams_of r) (sym (length-numbered 0 ts)) in
    let place : symbol * length ts ≡ symbol * carriers_of r + 0 = ap (λ (k : ℕ). symbol * k) count ∙ omega arith in
    let first : map received (take w samples) ≡ symbol_from (streams_of r) (symbol * carriers_of r + 0) ts points ++ [] =
    sym (take-map received w samples) ∙ (ap (λ (cs : List Complex). take w cs) is ∙ (take_at here later w wide
    ∙ (ap (λ (k : ℕ). symbol_from (streams_of r) k ts points) place ∙ sym (append-nil (symbol_from (streams_of r) (symbol * carriers_of r + 0) ts points))))) in
    let behind : map received (drop w samples) ≡ later =
    sym (drop-map received w samples) ∙ (ap (λ (cs : List Complex). drop w cs) is ∙ drop_at here later w wide) in
    all_append (IsFound r points) (symbol_views head symbol number (numbered 0 ts) (take w samples))
    (frame_views n head (symbol + 1) (number + length (numbered 0 ts)) (numbered 0 ts) (drop w samples))
    (symbol_found head octets points symbol number 0 ts (take w samples) [] are (omega (arith, ls)) (omega (arith, count)) rows full first)
    (frame_found n head octets points (symbol + 1) (number + length (numbered 0 ts)) ts (drop w samples) are (omega (arith, ls)) count rows full behind)
