-- The labels of a frame whose jobs are detected as they were sent are those that the frame gives.
use Rattle.std.proofs.Common.{◌≡◌, inl, inr, ℕ, zero, suc, ◌+◌, ◌*◌, ◌<◌, ◌≤◌, List, [], ◌∷◌, get_or, length, take, drop}
use Rattle.std.proofs.Common.{Bool, true, false, Option, None, Some, unwrap_or, if◌then◌else◌, refl, sym, ap, subst, ◌∙◌, arith}
use Rattle.std.specs.Cmp.Derive.{both_true}
use Rattle.std.specs.List.{AllByRecursion, find}
use Rattle.std.proofs.lemmas.Bool.{cases_Bool, cases_eq, eq-eqb}
use Rattle.std.proofs.lemmas.Bool.Decides.{nat_tests}
use Rattle.ht_rate.specs.declared.kinds.Carrier.{Carrier}
use Rattle.ht_rate.specs.declared.kinds.Modulation.{Modulation}
use Rattle.ht_map.proofs.LabelFacts.{label_of-point_of}
use Rattle.ht_metric.specs.declared.found.Found.{Found}
use Rattle.ht_metric.specs.declared.sample.Sample.{Sample}
use Rattle.ht_metric.specs.Jobs.{JobView, near}
use Rattle.ht_capture_laws.proofs.Lists.{length-flat}
use Rattle.ht_clause18.specs.Carriers.{carriers}
use Rattle.ht_clause18.specs.Coded.{symbol_bits}
use Rattle.ht_clause18.specs.Frames.{LegacyFrameView}
use Rattle.ht_clause18.specs.Interleaver.{interleaved}
use Rattle.ht_clause18.specs.Points.{carried, label_at}
use Rattle.ht_clause18.specs.Rates.{modulation_of, symbols_of}
use Rattle.ht_results.specs.Plans.{kept_at, kept_by_place, kept_in, kept_of, stands_at}
use Rattle.ht_results.proofs.Among.{Among, among_behind, among_front}
use Rattle.ht_results.proofs.Blocks.{block_at}
use Rattle.ht_results.proofs.Places.{stands}
use Rattle.ht_legacy_blocks.specs.declared.head.LegacyFrameHead.{LegacyFrameHead}
use Rattle.ht_legacy_blocks.specs.Frames.{Course, behind_symbol, symbol_at}
use Rattle.ht_legacy_blocks.specs.Jobs.{SymbolView, job_of, jobs_between, jobs_of}
use Rattle.ht_legacy_rx.specs.Results.{data_index, first_label, legacy_plan}
use Rattle.ht_legacy_rx.proofs.Indices.{indexed}
use Rattle.ht_legacy_return.proofs.Decoded.{AreLabelsOf}
use Rattle.ht_legacy_return.proofs.Heard.{IsFound, label-small, sent_at, symbol_views}

-- a job stands on a place
abbrev Has : ℕ → ℕ → List JobView → Type 0
Has symbol carrier jobs = Among (λ (job : JobView). stands_at symbol carrier job ≡ true) jobs

has_between : (s : SymbolView) (count first carrier : ℕ) → first ≤ carrier → carrier < first + count → Has s.symbol carrier (jobs_between s first count)
unfolding jobs_between job_of
has_between s zero first carrier le lt = absurd (omega (arith, le, lt))
has_between s (suc count) first carrier le lt = elim (cases_eq first carrier) [
  | inl same ↦ inl (both_true (eq-eqb s.symbol s.symbol refl) (eq-eqb first carrier same))
  | inr apart ↦ inr (has_between s count (first + 1) carrier (later first carrier le apart) (omega (arith, lt)))
]
  where
    later : (a b : ℕ) → a ≤ b → (a ≡ b → ⊥) → a + 1 ≤ b
    later a b le apart = omega (arith, le, apart)

has_frame : (n : ℕ) (c : Course) (samples : List Sample) (j m : ℕ) → j < n → m < carriers → Has (c.symbol + j) m (symbol_views n c samples)
has_frame zero c samples j m lj lm = absurd (omega (arith, lj))
has_frame (suc n) c samples zero m lj lm =
    let s : SymbolView = symbol_at c (take carriers samples) in
    let same : c.symbol ≡ c.symbol + 0 = omega arith in
    subst (λ (k : ℕ). Has k m (symbol_views (suc n) c samples)) same
    (among_front (λ (job : JobView). stands_at c.symbol m job ≡ true) (jobs_of s) (symbol_views n (behind_symbol c) (drop carriers samples))
    (has_between s carriers 0 m (omega arith) (omega (arith, lm))))
has_frame (suc n) c samples (suc j) m lj lm =
    let s : SymbolView = symbol_at c (take carriers samples) in
    let same : c.symbol + 1 + j ≡ c.symbol + suc j = omega arith in
    subst (λ (k : ℕ). Has k m (symbol_views (suc n) c samples)) same
    (among_behind (λ (job : JobView). stands_at (c.symbol + 1 + j) m job ≡ true) (jobs_of s) (symbol_views n (behind_symbol c) (drop carriers samples))
    (has_frame n (behind_symbol c) (drop carriers samples) j m (omega (arith, lj)) lm))

-- the job that stands on a place, and what was detected of it
record JobOn (f : LegacyFrameView) (symbol carrier : ℕ) (jobs : List JobView) : Type 0 where
  job : JobView
  is : find (stands_at symbol carrier) jobs ≡ Some job
  found : near job ≡ record { vector = sent_at f symbol carrier ∷ []; distance = 0 }

job_on : (f : LegacyFrameView) (symbol carrier : ℕ) (jobs : List JobView) → AllByRecursion (IsFound f) jobs → Has symbol carrier jobs
    → JobOn f symbol carrier jobs
job_on f symbol carrier [] all has = absurd has
job_on f symbol carrier (job ∷ jobs) all has =
    elim (cases_Bool (stands_at symbol carrier job)) [
      | inl here ↦
          let at = stands symbol carrier job here in
          let of_place : ℕ → ℕ → Found = λ s k. record { vector = sent_at f s k ∷ []; distance = 0 } in
          record {
            job = job;
            is = ap (λ (b : Bool). if b then Some job else find (stands_at symbol carrier) jobs) here;
            found = all.0 ∙ (ap (λ (s : ℕ). of_place s job.place.carrier) at.0 ∙ ap (λ (k : ℕ). of_place symbol k) at.1);
          }
      | inr off ↦
          let rest = job_on f symbol carrier jobs all.1 (behind symbol carrier job jobs off has) in
          record {
            job = rest.job;
            is = ap (λ (b : Bool). if b then Some job else find (stands_at symbol carrier) jobs) off ∙ rest.is;
            found = rest.found;
          }
    ]
  where
    both : true ≡ false → ⊥
    both e = cc

    behind : (symbol carrier : ℕ) (job : JobView) (jobs : List JobView) → stands_at symbol carrier job ≡ false → Has symbol carrier (job ∷ jobs)
        → Has symbol carrier jobs
    behind symbol carrier job jobs off (inl here) = absurd (both (sym here ∙ off))
    behind symbol carrier job jobs off (inr later) = later

-- a frame of these octets
abbrev pub head_for : ℕ → LegacyFrameView → LegacyFrameHead
head_for number f = record { frame = number; rate = f.rate; length = length f.octets }

-- its labels stand in the order symbol, data subcarrier
one_kept : (head : LegacyFrameHead) (o : Option JobView) → length (kept_of legacy_plan head o) ≡ 1
one_kept head None = refl
one_kept head (Some job) = refl

label_there : (head : LegacyFrameHead) (jobs : List JobView) (n m : ℕ) → n < symbols_of head.rate head.length → m < 48
    → get_or (kept_by_place legacy_plan head jobs) (n * 48 + m) 0 ≡ get_or (kept_at legacy_plan head jobs n m) 0 0
unfolding kept_by_place
label_there head jobs n m ln lm =
    let first : 0 + n ≡ n = omega arith in
    let second : 0 + m ≡ m = omega arith in
    let place : m ≡ m * 1 + 0 = omega arith in
    block_at (kept_in legacy_plan head jobs) 48 0 (symbols_of head.rate head.length) n m
    (λ i. length-flat (kept_at legacy_plan head jobs i) 1 0 48 (λ j. one_kept head (find (stands_at i (data_index j)) jobs)) ∙ omega arith) ln lm
    ∙ (ap (λ (i : ℕ). get_or (kept_in legacy_plan head jobs i) m 0) first
    ∙ (ap (λ (k : ℕ). get_or (kept_in legacy_plan head jobs n) k 0) place
    ∙ (block_at (kept_at legacy_plan head jobs n) 1 0 48 m 0 (λ j. one_kept head (find (stands_at n (data_index j)) jobs)) lm (omega arith)
    ∙ ap (λ (j : ℕ). get_or (kept_at legacy_plan head jobs n j) 0 0) second)))

-- the label of what was sent
label_sent : (f : LegacyFrameView) (n m : ℕ) → m < 48
    → first_label (modulation_of f.rate) (sent_at f n (data_index m) ∷ []) ≡ label_at f.rate (interleaved f.rate (symbol_bits f n)) m
label_sent f n m lm =
    let scheme : Modulation = modulation_of f.rate in
    let places : List Bool = interleaved f.rate (symbol_bits f n) in
    ap (λ (c : Carrier). first_label scheme (carried f.rate places n c ∷ [])) (indexed m lm)
    ∙ ap (λ (o : Option ℕ). unwrap_or o 0) (label_of-point_of scheme (label_at f.rate places m) (label-small f.rate places m))

pub are_labels : (number : ℕ) (f : LegacyFrameView) (c : Course) (samples : List Sample) → c.symbol ≡ 0
    → AllByRecursion (IsFound f) (symbol_views (symbols_of f.rate (length f.octets)) c samples)
    → AreLabelsOf f (kept_by_place legacy_plan (head_for number f) (symbol_views (symbols_of f.rate (length f.octets)) c samples))
are_labels number f c samples start found n m ln lm =
    let jobs : List JobView = symbol_views (symbols_of f.rate (length f.octets)) c samples in
    let scheme : Modulation = modulation_of f.rate in
    let index : ℕ = data_index m in
    let same : c.symbol + n ≡ n = omega (arith, start) in
    let has : Has n index jobs =
    subst (λ (k : ℕ). Has k index jobs) same (has_frame (symbols_of f.rate (length f.octets)) c samples n index ln (index_low m lm)) in
    let on : JobOn f n index jobs = job_on f n index jobs found has in
    label_there (head_for number f) jobs n m ln lm
    ∙ (ap (λ (o : Option JobView). get_or (kept_of legacy_plan (head_for number f) o) 0 0) on.is
    ∙ (ap (λ (z : Found). first_label scheme z.vector) on.found ∙ label_sent f n m lm))
  where
    index_low : (m : ℕ) → m < 48 → data_index m < carriers
    index_low m lm = grind (arith, nat_tests)
