-- The labels of a frame whose jobs are detected as they were sent are those that the frame gives.
use Rattle.std.proofs.Common.{◌≡◌, inl, inr, ℕ, zero, suc, ◌+◌, ◌-◌, ◌*◌, ◌<◌, ◌≤◌, List, [], ◌∷◌, get_or, length, map, not}
use Rattle.std.proofs.Common.{Bool, true, false, Option, Some, unwrap_or, if◌then◌else◌, refl, sym, ap, subst, ◌∙◌, arith}
use Rattle.std.specs.List.{AllByRecursion, filter, find, flat_map, range_with_len}
use Rattle.std.specs.Cmp.Derive.{both_true}
use Rattle.std.proofs.lemmas.Bool.{cases_Bool, cases_eq, eq-eqb}
use Rattle.std.proofs.lemmas.List.FromFn.{get_or-map-range_with_len, length-map-range_with_len}
use Rattle.std.proofs.Math.Nat.{add-mul, mul_assoc}
use Rattle.ht_rate.specs.declared.kinds.Carrier.{Carrier}
use Rattle.ht_rate.specs.declared.kinds.Carrier.TheVariants.{Data}
use Rattle.ht_rate.specs.declared.kinds.Modulation.{Modulation}
use Rattle.ht_rate.specs.declared.rates.Rate.{Rate}
use Rattle.ht_rate.specs.Carriers.{index_of}
use Rattle.ht_rate.specs.Rates.{carriers_of, data_carriers_of, label_bits_of, modulation_of, streams_of}
use Rattle.ht_rate.proofs.CarrierFacts.{carrier_of-index_of}
use Rattle.ht_pam.specs.declared.point.Point.{Point}
use Rattle.ht_map.specs.Gray.{label_of}
use Rattle.ht_map.proofs.LabelFacts.{label_of-point_of}
use Rattle.ht_metric.specs.declared.place.Place.{Place}
use Rattle.ht_metric.specs.Jobs.{JobView, near}
use Rattle.ht_metric.specs.declared.found.Found.{Found}
use Rattle.ht_metric.specs.Vectors.{no_point}
use Rattle.ht_capture.specs.declared.items.FrameHead.{FrameHead}
use Rattle.ht_capture.specs.Files.{is_erased}
use Rattle.ht_capture.proofs.Routes.{none_erased}
use Rattle.ht_capture_laws.specs.Items.{FrameJobs, IsWholeFrame, place_in, symbol_places, symbols_in}
use Rattle.ht_capture_laws.proofs.Lists.{length-flat}
use Rattle.ht_inverse.specs.Received.{label_number}
use Rattle.ht_tx.specs.Frames.{FrameView}
use Rattle.ht_tx.specs.Symbols.{SymbolsView, point_at}
use Rattle.ht_tx.specs.Transmitted.{Carries, IsLabelOf, IsPointOf, IsTransmitted}
use Rattle.ht_tx.proofs.Places.{pair-below}
use Rattle.ht_round.specs.Returns.{AreLabelsOf}
use Rattle.ht_results.specs.Labels.{carrier_labels, frame_label, frame_labels, label_in, stands_at, symbol_labels}
use Rattle.ht_results.proofs.Among.{Among, among_behind, among_front}
use Rattle.ht_results.proofs.Blocks.{block_at}
use Rattle.ht_results.proofs.Places.{stands}
use Rattle.ht_round.proofs.Jobs.{IsFound}
use Rattle.ht_round.proofs.Points.{stream_point, vector_at}

arranged : (row columns column w m : ℕ) → (row * columns + column) * w + m ≡ row * (columns * w) + (column * w + m)
arranged row columns column w m =
    let split = add-mul (row * columns) column w in
    let grouped = mul_assoc row columns w in
    omega (arith, split, grouped)

-- the labels of a frame stand in the order symbol, data subcarrier, stream
label_there : (g : FrameJobs) (symbol carrier stream : ℕ) → symbol < symbols_in g.head → carrier < data_carriers_of g.head.rate
    → 1 ≤ stream → stream ≤ streams_of g.head.rate
    → get_or (frame_labels g) (label_number g.head.rate symbol carrier stream) 0 ≡ frame_label g symbol carrier stream
unfolding frame_labels
label_there g symbol carrier stream ls lc low high =
    let r : Rate = g.head.rate in
    let w : ℕ = streams_of r in
    let d : ℕ = data_carriers_of r in
    let m : ℕ = stream - 1 in
    let lt : m < w = omega (arith, low, high) in
    let first : 0 + symbol ≡ symbol = omega arith in
    let second : 0 + carrier ≡ carrier = omega arith in
    let third : 1 + m ≡ stream = omega (arith, low) in
    ap (λ (k : ℕ). get_or (frame_labels g) k 0) (arranged symbol d carrier w m)
    ∙ (block_at (symbol_labels g) (d * w) 0 (symbols_in g.head) symbol (carrier * w + m)
    (λ i. length-flat (carrier_labels g i) w 0 d (λ j. length-map-range_with_len (frame_label g i j) 1 w)) ls (pair-below carrier m d w lc lt)
    ∙ (ap (λ (i : ℕ). get_or (symbol_labels g i) (carrier * w + m) 0) first
    ∙ (block_at (carrier_labels g symbol) w 0 d carrier m (λ j. length-map-range_with_len (frame_label g symbol j) 1 w) lc lt
    ∙ (ap (λ (j : ℕ). get_or (carrier_labels g symbol j) m 0) second
    ∙ get_or-map-range_with_len (frame_label g symbol carrier) 1 w m stream 0 lt third))))

-- a place is among others
abbrev IsPlaceOf : ℕ → ℕ → List Place → Type 0
IsPlaceOf symbol carrier ps = Among (λ (p : Place). (p.symbol ≡ symbol) × (p.carrier ≡ carrier)) ps

-- where no subcarrier is erased, each of them has a place in each symbol
among_carriers : (head : FrameHead) (symbol a n carrier : ℕ) → head.erased ≡ 0 → a ≤ carrier → carrier < a + n
    → IsPlaceOf symbol carrier (map (place_in head symbol) (filter (λ c. not (is_erased head.erased c)) (range_with_len a n)))
among_carriers head symbol a zero carrier all low high = absurd (omega (arith, low, high))
among_carriers head symbol a (suc n) carrier all low high =
    let rest : List ℕ = filter (λ c. not (is_erased head.erased c)) (range_with_len (a + 1) n) in
    let clear : is_erased head.erased a ≡ false = ap (λ (e : ℕ). is_erased e a) all ∙ none_erased a in
    let kept : a ∷ rest ≡ filter (λ c. not (is_erased head.erased c)) (range_with_len a (suc n)) =
    ap (λ (b : Bool). if not b then a ∷ rest else rest) (sym clear) in
    subst (λ (cs : List ℕ). IsPlaceOf symbol carrier (map (place_in head symbol) cs)) kept
    (elim (cases_eq a carrier) [
      | inl same ↦ inl (refl, same)
      | inr apart ↦ inr (among_carriers head symbol (a + 1) n carrier all
          (let next : a + 1 ≤ carrier = later a carrier low apart in next) (omega (arith, high)))
    ])
  where
    later : (a b : ℕ) → a ≤ b → (a ≡ b → ⊥) → a + 1 ≤ b
    later a b le apart = omega (arith, le, apart)

among_symbols : (head : FrameHead) (a n symbol carrier : ℕ) → head.erased ≡ 0 → carrier < carriers_of head.rate → a ≤ symbol → symbol < a + n
    → IsPlaceOf symbol carrier (flat_map (symbol_places head) (range_with_len a n))
among_symbols head a zero symbol carrier all lc low high = absurd (omega (arith, low, high))
among_symbols head a (suc n) symbol carrier all lc low high =
    let rest : List Place = flat_map (symbol_places head) (range_with_len (a + 1) n) in
    elim (cases_eq a symbol) [
      | inl same ↦
          among_front (λ (p : Place). (p.symbol ≡ symbol) × (p.carrier ≡ carrier)) (symbol_places head a) rest
          (subst (λ (s : ℕ). IsPlaceOf s carrier (symbol_places head a)) same
          (among_carriers head a 0 (carriers_of head.rate) carrier all (omega arith) (omega (arith, lc))))
      | inr apart ↦
          let next : a + 1 ≤ symbol = later a symbol low apart in
          among_behind (λ (p : Place). (p.symbol ≡ symbol) × (p.carrier ≡ carrier)) (symbol_places head a) rest
          (among_symbols head (a + 1) n symbol carrier all lc next (omega (arith, high)))
    ]
  where
    later : (a b : ℕ) → a ≤ b → (a ≡ b → ⊥) → a + 1 ≤ b
    later a b le apart = omega (arith, le, apart)

-- the job that stands on a place
record JobOn (P : JobView → Type 0) (symbol carrier : ℕ) (jobs : List JobView) : Type 0 where
  job : JobView
  is : find (stands_at symbol carrier) jobs ≡ Some job
  holds : P job
  on_symbol : job.place.symbol ≡ symbol
  on_carrier : job.place.carrier ≡ carrier

job_on : (P : JobView → Type 0) (symbol carrier : ℕ) (jobs : List JobView) → AllByRecursion P jobs
    → IsPlaceOf symbol carrier (map (λ (j : JobView). j.place) jobs) → JobOn P symbol carrier jobs
job_on P symbol carrier [] all there = absurd there
job_on P symbol carrier (job ∷ jobs) all there =
    elim (cases_Bool (stands_at symbol carrier job)) [
      | inl is_here ↦
          let at = stands symbol carrier job is_here in
          record {
            job = job;
            is = ap (λ (b : Bool). if b then Some job else find (stands_at symbol carrier) jobs) is_here;
            holds = all.0;
            on_symbol = at.0;
            on_carrier = at.1;
          }
      | inr not_here ↦
          let rest = job_on P symbol carrier jobs all.1 (behind symbol carrier job (map (λ (j : JobView). j.place) jobs) not_here there) in
          record {
            job = rest.job;
            is = ap (λ (b : Bool). if b then Some job else find (stands_at symbol carrier) jobs) not_here ∙ rest.is;
            holds = rest.holds;
            on_symbol = rest.on_symbol;
            on_carrier = rest.on_carrier;
          }
    ]
  where
    both : true ≡ false → ⊥
    both e = cc

    behind : (symbol carrier : ℕ) (job : JobView) (ps : List Place) → stands_at symbol carrier job ≡ false
        → IsPlaceOf symbol carrier (job.place ∷ ps) → IsPlaceOf symbol carrier ps
    behind symbol carrier job ps off (inl here) =
        absurd (both (sym (both_true (eq-eqb job.place.symbol symbol here.0) (eq-eqb job.place.carrier carrier here.1)) ∙ off))
    behind symbol carrier job ps off (inr later) = later

-- the point of a label
point-label : (f : FrameView) (symbol carrier stream : ℕ) (p : Point) (is : IsPointOf f symbol carrier stream p)
    → unwrap_or (label_of (modulation_of f.rate) p) 0 ≡ is.label
unfolding label_bits_of
point-label f symbol carrier stream p is =
    ap (λ (q : Point). unwrap_or (label_of (modulation_of f.rate) q) 0) is.mapped
    ∙ ap (λ (o : Option ℕ). unwrap_or o 0) (label_of-point_of (modulation_of f.rate) is.label is.landed.below)

-- a frame whose head is this one's
abbrev pub frame_of_jobs : ℕ → FrameView → List JobView → FrameJobs
frame_of_jobs number f jobs = record { head = record { frame = number; rate = f.rate; length = length f.octets; erased = 0 }; jobs = jobs }

-- a label as it was sent
label_is : (number : ℕ) (f : FrameView) (jobs : List JobView) (points : List Point) (symbol carrier stream : ℕ)
    → JobOn (IsFound f.rate points) symbol (index_of f.rate (Data carrier)) jobs → 1 ≤ stream → stream ≤ streams_of f.rate
    → IsPointOf f symbol carrier stream (point_at f.rate points symbol (index_of f.rate (Data carrier)) stream)
    → IsLabelOf f symbol carrier stream (frame_label (frame_of_jobs number f jobs) symbol carrier stream)
unfolding frame_label
label_is number f jobs points symbol carrier stream on low high sent =
    let r : Rate = f.rate in
    let m : Modulation = modulation_of r in
    let index : ℕ = index_of r (Data carrier) in
    let job : JobView = on.job in
    let back : stream - 1 + 1 ≡ stream = omega (arith, low) in
    let lt : stream - 1 < streams_of r = omega (arith, low, high) in
    let vector : (near job).vector ≡ vector_at r points symbol index =
    ap (λ (z : Found). z.vector) on.holds
    ∙ (ap (λ (s : ℕ). vector_at r points s job.place.carrier) on.on_symbol ∙ ap (vector_at r points symbol) on.on_carrier) in
    let point : get_or (near job).vector (stream - 1) no_point ≡ point_at r points symbol index stream =
    ap (λ (xs : List Point). get_or xs (stream - 1) no_point) vector
    ∙ (stream_point r points symbol index (stream - 1) lt ∙ ap (point_at r points symbol index) back) in
    let label : frame_label (frame_of_jobs number f jobs) symbol carrier stream ≡ sent.label =
    ap (λ (o : Option JobView). label_in m o stream) on.is
    ∙ (ap (λ (p : Point). unwrap_or (label_of m p) 0) point ∙ point-label f symbol carrier stream (point_at r points symbol index stream) sent) in
    subst (IsLabelOf f symbol carrier stream) (sym label) sent.landed

-- all labels
pub are_labels : (number : ℕ) (f : FrameView) (jobs : List JobView) (s : SymbolsView) → IsTransmitted f s
    → IsWholeFrame (frame_of_jobs number f jobs) → AllByRecursion (IsFound f.rate s.points) jobs → AreLabelsOf f (frame_labels (frame_of_jobs number f jobs))
are_labels number f jobs s sent whole found symbol carrier stream ls lc low high =
    let r : Rate = f.rate in
    let g : FrameJobs = frame_of_jobs number f jobs in
    let index : ℕ = index_of r (Data carrier) in
    let at = carrier_of-index_of r (Data carrier) lc in
    let placed : IsPlaceOf symbol index (map (λ (j : JobView). j.place) jobs) =
    subst (IsPlaceOf symbol index) (sym whole.places) (among_symbols g.head 0 (symbols_in g.head) symbol index refl at.0 (omega arith) (omega (arith, ls))) in
    let on : JobOn (IsFound r s.points) symbol index jobs = job_on (IsFound r s.points) symbol index jobs found placed in
    let carried : Carries f symbol (Data carrier) stream (point_at r s.points symbol index stream) =
    subst (λ (c : Carrier). Carries f symbol c stream (point_at r s.points symbol index stream)) at.1 (sent.points symbol index stream ls at.0 low high) in
    subst (IsLabelOf f symbol carrier stream) (sym (label_there g symbol carrier stream ls lc low high))
    (label_is number f jobs s.points symbol carrier stream on low high carried)
