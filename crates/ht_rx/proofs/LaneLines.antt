-- What lanes say of jobs on data subcarriers is what is found for them.
use Rattle.std.proofs.Common.{◌≡◌, ℕ, zero, suc, ◌+◌, ◌%◌, ◌^◌, ◌<◌, ◌≤◌, List, [], ◌∷◌, ◌++◌, Bool, true, false, Option, Some, None, IfSome, is_some}
use Rattle.std.proofs.Common.{drop, length, map, take, replicate, slice_get, slice_index, unwrap_or, if◌then◌else◌, nat_lt, get_or}
use Rattle.std.proofs.Common.{arith, ap, refl, subst, sym, ◌∙◌, append_assoc}
use Rattle.std.specs.Fmt.{signed_decimal}
use Rattle.std.proofs.lemmas.Bool.{and_parts, both_ways}
use Rattle.std.proofs.lemmas.Option.{slice_get-get_or}
use Rattle.std.proofs.lemmas.List.{append-nil}
use Rattle.ht_capture.specs.declared.items.FrameHead.{FrameHead}
use Rattle.ht_capture.specs.declared.places.Present.{Present}
use Rattle.ht_capture.specs.Frames.{carrier_octets, grid_at, grid_for, job_at}
use Rattle.ht_capture.specs.Parts.{SymbolPart, jobs_of, views_at}
use Rattle.ht_map.specs.Constellation.{axes_of, grid_of}
use Rattle.ht_map.specs.Gray.{label_of, point_of}
use Rattle.ht_map.proofs.LabelFacts.{is_some-label_of, point_of-label_of}
use Rattle.ht_metric.specs.Jobs.{JobView, IsNear, near}
use Rattle.ht_metric.specs.Vectors.{is_in}
use Rattle.ht_metric.specs.declared.found.Found.{Found}
use Rattle.ht_metric.specs.declared.place.Place.{Place}
use Rattle.ht_metric.proofs.Finding.{is_near}
use Rattle.ht_pam.specs.Grids.{IsGrid}
use Rattle.ht_pam.specs.declared.axes.Axes.{Axes}
use Rattle.ht_pam.specs.declared.point.Point.{Point}
use Rattle.ht_rate.specs.Carriers.{carrier_of}
use Rattle.ht_rate.specs.Rates.{modulation_of, streams_of}
use Rattle.ht_rate.specs.Schemes.{bits_of}
use Rattle.ht_rate.specs.declared.kinds.Carrier.{Carrier}
use Rattle.ht_rate.specs.declared.kinds.Carrier.TheVariants.{Data, Pilot}
use Rattle.ht_rate.specs.declared.kinds.Modulation.{Modulation}
use Rattle.ht_rate.specs.declared.rates.Rate.{Rate}
use Rattle.ht_results.specs.Folding.{label_at}
use Rattle.ht_results.specs.JobTexts.{job_lines, levels_of, line_at}
use Rattle.ht_results.specs.Plans.{is_data}
use Rattle.ht_results.proofs.Vectors.{grid_good}
use Rattle.ht_rounding.specs.Labels.{AreLabelledFrom, IsLabelled, labels_in}
use Rattle.ht_rounding.specs.Loading.{no_job}
use Rattle.ht_rounding.specs.declared.eight.Labelled.{Labelled}
use Rattle.ht_text.specs.Lines.{spaced}
use Rattle.ht_rx.specs.LaneLines.{HasLabels, found_in}
use Rattle.ht_rx.proofs.BlockListing.{line_put}

-- the labels are below a bound
abbrev AreBelow : ℕ → List ℕ → Type 0
AreBelow n [] = Unit {0}
AreBelow n (l ∷ ls) = (l < n) × AreBelow n ls

-- the label of a point on both ladders names it
module _ (m : Modulation) where
  named : (p : Point) (o : Option ℕ) → label_of m p ≡ o → is_some o ≡ true → (unwrap_or o 0 < 2 ^ bits_of m) × (point_of m (unwrap_or o 0) ≡ p)
  named p None is some = absurd (both_ways false refl some)
  named p (Some label) is some = point_of-label_of m p label is

  names : (p : Point) → is_some (label_of m p) ≡ true → (label_at m p < 2 ^ bits_of m) × (point_of m (label_at m p) ≡ p)
  names p some = named p (label_of m p) refl some

  -- the labels of points of the constellation are labels, and name them
  named_back : (n : ℕ) (ps : List Point) → is_in (replicate n (axes_of m)) ps ≡ true
      → AreBelow (2 ^ bits_of m) (map (label_at m) ps) × (map (point_of m) (map (label_at m) ps) ≡ ps)
  named_back zero [] h = (tt, refl)
  named_back zero (p ∷ ps) h = absurd (both_ways false refl h)
  named_back (suc n) [] h = absurd (both_ways false refl h)
  named_back (suc n) (p ∷ ps) h =
      let both = and_parts _ (is_in (replicate n (axes_of m)) ps) h in
      let here = names p (is_some-label_of m p ∙ both.0) in
      let rest = named_back n ps both.1 in (
        (here.0, rest.0),
        ap (λ (q : Point). q ∷ map (point_of m) (map (label_at m) ps)) here.1 ∙ ap (λ (qs : List Point). p ∷ qs) rest.1,
      )

  -- a lane's labels are labels
  have_labels : (lanes : Labelled) (k : ℕ) → 1 ≤ lanes.streams → lanes.streams ≤ 4 → AreBelow (2 ^ bits_of m) (labels_in lanes k) → HasLabels m lanes k
  have_labels lanes k some most below =
      let all = four (2 ^ bits_of m) lanes.streams (slice_index lanes.first k % 256) (slice_index lanes.second k % 256) (slice_index lanes.third k % 256)
      (slice_index lanes.fourth k % 256) some most below in
      record { first = all.0; second = all.1.0; third = all.1.1.0; fourth = all.1.1.1 }
    where
      four : (top s a b c d : ℕ) → 1 ≤ s → s ≤ 4 → AreBelow top (take s (a ∷ b ∷ c ∷ d ∷ []))
          → (a < top) × ((1 < s → b < top) × ((2 < s → c < top) × (3 < s → d < top)))
      four top zero a b c d some most below = absurd (omega (arith, some))
      four top (suc zero) a b c d some most below =
          (below.0, (λ lt. absurd (omega (arith, lt)), (λ lt. absurd (omega (arith, lt)), λ lt. absurd (omega (arith, lt)))))
      four top (suc (suc zero)) a b c d some most below =
          (below.0, (λ lt. below.1.0, (λ lt. absurd (omega (arith, lt)), λ lt. absurd (omega (arith, lt)))))
      four top (suc (suc (suc zero))) a b c d some most below = (below.0, (λ lt. below.1.0, (λ lt. below.1.1.0, λ lt. absurd (omega (arith, lt)))))
      four top (suc (suc (suc (suc zero)))) a b c d some most below = (below.0, (λ lt. below.1.0, (λ lt. below.1.1.0, λ lt. below.1.1.1.0)))
      four top (suc (suc (suc (suc (suc s))))) a b c d some most below = absurd (omega (arith, most))

-- the grid of a job of a block
grids_at : (head : FrameHead) (symbol number : ℕ) (ps : List Present) (octets : List ℕ) (at i : ℕ)
    → IfSome (slice_get (views_at head symbol number ps octets at) i) (λ job. job.grid ≡ grid_at head.rate symbol job.place.carrier)
unfolding views_at job_at
grids_at head symbol number [] octets at i = tt
grids_at head symbol number (p ∷ ps) octets at zero = refl
grids_at head symbol number (p ∷ ps) octets at (suc i) = grids_at head symbol (number + 1) ps octets (at + carrier_octets head.rate) i

full_for : (rate : Rate) (symbol : ℕ) (c : Carrier) → is_data c ≡ true → grid_for rate symbol c ≡ grid_of rate
full_for rate symbol (Data m) is = refl
full_for rate symbol (Pilot k) is = absurd (both_ways false refl is)

-- the grid of a subcarrier that carries data has all points
full_grid : (rate : Rate) (symbol carrier : ℕ) → is_data (carrier_of rate carrier) ≡ true → grid_at rate symbol carrier ≡ grid_of rate
unfolding grid_at
full_grid rate symbol carrier is = full_for rate symbol (carrier_of rate carrier) is

-- the vector of a job whose grid has all points of each stream
in_full : (rate : Rate) (job : JobView) → job.grid ≡ grid_of rate
    → is_in (replicate (streams_of rate) (axes_of (modulation_of rate))) (near job).vector ≡ true
unfolding grid_of
in_full rate job grid =
    let first : IsNear job (near job).vector = is_near job (subst IsGrid (sym grid) (grid_good rate)) in
    ap (λ (g : List Axes). is_in g (near job).vector) (sym grid) ∙ first.within

-- a vector and a distance
same_found : (found : Found) (vector : List Point) (distance : ℕ) → found.vector ≡ vector → found.distance ≡ distance
    → found ≡ record { vector = vector; distance = distance }
same_found found vector distance v d =
    ap (λ (x : List Point). let f : Found = record { vector = x; distance = found.distance } in f) v
    ∙ ap (λ (n : ℕ). let f : Found = record { vector = vector; distance = n } in f) d

-- what a lane has labelled of a job whose grid has all points
lane_is : (rate : Rate) (m : Modulation) (lanes : Labelled) (k : ℕ) (job : JobView) → m ≡ modulation_of rate → job.grid ≡ grid_of rate
    → 1 ≤ lanes.streams → lanes.streams ≤ 4 → IsLabelled (label_at m) lanes k job → HasLabels m lanes k × (found_in m lanes k ≡ near job)
lane_is rate m lanes k job of grid some most is =
    let within : is_in (replicate (streams_of rate) (axes_of m)) (near job).vector ≡ true =
    ap (λ (o : Modulation). is_in (replicate (streams_of rate) (axes_of o)) (near job).vector) of ∙ in_full rate job grid in
    let back = named_back m (streams_of rate) (near job).vector within in
    let below : AreBelow (2 ^ bits_of m) (labels_in lanes k) = subst (λ (ls : List ℕ). AreBelow (2 ^ bits_of m) ls) is.labels back.0 in (
      have_labels m lanes k some most below,
      sym (same_found (near job) (map (point_of m) (labels_in lanes k)) (slice_index lanes.distance k)
          (sym back.1 ∙ ap (λ (ls : List ℕ). map (point_of m) ls) is.labels) (sym is.distance)),
    )

-- a sure lane of a job on a data subcarrier of a block
module _ (part : SymbolPart) (m : Modulation) (lanes : Labelled) (at k : ℕ) (place : Place) (of : m ≡ modulation_of part.head.rate) (lt : k < 8)
    (inside : at + 8 ≤ length (jobs_of part)) (some : 1 ≤ lanes.streams) (most : lanes.streams ≤ 4) (sure : 0 < slice_index lanes.sure k)
    (on : is_data (carrier_of part.head.rate place.carrier) ≡ true)
    (here : IfSome (slice_get (jobs_of part) (at + k)) (λ job. job.place ≡ place))
    (says : AreLabelledFrom (label_at m) (jobs_of part) at lanes) where
  abbrev job : JobView
  job = get_or (jobs_of part) (at + k) no_job

  got : slice_get (jobs_of part) (at + k) ≡ Some job
  got = slice_get-get_or (jobs_of part) (at + k) no_job (omega (arith, lt, inside))

  placed : job.place ≡ place
  placed = subst (λ (o : Option JobView). IfSome o (λ j. j.place ≡ place)) got here

  full : job.grid ≡ grid_of part.head.rate
  full =
      let at_place : job.grid ≡ grid_at part.head.rate part.symbol job.place.carrier =
      subst (λ (o : Option JobView). IfSome o (λ j. j.grid ≡ grid_at part.head.rate part.symbol j.place.carrier)) got
      (grids_at part.head part.symbol part.number part.present part.octets 0 (at + k)) in
      at_place ∙ full_grid part.head.rate part.symbol job.place.carrier
      (ap (λ (p : Place). is_data (carrier_of part.head.rate p.carrier)) placed ∙ on)

  labelled : IsLabelled (label_at m) lanes k job
  labelled =
      let hit : 0 < slice_index lanes.sure k → IsLabelled (label_at m) lanes k job =
      subst (λ (o : Option JobView). IfSome o (λ j. 0 < slice_index lanes.sure k → IsLabelled (label_at m) lanes k j)) got (says k lt) in
      hit sure

  pub lane_labels : HasLabels m lanes k
  lane_labels = (lane_is part.head.rate m lanes k job of full some most labelled).0

  pub lane_put : (new behind : List ℕ) → behind ≡ job_lines (drop (at + k + 1) (jobs_of part)) → new ≡ line_at place (found_in m lanes k) ++ behind
      → new ≡ job_lines (drop (at + k) (jobs_of part))
  lane_put new behind so is =
      line_put (jobs_of part) (at + k) (at + k + 1) job place (found_in m lanes k) new behind refl (sym placed)
      (lane_is part.head.rate m lanes k job of full some most labelled).1 (sym got) so is

-- one point more in front
point_more : (p : Point) (ps : List Point) (rest : List ℕ)
    → spaced (levels_of (p ∷ [])) ++ (spaced (levels_of ps) ++ rest) ≡ spaced (levels_of (p ∷ ps)) ++ rest
point_more p ps rest = behind (32 ∷ signed_decimal p.i) (32 ∷ signed_decimal p.q) (spaced (levels_of ps))
  where
    behind : (xs ys zs : List ℕ) → (xs ++ (ys ++ [])) ++ (zs ++ rest) ≡ (xs ++ (ys ++ zs)) ++ rest
    behind xs ys zs =
        append_assoc xs (ys ++ []) (zs ++ rest)
        ∙ (ap (λ (l : List ℕ). xs ++ (l ++ (zs ++ rest))) (append-nil ys)
        ∙ (ap (λ (l : List ℕ). xs ++ l) (sym (append_assoc ys zs rest)) ∙ sym (append_assoc xs (ys ++ zs) rest)))

-- the points of one to four streams, one behind the other
module _ (name : ℕ → Point) (a b c d : ℕ) (rest : List ℕ) where
  abbrev pub if_there : Bool → ℕ → List ℕ → List ℕ
  if_there there label behind = spaced (levels_of (if there then name label ∷ [] else [])) ++ behind

  pub points_put : (s : ℕ) → 1 ≤ s → s ≤ 4
      → if_there true a (if_there (nat_lt 1 s) b (if_there (nat_lt 2 s) c (if_there (nat_lt 3 s) d rest)))
      ≡ spaced (levels_of (map name (take s (a ∷ b ∷ c ∷ d ∷ [])))) ++ rest
  points_put zero some most = absurd (omega (arith, some))
  points_put (suc zero) some most = refl
  points_put (suc (suc zero)) some most = point_more (name a) (name b ∷ []) rest
  points_put (suc (suc (suc zero))) some most =
      ap (λ (l : List ℕ). if_there true a l) (point_more (name b) (name c ∷ []) rest) ∙ point_more (name a) (name b ∷ name c ∷ []) rest
  points_put (suc (suc (suc (suc zero)))) some most =
      ap (λ (l : List ℕ). if_there true a l) (ap (λ (l : List ℕ). if_there true b l) (point_more (name c) (name d ∷ []) rest)
      ∙ point_more (name b) (name c ∷ name d ∷ []) rest)
      ∙ point_more (name a) (name b ∷ name c ∷ name d ∷ []) rest
  points_put (suc (suc (suc (suc (suc s))))) some most = absurd (omega (arith, most))
