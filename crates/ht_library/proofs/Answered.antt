-- What is written of samples, one after another.
use Rattle.std.proofs.Common.{◌≡◌, ◌⊎◌, inl, inr, ℕ, zero, suc, ◌+◌, ◌*◌, ◌/◌, ◌^◌, ◌<◌, ◌≤◌}
use Rattle.std.proofs.Common.{◌&&◌, Bool, true, false, Option, Some, None, is_some, List, [], ◌∷◌, length, map, take}
use Rattle.std.proofs.Common.{refl, sym, ap, subst, ◌∙◌, arith, rules, slice_index, slice_index_or, replicate, true≢false}
use Rattle.std.specs.Prelude.{◌==◌, sum, unwrap_or}
use Rattle.std.specs.List.{range_with_len}
use Rattle.std.proofs.Math.Nat.{mul-le-mul_left, mul-le-mul_right}
use Rattle.std.proofs.lemmas.Bool.{and_parts, both_ways, cases_lt}
use Rattle.std.proofs.lemmas.Nat.{div-mul-add}
use Rattle.std.proofs.lemmas.List.{length-map}
use Rattle.std.proofs.lemmas.List.FromFn.{sum_by-map-range_with_len_more}
use Rattle.ht_rate.specs.declared.kinds.Modulation.{Modulation}
use Rattle.ht_rate.specs.declared.rates.Rate.{Rate}
use Rattle.ht_rate.specs.Rates.{modulation_of, streams_of}
use Rattle.ht_map.specs.Constellation.{axes_of, grid_of}
use Rattle.ht_map.specs.Gray.{label_of}
use Rattle.ht_map.proofs.LabelFacts.{is_some-label_of}
use Rattle.ht_pam.specs.Ladders.{has}
use Rattle.ht_pam.specs.declared.axes.Axes.{Axes}
use Rattle.ht_pam.specs.declared.point.Point.{Point}
use Rattle.ht_metric.specs.declared.found.Found.{Found}
use Rattle.ht_metric.specs.Vectors.{is_in, no_point}
use Rattle.ht_metric.proofs.Allowed.{long_as_grid}
use Rattle.ht_metric.proofs.Finding.{is_near}
use Rattle.ht_results.specs.Folding.{label_at}
use Rattle.ht_results.proofs.Vectors.{grid_good, grid_length}
use Rattle.ht_library.specs.declared.crossing.MizgaureChannel.{MizgaureChannel}
use Rattle.ht_library.specs.declared.crossing.MizgaureDistance.{MizgaureDistance}
use Rattle.ht_library.specs.declared.crossing.MizgaureHit.{MizgaureHit}
use Rattle.ht_library.specs.declared.crossing.MizgaureReceived.{MizgaureReceived}
use Rattle.ht_library.specs.declared.symbols.SymbolSum.{SymbolSum}
use Rattle.ht_library.specs.Detected.{job_at}
use Rattle.ht_library.specs.Symbols.{AreHits, AreLabelsOf, AreSums, IsDistance, IsEmptyOr, found_at, no_distance, symbol_distance}
use Rattle.ht_library.specs.Walking.{AreHitsBelow, AreLabelsBelow, AreSummed}

-- the squared distances of so many samples from one on, and of one more

one_more : (found : ℕ → Found) (a n at total distance : ℕ) → a + n ≡ at → (found at).distance ≡ distance
    → total ≡ sum (map (λ (k : ℕ). (found k).distance) (range_with_len a n))
    → total + distance ≡ sum (map (λ (k : ℕ). (found k).distance) (range_with_len a (n + 1)))
one_more found a n at total distance place here is =
    ap (λ (x : ℕ). x + distance) is
    ∙ (ap (λ (x : ℕ). sum (map (λ (k : ℕ). (found k).distance) (range_with_len a n)) + x) (sym here)
    ∙ sym (sum_by-map-range_with_len_more (λ (x : ℕ). x) (λ (k : ℕ). (found k).distance) a n at place))

-- a symbol isn't whole yet
pub summed-more : (found : ℕ → Found) (at each distance : ℕ) (u : SymbolSum) (sums : List MizgaureDistance) → (found at).distance ≡ distance
    → distance < 2 ^ 66 → u.samples + 1 < each → AreSummed at each found u sums
    → AreSummed (at + 1) each found (record { symbol = u.symbol; samples = u.samples + 1; distance = u.distance + distance }) sums
summed-more found at each distance u sums here below less are = record {
  at = let was = are.at in omega (arith, was);
  within = less;
  few = let was = are.few in omega (arith, was, below);
  distance = one_more found (u.symbol * each) u.samples at u.distance distance (sym are.at) here are.distance;
  done = are.done;
}

-- a symbol is whole, and its sum is written
pub summed-whole : (found : ℕ → Found) (at each distance : ℕ) (u : SymbolSum) (old new : List MizgaureDistance) → (found at).distance ≡ distance
    → each ≤ u.samples + 1 → length new ≡ length old
    → (u.symbol < length old → IsDistance (u.distance + distance) (slice_index_or new u.symbol no_distance))
    → ((s : ℕ) → (s ≡ u.symbol → ⊥) → slice_index_or new s no_distance ≡ slice_index_or old s no_distance)
    → AreSummed at each found u old → AreSummed (at + 1) each found (record { symbol = u.symbol + 1; samples = 0; distance = 0 }) new
summed-whole found at each distance u old new here most long put others are =
    let within = are.within in
    let last : u.samples + 1 ≡ each = omega (arith, most, within) in
    let next : (u.symbol + 1) * each ≡ u.symbol * each + each = omega arith in
    let total : u.distance + distance ≡ symbol_distance each found u.symbol =
    one_more found (u.symbol * each) u.samples at u.distance distance (sym are.at) here are.distance
    ∙ ap (λ (n : ℕ). sum (map (λ (k : ℕ). (found k).distance) (range_with_len (u.symbol * each) n))) last in
    record {
      at = let was = are.at in omega (arith, was, last, next);
      within = omega (arith, within);
      few = omega arith;
      distance = refl;
      done = λ s lt room. elim (cases_lt s u.symbol) [
        | inl before ↦
            subst (λ (d : MizgaureDistance). IsDistance (symbol_distance each found s) d) (sym (others s (λ same. absurd (omega (arith, same, before)))))
            (are.done s before (omega (arith, room, long)))
        | inr after ↦
            let same : s ≡ u.symbol = omega (arith, lt, after) in
            let there : u.symbol < length old = omega (arith, same, room, long) in
            subst (λ (n : ℕ). IsDistance (symbol_distance each found n) (slice_index_or new n no_distance)) (sym same) (put there ∙ total)
      ];
    }

-- a number that isn't 0
pub not-none : (n : ℕ) → (n == 0) ≡ false → n ≡ 0 → ⊥
not-none zero test none = absurd (true≢false test)
not-none (suc n) test none = absurd (omega (arith, none))

-- there is room for the labels of one more sample
pub labels-room : (at streams samples size : ℕ) → at < samples → IsEmptyOr (samples * streams) size → (size ≡ 0 → ⊥) → at * streams + streams ≤ size
labels-room at streams samples size below fit some =
    let more : (at + 1) * streams ≤ samples * streams = mul-le-mul_right streams (omega (arith, below)) in
    let split : (at + 1) * streams ≡ at * streams + streams = omega arith in
    elim fit [ inl none ↦ absurd (some none) | inr all ↦ omega (arith, more, split, all) ]

-- the labels of one more sample
pub labels-more : (m : Modulation) (streams at : ℕ) (found : ℕ → Found) (vector : List Point) (old new : List ℕ) → (found at).vector ≡ vector
    → length vector ≡ streams → length new ≡ length old → ((i : ℕ) → i < at * streams → slice_index new i ≡ slice_index old i)
    → ((s : ℕ) → s < length vector → slice_index new (at * streams + s) ≡ label_at m (slice_index_or vector s no_point))
    → AreLabelsBelow at m streams found old → AreLabelsBelow (at + 1) m streams found new
labels-more m streams at found vector old new is wide long before here were k s lt low within = elim (cases_lt k at) [
  | inl less ↦
      let more : (k + 1) * streams ≤ at * streams = mul-le-mul_right streams (omega (arith, less)) in
      let split : (k + 1) * streams ≡ k * streams + streams = omega arith in
      before (k * streams + s) (omega (arith, more, split, low)) ∙ were k s less low (omega (arith, within, long))
  | inr after ↦
      let same : k ≡ at = omega (arith, lt, after) in
      subst (λ (n : ℕ). slice_index new (n * streams + s) ≡ label_at m (slice_index_or (found n).vector s no_point)) (sym same)
      (here s (omega (arith, low, wide)) ∙ ap (λ (x : List Point). label_at m (slice_index_or x s no_point)) (sym is))
]

-- the same of a modulation and of streams that are equal
pub labels-as : (m other : Modulation) (streams others at : ℕ) (found : ℕ → Found) (old new : List ℕ) → m ≡ other → streams ≡ others
    → (AreLabelsBelow at m streams found old → AreLabelsBelow (at + 1) m streams found new)
    → AreLabelsBelow at other others found old → AreLabelsBelow (at + 1) other others found new
labels-as m other streams others at found old new same as_many step =
    subst (λ (x : Modulation). AreLabelsBelow at x others found old → AreLabelsBelow (at + 1) x others found new) same
    (subst (λ (n : ℕ). AreLabelsBelow at m n found old → AreLabelsBelow (at + 1) m n found new) as_many step)

-- an element of a front
front-at : (n : ℕ) (xs : List ℕ) (s : ℕ) → s < length (take n xs) → slice_index (take n xs) s ≡ slice_index xs s
front-at zero xs s lt = absurd (omega (arith, lt))
front-at (suc n) [] s lt = absurd (omega (arith, lt))
front-at (suc n) (x ∷ xs) zero lt = refl
front-at (suc n) (x ∷ xs) (suc s) lt = front-at n xs s (omega (arith, lt))

mapped-at : (f : Point → ℕ) (xs : List Point) (s : ℕ) → s < length xs → slice_index (map f xs) s ≡ f (slice_index_or xs s no_point)
mapped-at f [] s lt = absurd (omega (arith, lt))
mapped-at f (x ∷ xs) zero lt = refl
mapped-at f (x ∷ xs) (suc s) lt = mapped-at f xs s (omega (arith, lt))

-- the labels of one more sample, in a lane
pub lane-more : (m : Modulation) (streams at n : ℕ) (found : ℕ → Found) (named four old new : List ℕ) → map (label_at m) (found at).vector ≡ named
    → take n four ≡ named → length (found at).vector ≡ streams → length new ≡ length old
    → ((i : ℕ) → i < at * streams → slice_index new i ≡ slice_index old i)
    → ((s : ℕ) → s < streams → slice_index new (at * streams + s) ≡ slice_index four s)
    → AreLabelsBelow at m streams found old → AreLabelsBelow (at + 1) m streams found new
lane-more m streams at n found named four old new is front wide long before here =
    let vector : List Point = (found at).vector in
    let same : map (label_at m) vector ≡ take n four = is ∙ sym front in
    labels-more m streams at found vector old new refl wide long before
    (λ s lt.
    let size : length (map (label_at m) vector) ≡ length vector = length-map vector (label_at m) in
    let room : s < length (take n four) = subst (λ (xs : List ℕ). s < length xs) same (omega (arith, size, lt)) in
    here s (omega (arith, lt, wide))
    ∙ (sym (front-at n four s room) ∙ (ap (λ (xs : List ℕ). slice_index xs s) (sym same) ∙ mapped-at (label_at m) vector s lt)))

-- each point of a vector of a grid that has the same axes on each stream
on_axes : (a : Axes) (n : ℕ) (x : List Point) (s : ℕ) → is_in (replicate n a) x ≡ true → s < n
    → (has a.i (slice_index_or x s no_point).i && has a.q (slice_index_or x s no_point).q) ≡ true
on_axes a zero x s is lt = absurd (omega (arith, lt))
on_axes a (suc n) [] s is lt = absurd (both_ways false refl is)
on_axes a (suc n) (p ∷ x) zero is lt = (and_parts (has a.i p.i && has a.q p.q) (is_in (replicate n a) x) is).0
on_axes a (suc n) (p ∷ x) (suc s) is lt = on_axes a n x s (and_parts (has a.i p.i && has a.q p.q) (is_in (replicate n a) x) is).1 (omega (arith, lt))

module _ (r : Rate) (channels : List MizgaureChannel) (received : List MizgaureReceived) where
  in_grid : (k : ℕ) → is_in (grid_of r) (found_at r channels received k).vector ≡ true
  in_grid k = let is = (is_near (job_at r channels received k) (grid_good r)).within in search (rules, is)

  -- a vector that is found has a point for each stream
  pub vector-long : (k : ℕ) → length (found_at r channels received k).vector ≡ streams_of r
  vector-long k = long_as_grid (grid_of r) (found_at r channels received k).vector (in_grid k) ∙ grid_length r

  -- and each has a label
  labelled : (k s : ℕ) → s < streams_of r
      → is_some (label_of (modulation_of r) (slice_index_or (found_at r channels received k).vector s no_point)) ≡ true
  unfolding grid_of
  labelled k s low =
      is_some-label_of (modulation_of r) (slice_index_or (found_at r channels received k).vector s no_point)
      ∙ on_axes (axes_of (modulation_of r)) (streams_of r) (found_at r channels received k).vector s (in_grid k) low

some-is : (o : Option ℕ) → is_some o ≡ true → o ≡ Some (unwrap_or o 0)
some-is None e = absurd (true≢false (sym e))
some-is (Some x) e = refl

-- all labels that are wanted
pub labels-all : (r : Rate) (channels : List MizgaureChannel) (received : List MizgaureReceived) (labels : List ℕ)
    → IsEmptyOr (length received * streams_of r) (length labels)
    → AreLabelsBelow (length received) (modulation_of r) (streams_of r) (found_at r channels received) labels
    → AreLabelsOf (modulation_of r) (streams_of r) (found_at r channels received) labels
labels-all r channels received labels fit are k s low within =
    let found : ℕ → Found = found_at r channels received in
    let n : ℕ = length received in
    let m : Modulation = modulation_of r in
    let streams : ℕ = streams_of r in
    elim fit [
      | inl none ↦ absurd (omega (arith, none, within))
      | inr all ↦ elim (cases_lt k n) [
        | inl less ↦
            some-is (label_of m (slice_index_or (found k).vector s no_point)) (labelled r channels received k s low)
            ∙ ap (λ (x : ℕ). Some x) (sym (are k s less low within))
        | inr after ↦
            let more : n * streams ≤ k * streams = mul-le-mul_right streams after in
            absurd (omega (arith, more, all, within))
      ]
    ]

-- all hits that are wanted
pub hits-all : (n : ℕ) (found : ℕ → Found) (hits : List MizgaureHit) → IsEmptyOr n (length hits) → AreHitsBelow n found hits → AreHits found hits
hits-all n found hits fit are k within = elim fit [
  | inl none ↦ absurd (omega (arith, none, within))
  | inr all ↦ are k (omega (arith, all, within)) within
]

-- all sums that are wanted
pub sums-all : (n each : ℕ) (found : ℕ → Found) (u : SymbolSum) (sums : List MizgaureDistance) → IsEmptyOr (n / each) (length sums)
    → AreSummed n each found u sums → AreSums each found sums
sums-all n each found u sums fit are s within =
    let whole : n / each ≡ u.symbol = ap (λ (x : ℕ). x / each) are.at ∙ div-mul-add u.symbol each u.samples are.within in
    elim fit [
      | inl none ↦ absurd (omega (arith, none, within))
      | inr all ↦ are.done s (omega (arith, all, within, whole)) within
    ]

-- a symbol under way is no later than its samples
pub symbol-few : (found : ℕ → Found) (at each : ℕ) (u : SymbolSum) (sums : List MizgaureDistance) → AreSummed at each found u sums → u.symbol ≤ at
symbol-few found at each u sums are =
    let was = are.at in
    let within = are.within in
    let one : u.symbol * 1 ≤ u.symbol * each = mul-le-mul_left u.symbol (omega (arith, within)) in
    omega (arith, was, one)
