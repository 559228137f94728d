-- The vectors of symbols: each lies in the grid of its subcarrier.
use Rattle.std.proofs.Common.{◌≡◌, ℕ, zero, suc, ◌+◌, ◌-◌, ◌*◌, ◌%◌, ◌<◌, ◌^◌, ℤ, pos, negsuc, neg_ℤ, unsigned_abs, List, [], ◌∷◌}
use Rattle.std.proofs.Common.{get_or, length, take, drop, map, replicate, All, Bool, true, false, ◌&&◌, if◌then◌else◌}
use Rattle.std.proofs.Common.{inl, inr, refl, sym, ap, subst, ◌∙◌, arith}
use Rattle.std.specs.List.{range_with_len}
use Rattle.std.specs.Ordering.{int_eq}
use Rattle.std.proofs.lemmas.Bool.{and_from}
use Rattle.std.proofs.lemmas.List.{get_or-drop, get_or-replicate, get_or-take, length-drop, length-replicate, length-take-le}
use Rattle.std.proofs.lemmas.List.Elements.{All-map, All-replicate}
use Rattle.std.proofs.lemmas.List.FromFn.{get_or-map-range_with_len, length-map-range_with_len}
use Rattle.ht_rate.specs.declared.kinds.Carrier.{Carrier}
use Rattle.ht_rate.specs.declared.kinds.Carrier.TheVariants.{Data, Pilot}
use Rattle.ht_rate.specs.declared.rates.Rate.{Rate}
use Rattle.ht_rate.specs.Carriers.{carrier_of}
use Rattle.ht_rate.specs.Rates.{carriers_of, modulation_of, streams_of, symbols_of}
use Rattle.ht_rate.proofs.RateFacts.{streams_of-range}
use Rattle.ht_scramble.proofs.Signs.{unsigned_abs-polarity_at}
use Rattle.ht_pilot.specs.Pilots.{is_negated, pilot_of}
use Rattle.ht_pam.specs.declared.axes.Axes.{Axes}
use Rattle.ht_pam.specs.declared.point.Point.{Point}
use Rattle.ht_pam.specs.Grids.{AreLadders, no_axes}
use Rattle.ht_pam.specs.Ladders.{has}
use Rattle.ht_map.specs.Constellation.{axes_of, grid_of}
use Rattle.ht_map.proofs.LabelFacts.{is_some-label_of}
use Rattle.ht_metric.specs.Distance.{IsInRange}
use Rattle.ht_metric.specs.Vectors.{is_in, no_point}
use Rattle.ht_metric.proofs.Allowed.{small_points}
use Rattle.ht_capture.specs.Frames.{grid_at, grid_for, one_point, pilot_grid}
use Rattle.ht_tx.specs.Symbols.{Fits, IsSymbols, index_of_point, pilot_point, point_at, points_of}
use Rattle.ht_tx.proofs.Places.{digits-below}
use Rattle.ht_results.proofs.Vectors.{ladders}

-- the vector of this number among points
abbrev pub vector_from : ℕ → List Point → ℕ → List Point
vector_from streams points number = take streams (drop (number * streams) points)

-- the points of a symbol and subcarrier, one for each stream
abbrev pub vector_at : Rate → List Point → ℕ → ℕ → List Point
vector_at r points symbol carrier = vector_from (streams_of r) points (symbol * carriers_of r + carrier)

-- streams count from 0 in a vector, and from 1 elsewhere
pub stream_point : (r : Rate) (points : List Point) (symbol carrier i : ℕ) → i < streams_of r
    → get_or (vector_at r points symbol carrier) i no_point ≡ point_at r points symbol carrier (i + 1)
unfolding index_of_point
stream_point r points symbol carrier i lt =
    let at : ℕ = (symbol * carriers_of r + carrier) * streams_of r in
    let same : at + i ≡ at + (i + 1 - 1) = omega arith in
    get_or-take (streams_of r) (drop at points) i no_point lt ∙ (get_or-drop at points i no_point ∙ ap (λ (k : ℕ). get_or points k no_point) same)

-- all of them are there
pub length-vector : (r : Rate) (octets : ℕ) (points : List Point) (symbol carrier : ℕ) → IsSymbols r octets points
    → symbol < symbols_of r octets → carrier < carriers_of r → length (vector_at r points symbol carrier) ≡ streams_of r
unfolding points_of
length-vector r octets points symbol carrier are ls lc =
    let at : ℕ = (symbol * carriers_of r + carrier) * streams_of r in
    let some = (streams_of-range r).0 in
    let last : streams_of r - 1 < streams_of r = omega (arith, some) in
    let below = digits-below symbol carrier (streams_of r - 1) (symbols_of r octets) (carriers_of r) (streams_of r) ls lc last in
    let whole = are.whole in
    length-take-le (streams_of r) (drop at points) (omega (arith, length-drop at points, below, whole, some))

-- a point of each ladder of a grid
abbrev IsOn : Axes → Point → Type 0
IsOn a p = (has a.i p.i && has a.q p.q) ≡ true

all_in : (grid : List Axes) (xs : List Point) → length xs ≡ length grid
    → ((i : ℕ) → i < length grid → IsOn (get_or grid i no_axes) (get_or xs i no_point)) → is_in grid xs ≡ true
all_in [] [] long on = refl
all_in [] (x ∷ xs) long on = absurd (omega (arith, long))
all_in (a ∷ grid) [] long on = absurd (omega (arith, long))
all_in (a ∷ grid) (x ∷ xs) long on =
    and_from (has a.i x.i && has a.q x.q) (is_in grid xs) (on 0 (omega arith))
    (all_in grid xs (omega (arith, long)) (λ i lt. on (suc i) (omega (arith, lt))))

-- the one point of a pilot
abs-neg : (z : ℤ) → unsigned_abs (neg_ℤ z) ≡ unsigned_abs z
abs-neg (pos zero) = refl
abs-neg (pos (suc n)) = refl
abs-neg (negsuc n) = refl

abs-either : (b : Bool) (z : ℤ) → unsigned_abs z ≡ 1 → unsigned_abs (if b then neg_ℤ z else z) ≡ 1
abs-either true z one = abs-neg z ∙ one
abs-either false z one = one

abs-pilot : (r : Rate) (symbol k stream : ℕ) → unsigned_abs (pilot_of r symbol k stream) ≡ 1
unfolding pilot_of
abs-pilot r symbol k stream = abs-either (is_negated r symbol k stream) _ (unsigned_abs-polarity_at ((symbol + 3) % 127))

on_one : (v : ℤ) → unsigned_abs v ≡ 1 → IsOn (one_point v) (record { i = v; q = pos 0 })
on_one (pos zero) e = absurd (omega (arith, e))
on_one (pos (suc zero)) e = refl
on_one (pos (suc (suc n))) e = absurd (omega (arith, e))
on_one (negsuc zero) e = refl
on_one (negsuc (suc n)) e = absurd (omega (arith, e))

-- a vector that fits its subcarrier
on_grid : (r : Rate) (symbol : ℕ) (c : Carrier) (xs : List Point) → length xs ≡ streams_of r
    → ((i : ℕ) → i < streams_of r → Fits r symbol c (i + 1) (get_or xs i no_point)) → is_in (grid_for r symbol c) xs ≡ true
unfolding grid_of pilot_grid pilot_point
on_grid r symbol (Data m) xs long fits =
    let a : Axes = axes_of (modulation_of r) in
    let size = length-replicate (streams_of r) a in
    all_in (replicate (streams_of r) a) xs (long ∙ sym size)
    (λ i lt.
    let low : i < streams_of r = omega (arith, lt, size) in
    subst (λ (z : Axes). IsOn z (get_or xs i no_point)) (sym (get_or-replicate (streams_of r) i a no_axes low))
    (sym (is_some-label_of (modulation_of r) (get_or xs i no_point)) ∙ fits i low))
on_grid r symbol (Pilot k) xs long fits =
    let f : ℕ → Axes = λ stream. one_point (pilot_of r symbol k stream) in
    let size = length-map-range_with_len f 1 (streams_of r) in
    all_in (map f (range_with_len 1 (streams_of r))) xs (long ∙ sym size)
    (λ i lt.
    let low : i < streams_of r = omega (arith, lt, size) in
    let place : 1 + i ≡ i + 1 = omega arith in
    let v : ℤ = pilot_of r symbol k (i + 1) in
    subst (λ (z : Axes). IsOn z (get_or xs i no_point)) (sym (get_or-map-range_with_len f 1 (streams_of r) i (i + 1) no_axes low place))
    (subst (λ (p : Point). IsOn (one_point v) p) (sym (fits i low)) (on_one v (abs-pilot r symbol k (i + 1)))))

pub in_grid : (r : Rate) (octets : ℕ) (points : List Point) (symbol carrier : ℕ) → IsSymbols r octets points
    → symbol < symbols_of r octets → carrier < carriers_of r → is_in (grid_at r symbol carrier) (vector_at r points symbol carrier) ≡ true
unfolding grid_at
in_grid r octets points symbol carrier are ls lc =
    on_grid r symbol (carrier_of r carrier) (vector_at r points symbol carrier) (length-vector r octets points symbol carrier are ls lc)
    (λ i lt. subst (Fits r symbol (carrier_of r carrier) (i + 1)) (sym (stream_point r points symbol carrier i lt))
    (are.fits symbol carrier (i + 1) ls lc (omega arith) (omega (arith, lt))))

-- a grid has a ladder for each stream
pub long_for : (r : Rate) (symbol : ℕ) (c : Carrier) → length (grid_for r symbol c) ≡ streams_of r
unfolding grid_of pilot_grid
long_for r symbol (Data m) = length-replicate (streams_of r) (axes_of (modulation_of r))
long_for r symbol (Pilot k) = length-map-range_with_len (λ stream. one_point (pilot_of r symbol k stream)) 1 (streams_of r)

pub length-grid : (r : Rate) (symbol carrier : ℕ) → length (grid_at r symbol carrier) ≡ streams_of r
unfolding grid_at
length-grid r symbol carrier = long_for r symbol (carrier_of r carrier)

either_mask : (b : Bool) → (0 < (if b then 2 else 1)) × ((if b then 2 else 1) < 2 ^ 2)
either_mask true = (omega arith, omega arith)
either_mask false = (omega arith, omega arith)

one_ladders : (v : ℤ) → AreLadders (one_point v)
one_ladders v =
    let mask = either_mask (int_eq v (pos 1)) in
    record { i = record { size = inr (inl refl); some = mask.0; within = mask.1 }; q = record { size = inl refl; some = omega arith; within = omega arith } }

pub ladders_for : (r : Rate) (symbol : ℕ) (c : Carrier) → All AreLadders (grid_for r symbol c)
unfolding grid_of pilot_grid
ladders_for r symbol (Data m) = All-replicate AreLadders (streams_of r) (axes_of (modulation_of r)) (ladders (modulation_of r))
ladders_for r symbol (Pilot k) =
    All-map AreLadders (λ stream. one_point (pilot_of r symbol k stream)) (range_with_len 1 (streams_of r))
    (λ i d lt. one_ladders (pilot_of r symbol k (get_or (range_with_len 1 (streams_of r)) i d)))

-- so both parts of each point are from -7 to 7
pub in_range : (r : Rate) (octets : ℕ) (points : List Point) (symbol carrier : ℕ) → IsSymbols r octets points
    → symbol < symbols_of r octets → carrier < carriers_of r → All IsInRange (vector_at r points symbol carrier)
unfolding grid_at
in_range r octets points symbol carrier are ls lc =
    small_points (grid_at r symbol carrier) (vector_at r points symbol carrier) (ladders_for r symbol (carrier_of r carrier))
    (in_grid r octets points symbol carrier are ls lc)
