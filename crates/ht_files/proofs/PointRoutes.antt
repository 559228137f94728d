-- How the octets of points lead through the fields of a file.
use Rattle.std.proofs.Common.{◌≡◌, inl, inr, ℕ, zero, suc, ◌+◌, ◌-◌, ◌*◌, ◌/◌, ◌%◌, ◌^◌}
use Rattle.std.proofs.Common.{◌<◌, ◌≤◌, ℤ, List, [], ◌∷◌, ◌++◌, length, flat_map, get_or, take}
use Rattle.std.proofs.Common.{nat_eq, true, false, refl, sym, ap, subst, ◌∙◌, append_assoc, length-append, arith}
use Rattle.std.specs.Ordering.{int_eq}
use Rattle.std.proofs.lemmas.Bool.Decides.{Decides-int_eq, nat_tests}
use Rattle.std.proofs.lemmas.List.{append-nil, length-take-le}
use Rattle.std.proofs.lemmas.Bool.{and_from, cases_lt}
use Rattle.std.proofs.Math.Nat.{add-mul, mul-le-mul, mul_assoc}
use Rattle.std.proofs.Math.Seq.{get_or-append_seam}
use Rattle.ht_io.specs.Devices.{Device, Takes, TakesAll, IsLater, Rose}
use Rattle.ht_io.proofs.Calls.{takes-append}
use Rattle.ht_io.specs.declared.faults.InFault.{InFault}
use Rattle.ht_io.specs.declared.faults.InFault.TheVariants.{Format, Read}
use Rattle.ht_io.specs.declared.faults.Kind.TheVariants.{Truncated}
use Rattle.ht_fields.specs.Cases.{IsField}
use Rattle.ht_fields.specs.FormatLaws.{AreFiles, ReadsBack, WritesFiles}
use Rattle.ht_fields.specs.Grammar.{Verdict, Good}
use Rattle.ht_fields.specs.Readers.{reader_in}
use Rattle.ht_fields.specs.WholeFiles.{EndsEarly}
use Rattle.ht_fields.proofs.Choices.{when_true, when_false, checked_good}
use Rattle.ht_fields.proofs.Blocks.{block_broke, block_ended, block_refused}
use Rattle.ht_fields.proofs.Endings.{route_ends}
use Rattle.ht_fields.proofs.Halting.{judges_checked}
use Rattle.ht_fields.proofs.Putting.{takes_as}
use Rattle.ht_fields.proofs.Readers.{IsNamed}
use Rattle.ht_fields.proofs.Routes.{Route, route_as, route_field, route_none, route_then}
use Rattle.ht_rate.specs.declared.kinds.Carrier.{Carrier}
use Rattle.ht_rate.specs.declared.kinds.Carrier.TheVariants.{Data, Pilot}
use Rattle.ht_rate.specs.declared.rates.Rate.{Rate}
use Rattle.ht_rate.specs.Carriers.{carrier_of}
use Rattle.ht_rate.specs.Rates.{carriers_of, data_bits_of, needed_bits_of, streams_of, symbols_of}
use Rattle.ht_rate.proofs.LengthFacts.{symbols_of-holds}
use Rattle.ht_rate.proofs.RateFacts.{carriers_of-range, data_bits_of-range, encoders_of-range, streams_of-range}
use Rattle.ht_pam.specs.declared.point.Point.{Point}
use Rattle.ht_tx.specs.Symbols.{Fits, IsSymbols, SymbolsView, index_of_point, origin, pilot_point, points_of}
use Rattle.ht_tx.proofs.Places.{digits, digits-below, parts-again, parts-below}
use Rattle.ht_heads.specs.Heads.{head_octets}
use Rattle.ht_counted.specs.Counted.{IsCounted}
use Rattle.ht_counted.proofs.Counting.{are_files, is_count, leads_by}
use Rattle.ht_files.specs.HeadedFormats.{HeadState, behind_head, frame_due, headed}
use Rattle.ht_files.specs.Places.{AreFitting, FitsPlace, carrier_at_place, stream_at_place, symbol_at_place}
use Rattle.ht_files.specs.Points.{AddsPoints, MeetsMisfit, PointDue, TakesSymbol, first_point, fits_carrier, good_point, kind_on, misfits, misfits_place}
use Rattle.ht_files.specs.Points.{point_in, point_octets, points_due}
use Rattle.ht_files.specs.Points.{pointed, symbols}
use Rattle.ht_files.specs.SymbolFiles.{AreSymbolFrames, IsSymbolFrame, symbols_file_of, symbols_octets}
use Rattle.ht_files.proofs.HeadRoutes.{head_size, route_head}
use Rattle.ht_files.proofs.Levels.{point_back}
use Rattle.ht_files.proofs.Walks.{length-points}

int_same : (a b : ℤ) → a ≡ b → int_eq a b ≡ true
int_same a b e = (Decides-int_eq a b).1 e

-- a point that fits passes the test
pub fits_test : (r : Rate) (symbol : ℕ) (carrier : Carrier) (stream : ℕ) (p : Point) → Fits r symbol carrier stream p
    → fits_carrier r symbol carrier stream p ≡ true
fits_test r symbol (Data m) stream p fits = fits
fits_test r symbol (Pilot k) stream p fits =
    let v = pilot_point r symbol k stream in
    and_from (int_eq p.i v.i) (int_eq p.q v.q) (int_same p.i v.i (ap (λ (z : Point). z.i) fits)) (int_same p.q v.q (ap (λ (z : Point). z.q) fits))

-- the octets of a point that fits are no fault
no_misfit : (r : Rate) (symbol : ℕ) (carrier : Carrier) (stream : ℕ) (p : Point) → Fits r symbol carrier stream p
    → misfits r symbol carrier stream (point_octets p) ≡ false
unfolding misfits
no_misfit r symbol carrier stream p fits =
    let test : fits_carrier r symbol carrier stream (point_in (point_octets p)) ≡ true =
    ap (λ (z : Point). fits_carrier r symbol carrier stream z) (point_back r symbol carrier stream p fits) ∙ fits_test r symbol carrier stream p fits in
    when_true _ _ _ test

abbrev frame_with : Rate → ℕ → List Point → SymbolsView
frame_with rate len points = record { rate = rate; length = len; points = points }

back_at : (r : Rate) (place : ℕ) (p : Point) → FitsPlace r place p → point_in (point_octets p) ≡ p
back_at r place p fits = point_back r (symbol_at_place r place) (carrier_at_place r place) (stream_at_place r place) p fits

next_point : (due : PointDue) (p : Point) → FitsPlace due.rate (length due.points) p → length due.points + 1 < points_of due.rate due.length
    → good_point due (point_octets p) ≡ Good (behind_head (points_due due.left due.rate due.length (due.points ++ p ∷ []))) []
unfolding good_point
next_point due p fits few =
    let t : nat_eq (length due.points + 1) (points_of due.rate due.length) ≡ false = grind (arith, nat_tests) in
    when_false _ _ _ t
    ∙ ap (λ (z : Point). let v : Verdict (HeadState PointDue) SymbolsView =
    Good (behind_head (points_due due.left due.rate due.length (due.points ++ z ∷ []))) [] in v)
    (back_at due.rate (length due.points) p fits)

last_point : (due : PointDue) (p : Point) → FitsPlace due.rate (length due.points) p → length due.points + 1 ≡ points_of due.rate due.length
    → good_point due (point_octets p) ≡ Good (frame_due (due.left - 1)) (frame_with due.rate due.length (due.points ++ p ∷ []) ∷ [])
unfolding good_point
last_point due p fits all =
    let t : nat_eq (length due.points + 1) (points_of due.rate due.length) ≡ true = grind (arith, nat_tests) in
    when_true _ _ _ t
    ∙ ap (λ (z : Point). let v : Verdict (HeadState PointDue) SymbolsView =
    Good (frame_due (due.left - 1)) (frame_with due.rate due.length (due.points ++ z ∷ []) ∷ []) in v)
    (back_at due.rate (length due.points) p fits)

point_field : (due : PointDue) (p : Point) (verdict : Verdict (HeadState PointDue) SymbolsView) → FitsPlace due.rate (length due.points) p
    → good_point due (point_octets p) ≡ verdict → IsField (symbols.due (behind_head due)) (point_octets p) verdict
point_field due p verdict fits is = (
  refl,
  checked_good (kind_on (carrier_at_place due.rate (length due.points))) (misfits_place due.rate (length due.points)) (good_point due) (point_octets p) verdict
      (no_misfit due.rate (symbol_at_place due.rate (length due.points)) (carrier_at_place due.rate (length due.points))
      (stream_at_place due.rate (length due.points)) p fits) is,
)

fits_next : (rate : Rate) (all xs ys : List Point) (y : Point) → all ≡ xs ++ y ∷ ys → AreFitting rate all → FitsPlace rate (length xs) y
fits_next rate all xs ys y is fitting =
    let at : get_or all (length xs) origin ≡ y = ap (λ (z : List Point). get_or z (length xs) origin) is ∙ get_or-append_seam xs y ys origin in
    let few : length xs < length all = omega (arith, ap length is, length-append xs (y ∷ ys)) in
    subst (λ (z : Point). FitsPlace rate (length xs) z) at (fitting (length xs) few)

more_behind : (all xs ys : List Point) (y : Point) → all ≡ xs ++ y ∷ ys → all ≡ (xs ++ y ∷ []) ++ ys
more_behind all xs ys y is = is ∙ sym (append_assoc xs (y ∷ []) ys)

one_longer : (xs : List Point) (y : Point) → length (xs ++ y ∷ []) ≡ length xs + 1
one_longer xs y = length-append xs (y ∷ [])

-- points that fit, all but the last of a frame at most
pub route_points : (ys : List Point) (left : ℕ) (rate : Rate) (len : ℕ) (xs all : List Point) → all ≡ xs ++ ys → AreFitting rate all
    → length all < points_of rate len
    → Route symbols (behind_head (points_due left rate len xs)) (behind_head (points_due left rate len all)) (flat_map point_octets ys) []
route_points [] left rate len xs all is fitting few =
    route_none symbols _ _ (ap (λ (z : List Point). let s : HeadState PointDue = behind_head (points_due left rate len z) in s) (sym (is ∙ append-nil xs)))
route_points (y ∷ ys) left rate len xs all is fitting few =
    let due = points_due left rate len xs in
    let fits = fits_next rate all xs ys y is fitting in
    let few_now : length xs + 1 < points_of rate len = omega (arith, few, ap length is, length-append xs (y ∷ ys)) in
    route_then symbols (behind_head due) (behind_head (points_due left rate len (xs ++ y ∷ []))) (behind_head (points_due left rate len all))
    (point_octets y) (flat_map point_octets ys) [] []
    (route_field symbols (behind_head due) (behind_head (points_due left rate len (xs ++ y ∷ []))) (point_octets y) []
    (point_field due y _ fits (next_point due y fits few_now)))
    (route_points ys left rate len (xs ++ y ∷ []) all (more_behind all xs ys y is) fitting few)

-- all points of a frame
route_frame_points : (ys : List Point) (y : Point) (left : ℕ) (rate : Rate) (len : ℕ) (xs all : List Point) → all ≡ xs ++ y ∷ ys → AreFitting rate all
    → length all ≡ points_of rate len
    → Route symbols (behind_head (points_due left rate len xs)) (frame_due (left - 1)) (flat_map point_octets (y ∷ ys)) (frame_with rate len all ∷ [])
route_frame_points [] y left rate len xs all is fitting whole =
    let due = points_due left rate len xs in
    let fits = fits_next rate all xs [] y is fitting in
    let last : length xs + 1 ≡ points_of rate len = omega (arith, whole, ap length is, length-append xs (y ∷ [])) in
    let field : Route symbols (behind_head due) (frame_due (left - 1)) (point_octets y) (frame_with rate len (xs ++ y ∷ []) ∷ []) =
    route_field symbols (behind_head due) (frame_due (left - 1)) (point_octets y) (frame_with rate len (xs ++ y ∷ []) ∷ [])
    (point_field due y _ fits (last_point due y fits last)) in
    subst (λ (z : List Point). Route symbols (behind_head due) (frame_due (left - 1)) (flat_map point_octets (y ∷ [])) (frame_with rate len z ∷ [])) (sym is)
    (route_as symbols (behind_head due) (frame_due (left - 1)) (point_octets y) _ (frame_with rate len (xs ++ y ∷ []) ∷ [])
    (sym (append-nil (point_octets y))) field)
route_frame_points (z ∷ ys) y left rate len xs all is fitting whole =
    let due = points_due left rate len xs in
    let fits = fits_next rate all xs (z ∷ ys) y is fitting in
    let few : length xs + 1 < points_of rate len = omega (arith, whole, ap length is, length-append xs (y ∷ (z ∷ ys))) in
    route_then symbols (behind_head due) (behind_head (points_due left rate len (xs ++ y ∷ []))) (frame_due (left - 1))
    (point_octets y) (flat_map point_octets (z ∷ ys)) [] (frame_with rate len all ∷ [])
    (route_field symbols (behind_head due) (behind_head (points_due left rate len (xs ++ y ∷ []))) (point_octets y) []
    (point_field due y _ fits (next_point due y fits few)))
    (route_frame_points ys z left rate len (xs ++ y ∷ []) all (more_behind all xs (z ∷ ys) y is) fitting whole)

-- there is a point, and all fit their places
pub fitting_all : (r : Rate) (len : ℕ) (points : List Point) → IsSymbols r len points → AreFitting r points
unfolding points_of index_of_point
fitting_all r len points is place few =
    let n = carriers_of r in
    let w = streams_of r in
    let some_n : 0 < n = omega (arith, (carriers_of-range r).0) in
    let some_w : 0 < w = omega (arith, (streams_of-range r).0) in
    let inside : place < symbols_of r len * n * w = omega (arith, few, is.whole) in
    let parts = parts-below place (symbols_of r len) n w some_n some_w inside in
    let low : 1 ≤ place % w + 1 = omega arith in
    let high : place % w + 1 ≤ w = omega (arith, parts.2) in
    let first : place % w + 1 - 1 ≡ place % w = omega arith in
    let there : (place / w / n * n + place / w % n) * w + (place % w + 1 - 1) ≡ place =
    ap (λ (x : ℕ). (place / w / n * n + place / w % n) * w + x) first ∙ parts-again place n w in
    subst (λ (k : ℕ). FitsPlace r place (get_or points k origin)) there (is.fits (place / w / n) (place / w % n) (place % w + 1) parts.0 parts.1 low high)

-- the points of a frame are those of its symbols
pub symbols_all : (r : Rate) (len : ℕ) (points : List Point) → 1 ≤ len → len ≤ 65535 → length points ≡ points_of r len → AreFitting r points
    → IsSymbols r len points
unfolding points_of index_of_point
symbols_all r len points some bounded whole fitting = record {
  some = some;
  bounded = bounded;
  whole = whole;
  fits = λ symbol carrier stream ls lc low high.
      let st : stream - 1 < streams_of r = omega arith in
      let back : stream - 1 + 1 ≡ stream = omega arith in
      let p = (symbol * carriers_of r + carrier) * streams_of r + (stream - 1) in
      let lt : p < length points = omega
      (arith, whole, digits-below symbol carrier (stream - 1) (symbols_of r len) (carriers_of r) (streams_of r) ls lc st) in
      let parts = digits symbol carrier (stream - 1) (carriers_of r) (streams_of r) lc st in
      subst (λ (x : ℕ). Fits r symbol (carrier_of r carrier) x (get_or points p origin)) back
      (subst (λ (x : ℕ). Fits r symbol (carrier_of r carrier) (x + 1) (get_or points p origin)) parts.2
      (subst (λ (x : ℕ). Fits r symbol (carrier_of r x) (p % streams_of r + 1) (get_or points p origin)) parts.1
      (subst (λ (x : ℕ). Fits r x (carrier_of r (p / streams_of r % carriers_of r)) (p % streams_of r + 1) (get_or points p origin)) parts.0
      (fitting p lt))));
}

some_factor : (n d : ℕ) → 16 ≤ n * d → 0 < n
some_factor zero d e = absurd (omega arith)
some_factor (suc n) d e = omega arith

symbols_some : (r : Rate) (len : ℕ) → 0 < symbols_of r len
unfolding needed_bits_of
symbols_some r len = some_factor (symbols_of r len) (data_bits_of r) (omega (arith, (symbols_of-holds r len).0))

-- a frame has symbols, and so has points
pub points_of-some : (r : Rate) (len : ℕ) → 0 < points_of r len
unfolding points_of
points_of-some r len =
    let n = carriers_of r in
    let w = streams_of r in
    let first = digits-below 0 0 0 (symbols_of r len) n w (symbols_some r len)
    (omega (arith, (carriers_of-range r).0)) (omega (arith, (streams_of-range r).0)) in
    omega (arith, first)

points_some : (f : SymbolsView) → IsSymbolFrame f → 0 < length f.points
points_some f is = omega (arith, is.whole, points_of-some f.rate f.length)

all_points : (points : List Point) (left : ℕ) (f : SymbolsView) → AreFitting f.rate points → points ≡ f.points
    → length points ≡ points_of f.rate f.length → 0 < length points
    → Route symbols (behind_head (first_point left f.rate f.length)) (frame_due (left - 1)) (flat_map point_octets points) (f ∷ [])
all_points [] left f fitting same whole some = absurd (omega (arith, some))
all_points (y ∷ ys) left f fitting same whole some =
    subst (λ (z : List Point). Route symbols (behind_head (first_point left f.rate f.length)) (frame_due (left - 1)) (flat_map point_octets (y ∷ ys))
    (frame_with f.rate f.length z ∷ [])) same
    (route_frame_points ys y left f.rate f.length [] (y ∷ ys) refl fitting whole)

-- a frame
pub route_symbols : (left : ℕ) (f : SymbolsView) → 0 < left → IsSymbolFrame f
    → Route symbols (frame_due left) (frame_due (left - 1)) (symbols_octets f) (f ∷ [])
unfolding symbols_octets
route_symbols left f some is =
    let small : f.length < 2 ^ 16 = omega (arith, is.bounded) in
    route_then symbols (frame_due left) (behind_head (first_point left f.rate f.length)) (frame_due (left - 1)) (head_octets f.rate f.length)
    (flat_map point_octets f.points) [] (f ∷ [])
    (route_head pointed left f.rate f.length some is.some small)
    (all_points f.points left f (fitting_all f.rate f.length f.points is) refl is.whole (points_some f is))

kind_named : (carrier : Carrier) → IsNamed (kind_on carrier)
kind_named (Data m) = (λ e. cc, λ e. cc)
kind_named (Pilot k) = (λ e. cc, λ e. cc)

-- what ended the reading of a frame's points ended that of the frame
pub points_end : (left : ℕ) (rate : Rate) (len at : ℕ) (source mid after : Device ℕ) (fault : InFault)
    → 0 < left → 1 ≤ len → len < 2 ^ 16 → Takes source mid (head_octets rate len) → IsLater source mid
    → EndsEarly (reader_in symbols (behind_head (first_point left rate len)) (at + 4) mid) after fault
    → EndsEarly (reader_in symbols (frame_due left) at source) after fault
points_end left rate len at source mid after fault left_some some small taken later ends =
    route_ends symbols (frame_due left) (behind_head (first_point left rate len)) (head_octets rate len) [] at (at + 4) source mid after fault
    (route_head pointed left rate len left_some some small) (head_size rate len at) taken later ends

-- what ended it in a symbol ended it behind the symbols before
pub symbols_end : (left : ℕ) (rate : Rate) (len start at : ℕ) (points : List Point) (source mid after : Device ℕ) (fault : InFault)
    → AreFitting rate points → length points < points_of rate len → at ≡ start + 2 * length points
    → Takes source mid (flat_map point_octets points) → IsLater source mid
    → EndsEarly (reader_in symbols (behind_head (points_due left rate len points)) at mid) after fault
    → EndsEarly (reader_in symbols (behind_head (first_point left rate len)) start source) after fault
symbols_end left rate len start at points source mid after fault fitting few place taken later ends =
    let behind : at ≡ start + length (flat_map point_octets points) = omega (arith, place, length-points points) in
    route_ends symbols (behind_head (first_point left rate len)) (behind_head (points_due left rate len points)) (flat_map point_octets points) [] start at
    source mid after fault (route_points points left rate len [] points refl fitting few) behind taken later ends

-- the sizes of the points that were added
pub added_size : (old new added : List Point) (octets rest : List ℕ) → new ≡ old ++ added → octets ≡ flat_map point_octets added ++ rest
    → 2 * length new + length rest ≡ 2 * length old + length octets
added_size old new added octets rest is split =
    omega (
      arith,
      ap (λ (z : List Point). length z) is,
      length-append old added,
      ap (λ (z : List ℕ). length z) split,
      length-append (flat_map point_octets added) rest,
      length-points added,
    )

added_route : (left : ℕ) (r : Rate) (len : ℕ) (old new added : List Point) → new ≡ old ++ added → AreFitting r new → length new < points_of r len
    → Route symbols (behind_head (points_due left r len old)) (behind_head (points_due left r len new)) (flat_map point_octets added) []
added_route left r len old new added is fitting few = route_points added left r len old new is fitting few

-- a point of a symbol was at fault
symbol_misfit : (left : ℕ) (r : Rate) (len at w : ℕ) (old new : List Point) (octets : List ℕ) (source after : Device ℕ) (fault : InFault)
    → AreFitting r new → length octets ≤ 2 * w → length old + w ≤ points_of r len → Takes source after octets → MeetsMisfit r at old new octets fault
    → EndsEarly (reader_in symbols (behind_head (points_due left r len old)) at source) after fault
symbol_misfit left r len at w old new octets source after fault fitting most room taken meets =
    let due = points_due left r len new in
    let place = length new in
    let bad = meets.bad in
    let few : length new < points_of r len =
    omega (arith, added_size old new meets.added octets (bad ++ meets.rest) meets.points meets.split, length-append bad meets.rest, meets.two, most, room) in
    let judge = judges_checked symbols (behind_head due) 2 (kind_on (carrier_at_place r place)) (misfits_place r place) (good_point due) refl (omega arith)
    (kind_named (carrier_at_place r place)) in
    subst (λ (f : InFault). EndsEarly (reader_in symbols (behind_head (points_due left r len old)) at source) after f) (sym meets.fault_is)
    (block_refused symbols (behind_head (points_due left r len old)) (behind_head due) (flat_map point_octets meets.added) bad meets.rest at
    (kind_on (carrier_at_place r place)) source after (added_route left r len old new meets.added meets.points fitting few)
    (judge.bad bad meets.two meets.misfit)
    (takes_as source after octets (flat_map point_octets meets.added ++ (bad ++ meets.rest)) meets.split taken))

-- the input ended within a symbol
symbol_ended : (left : ℕ) (r : Rate) (len at w : ℕ) (old new : List Point) (octets : List ℕ) (source after : Device ℕ) (fault : InFault)
    → AreFitting r new → length octets < 2 * w → length old + w ≤ points_of r len → TakesAll source after octets → AddsPoints old new octets
    → fault ≡ Format (record { kind = Truncated; offset = at + length octets })
    → EndsEarly (reader_in symbols (behind_head (points_due left r len old)) at source) after fault
symbol_ended left r len at w old new octets source after fault fitting most room taken adds is =
    let few : length new < points_of r len =
    omega (arith, added_size old new adds.added octets adds.rest adds.points adds.split, adds.short, most, room) in
    subst (λ (f : InFault). EndsEarly (reader_in symbols (behind_head (points_due left r len old)) at source) after f) (sym is)
    (subst (λ (z : List ℕ). EndsEarly (reader_in symbols (behind_head (points_due left r len old)) at source) after
    (Format (record { kind = Truncated; offset = at + length z }))) (sym adds.split)
    (block_ended symbols (behind_head (points_due left r len old)) (behind_head (points_due left r len new))
    (flat_map point_octets adds.added) adds.rest at source after
    (added_route left r len old new adds.added adds.points fitting few) adds.short
    (subst (λ (z : List ℕ). TakesAll source after z) adds.split taken)))

-- the source failed within a symbol
symbol_broke : (left : ℕ) (r : Rate) (len at w : ℕ) (old new : List Point) (octets : List ℕ) (source after : Device ℕ)
    → AreFitting r new → length octets < 2 * w → length old + w ≤ points_of r len → Takes source after octets → AddsPoints old new octets
    → Rose source after → EndsEarly (reader_in symbols (behind_head (points_due left r len old)) at source) after Read
symbol_broke left r len at w old new octets source after fitting most room taken adds rose =
    let few : length new < points_of r len =
    omega (arith, added_size old new adds.added octets adds.rest adds.points adds.split, adds.short, most, room) in
    block_broke symbols (behind_head (points_due left r len old)) (behind_head (points_due left r len new))
    (flat_map point_octets adds.added) adds.rest at source after
    (added_route left r len old new adds.added adds.points fitting few) adds.short
    (takes_as source after octets (flat_map point_octets adds.added ++ adds.rest) adds.split taken) rose

-- The front of a symbol's block was filled, and its points were added.
module _ (left : ℕ) (r : Rate) (len at n : ℕ) (old new : List Point) (into : List ℕ) (source after : Device ℕ)
    (block : length into ≡ 2 * (carriers_of r * streams_of r)) (room : length old + carriers_of r * streams_of r ≤ points_of r len)
    (fitting : AreFitting r new) where
  -- a point of it was at fault
  pub front_misfit : (fault : InFault) → n ≤ length into → Takes source after (take n into) → MeetsMisfit r at old new (take n into) fault
      → EndsEarly (reader_in symbols (behind_head (points_due left r len old)) at source) after fault
  front_misfit fault within taken meets =
      symbol_misfit left r len at (carriers_of r * streams_of r) old new (take n into) source after fault fitting
      (omega (arith, length-take-le n into within, within, block)) room taken meets

  -- it was all that was left
  pub front_ended : (fault : InFault) → n < length into → TakesAll source after (take n into) → AddsPoints old new (take n into)
      → fault ≡ Format (record { kind = Truncated; offset = at + n })
      → EndsEarly (reader_in symbols (behind_head (points_due left r len old)) at source) after fault
  front_ended fault within taken adds is =
      let size : length (take n into) ≡ n = length-take-le n into (omega (arith, within)) in
      symbol_ended left r len at (carriers_of r * streams_of r) old new (take n into) source after fault fitting
      (omega (arith, size, within, block)) room taken adds
      (is ∙ ap (λ (k : ℕ). let f : InFault = Format (record { kind = Truncated; offset = at + k }) in f) (sym size))

  -- the source failed behind it
  pub front_broke : n < length into → Takes source after (take n into) → AddsPoints old new (take n into) → Rose source after
      → EndsEarly (reader_in symbols (behind_head (points_due left r len old)) at source) after Read
  front_broke within taken adds rose =
      symbol_broke left r len at (carriers_of r * streams_of r) old new (take n into) source after fitting
      (omega (arith, length-take-le n into (omega (arith, within)), within, block)) room taken adds rose

no_rest : (xs : List ℕ) → length xs ≡ 0 → xs ≡ []
no_rest [] e = refl
no_rest (x ∷ xs) e = absurd (omega (arith, e))

-- a symbol was read whole
pub symbol_whole : (r : Rate) (old new : List Point) (octets : List ℕ) (source after : Device ℕ) → length octets ≡ 2 * (carriers_of r * streams_of r)
    → Takes source after octets → AddsPoints old new octets → TakesSymbol r old new source after
symbol_whole r old new octets source after whole taken adds =
    let sizes : 2 * length adds.added + length adds.rest ≡ 2 * (carriers_of r * streams_of r) =
    omega (arith, whole, ap (λ (z : List ℕ). length z) adds.split, length-append (flat_map point_octets adds.added) adds.rest, length-points adds.added) in
    let none : adds.rest ≡ [] = no_rest adds.rest (omega (arith, sizes, adds.short)) in (
      adds.added,
      adds.points,
      omega (arith, sizes, adds.short),
      takes_as source after octets (flat_map point_octets adds.added)
          (adds.split ∙ (ap (λ (z : List ℕ). flat_map point_octets adds.added ++ z) none ∙ append-nil (flat_map point_octets adds.added))) taken,
    )

pub length_symbols : (f : SymbolsView) (points : List Point) → points ≡ f.points → 4 + 2 * length points ≡ length (symbols_octets f)
unfolding symbols_octets
length_symbols f points is =
    omega (arith, length-append (head_octets f.rate f.length) (flat_map point_octets f.points), length-points f.points, ap (λ (z : List Point). length z) is)

-- the symbols of a frame, as they were read
pub takes_symbols : (f : SymbolsView) (rate : Rate) (len : ℕ) (made points : List Point) (a b c : Device ℕ)
    → f ≡ record { rate = rate; length = len; points = made } → made ≡ points
    → Takes a b (head_octets rate len) → Takes b c (flat_map point_octets points) → Takes a c (symbols_octets f)
unfolding symbols_octets
takes_symbols f rate len made points a b c is same x y =
    let whole : head_octets rate len ++ flat_map point_octets points ≡ head_octets f.rate f.length ++ flat_map point_octets f.points =
    ap (λ (ps : List Point). head_octets rate len ++ flat_map point_octets ps) (sym same)
    ∙ ap (λ (g : SymbolsView). head_octets g.rate g.length ++ flat_map point_octets g.points) (sym is) in
    takes_as a c (head_octets rate len ++ flat_map point_octets points) (head_octets f.rate f.length ++ flat_map point_octets f.points) whole
    (takes-append a b c (head_octets rate len) (flat_map point_octets points) x y)

-- no frame has more symbols than the longest one at the lowest rate
pub symbols_most : (r : Rate) (len : ℕ) → len ≤ 65535 → symbols_of r len ≤ 20166
unfolding needed_bits_of
symbols_most r len bounded = elim (cases_lt 20166 (symbols_of r len)) [
  | inl more ↦
      let d = data_bits_of r in
      let over : 20167 ≤ symbols_of r len = omega (arith, more) in
      let same : d ≤ d = omega arith in
      let bits : 20167 * d ≤ symbols_of r len * d = mul-le-mul over same in
      absurd (omega (arith, bits, (symbols_of-holds r len).1, (data_bits_of-range r), (encoders_of-range r), bounded))
  | inr few ↦ few
]

-- nor more points than 456 in each symbol
pub points_of-few : (r : Rate) (len : ℕ) → len ≤ 65535 → points_of r len ≤ 9195696
unfolding points_of
points_of-few r len bounded =
    let all : symbols_of r len * carriers_of r * streams_of r ≤ 20166 * 114 * 4 =
    mul-le-mul (mul-le-mul (symbols_most r len bounded) (carriers_of-range r).1) (streams_of-range r).1 in
    omega (arith, all)

pub points_few : (r : Rate) (len : ℕ) (points : List Point) → IsSymbols r len points → length points ≤ 9195696
points_few r len points is = omega (arith, is.whole, points_of-few r len is.bounded)

-- what the format owes to the reading of its files
pub symbols_counted : IsCounted (headed pointed) symbols_octets IsSymbolFrame 18391396
symbols_counted = record {
  count = is_count;
  leads = λ left f some is. leads_by symbols (frame_due left) (frame_due (left - 1)) (symbols_octets f) (f ∷ []) (route_symbols left f some is);
  short = λ f is. omega (arith, length_symbols f f.points refl, points_few f.rate f.length f.points is);
  bound = omega arith;
}

-- what holds of files of symbols
pub symbols_files : AreFiles symbols AreSymbolFrames symbols_file_of
unfolding symbols_file_of
symbols_files = are_files (headed pointed) symbols_octets IsSymbolFrame 18391396 symbols_counted

pub symbols_written : WritesFiles symbols AreSymbolFrames symbols_file_of
symbols_written = symbols_files.written

pub symbols_same : ReadsBack AreSymbolFrames symbols_file_of
symbols_same = symbols_files.read_back

pub count_is : (r : Rate) (len n a b : ℕ) → n ≡ symbols_of r len → a ≡ carriers_of r → b ≡ streams_of r → n * (a * b) ≡ points_of r len
unfolding points_of
count_is r len n a b e f g =
    sym (mul_assoc n a b)
    ∙ (ap (λ x. x * a * b) e ∙ (ap (λ x. symbols_of r len * x * b) f ∙ ap (λ x. symbols_of r len * carriers_of r * x) g))

-- behind some symbols there is room for one more
pub room_left : (r : Rate) (len size symbol : ℕ) → size ≡ symbol * (carriers_of r * streams_of r) → symbol < symbols_of r len
    → size + carriers_of r * streams_of r ≤ points_of r len
unfolding points_of
room_left r len size symbol is few =
    let w = carriers_of r * streams_of r in
    let next : (symbol + 1) * w ≡ symbol * w + 1 * w = add-mul symbol 1 w in
    let more : symbol + 1 ≤ symbols_of r len = omega (arith, few) in
    let all : (symbol + 1) * w ≤ symbols_of r len * w = mul-le-mul more (let same : w ≤ w = omega arith in same) in
    omega (arith, is, next, all, mul_assoc (symbols_of r len) (carriers_of r) (streams_of r))

-- all symbols have all points
pub symbols_read : (r : Rate) (len size symbol : ℕ) → size ≡ symbol * (carriers_of r * streams_of r) → symbol ≡ symbols_of r len → size ≡ points_of r len
unfolding points_of
symbols_read r len size symbol is all =
    is ∙ (ap (λ (n : ℕ). n * (carriers_of r * streams_of r)) all ∙ sym (mul_assoc (symbols_of r len) (carriers_of r) (streams_of r)))

-- a symbol has points
pub width_some : (r : Rate) → 1 ≤ carriers_of r * streams_of r
width_some r =
    let n : 1 ≤ carriers_of r = omega (arith, (carriers_of-range r).0) in
    let w : 1 ≤ streams_of r = omega (arith, (streams_of-range r).0) in
    let all : 1 * 1 ≤ carriers_of r * streams_of r = mul-le-mul n w in
    omega (arith, all)
