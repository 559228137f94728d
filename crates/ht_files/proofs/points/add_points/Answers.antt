use Rattle.std.proofs.Common.{◌/◌, ◌%◌, length-append, ◌≡◌, ◌+◌, ◌*◌, ◌<◌, ◌++◌, ◌∷◌, [], ◌∙◌, ℕ, List, length, drop, flat_map, refl, sym, ap, subst, arith}
use Rattle.std.proofs.Common.{slice_index, slice_index_or}
use Rattle.std.proofs.lemmas.List.{length-drop, take-append-drop}
use Rattle.std.proofs.lemmas.Nat.{div_below}
use Rattle.ht_io.specs.declared.faults.InFault.{InFault}
use Rattle.ht_io.specs.declared.faults.InFault.TheVariants.{Format}
use Rattle.ht_io.specs.declared.faults.Kind.{Kind}
use Rattle.ht_rate.specs.declared.kinds.Carrier.{Carrier}
use Rattle.ht_rate.specs.declared.kinds.Carrier.TheVariants.{Data}
use Rattle.ht_rate.specs.declared.rates.Rate.{Rate}
use Rattle.ht_rate.specs.Carriers.{IsAmong, carrier_of}
use Rattle.ht_rate.specs.Rates.{carriers_of, streams_of}
use Rattle.ht_rate.proofs.CarrierFacts.{carrier_of-among}
use Rattle.ht_rate.proofs.RateFacts.{streams_of-range}
use Rattle.ht_pam.specs.declared.point.Point.{Point}
use Rattle.ht_tx.specs.Symbols.{Fits}
use Rattle.ht_files.specs.Places.{carrier_at_place}
use Rattle.ht_files.specs.Points.{kind_on, point_octets}
use Rattle.ht_files.proofs.Levels.{fits_true, misfit}
use Rattle.ht_files.proofs.Walks.{added_more, fitting_more, kind_at, length-points, misfit_at, point_again, symbol_bound, two_behind, two_more}
use Rattle.ht_files.proofs.points.add_points.Goals as goal
use Rattle.ht_files.proofs.points.add_points.Goals.{After-is_fitting}

-- a point of a symbol, behind this number of points of its frame, in that many octets of the symbol
record IsPlaced (r : Rate) (symbol place points octets : ℕ) (carrier : Carrier) : Type 0 where
  few : place < carriers_of r * streams_of r
  more : 2 * place + 1 < octets
  is : carrier ≡ carrier_of r (place / streams_of r)
  size : points ≡ symbol * (carriers_of r * streams_of r) + place

placed : (c : After-is_fitting) → IsPlaced c.args.rate.now c.args.symbol c.loop-place.place (length c.loop-place.points.items) (length c.args.octets.now)
    (slice_index_or c.args.carriers.now c.loop-place.place (Data 0))
placed c =
    let r = c.args.rate.now in
    let (added, is, count, front) = c.loop-place.invariant.added in
    let few : c.loop-place.place < carriers_of r * streams_of r = omega (arith, c.loop-place-test.true, c.requires.most) in
    record {
      few = few;
      more = omega (arith, c.loop-place-test.true);
      is = c.requires.carriers c.loop-place.place few;
      size = omega (arith, ap (λ (z : List Point). length z) is, length-append c.args.points.now.items added, count, c.requires.start);
    }

pub bounds-carriers-place : goal.bounds-carriers-place
bounds-carriers-place c = omega (arith, c.loop-place-test.true, c.requires.most, symbol_bound c.args.rate.now)

pub is_fitting-requires : goal.is_fitting-requires
is_fitting-requires c =
    let r = c.args.rate.now in
    let k = c.loop-place.place in
    let few : k < carriers_of r * streams_of r = omega (arith, c.loop-place-test.true, c.requires.most) in
    let some : 0 < streams_of r = omega (arith, (streams_of-range r).0) in
    subst (λ (x : Carrier). IsAmong r x) (sym (c.requires.carriers k few))
    (carrier_of-among r (k / streams_of r) (div_below k (streams_of r) (carriers_of r) some few))

pub returns-then-not-is_fitting-clause-misfit : goal.returns-then-not-is_fitting-clause-misfit
returns-then-not-is_fitting-clause-misfit c =
    let at = placed (goal.at.returns-then-not-is_fitting-clause-misfit c).After-is_fitting in
    let r = c.args.rate.now in
    let octets = c.args.octets.now in
    let k = c.loop-place.place in
    let was = c.loop-place.invariant in
    let points = c.loop-place.points.items in
    let a = slice_index octets (2 * k) in
    let b = slice_index octets (2 * k + 1) in
    let carrier = slice_index_or c.args.carriers.now k (Data 0) in
    let added = was.added.0 in
    let place : c.args.at + 2 * k ≡ c.args.at + length (flat_map point_octets added) = omega (arith, length-points added, was.added.2) in
    let kinds : c.fault_kind.result ≡ kind_on (carrier_at_place r (length points)) =
    c.fault_kind.ensures ∙ kind_at r (length points) c.args.symbol k carrier at.size at.few at.is in
    record {
      added = added;
      bad = a ∷ b ∷ [];
      rest = drop (2 * (k + 1)) octets;
      points = was.added.1;
      split = two_behind octets k at.more ∙ ap (λ (z : List ℕ). z ++ ((a ∷ b ∷ []) ++ drop (2 * (k + 1)) octets)) was.added.3;
      two = refl;
      misfit = misfit_at r (length points) c.args.symbol k carrier (a ∷ b ∷ []) at.size at.few at.is
          (misfit r c.args.symbol carrier (k % streams_of r + 1) (a ∷ b ∷ []) c.point_of-point.result c.point_of-point.ensures
          (sym c.is_fitting.ensures ∙ c.if-not-is_fitting.true));
      fault_is = c.bad.ensures
          ∙ (ap (λ (x : Kind). let f : InFault = Format (record { kind = x; offset = c.args.at + 2 * k }) in f) kinds
          ∙ ap (λ (n : ℕ). let f : InFault = Format (record { kind = kind_on (carrier_at_place r (length points)); offset = n }) in f) place);
    }

pub loop-place-preserved : goal.loop-place-preserved
loop-place-preserved c =
    let at = placed (goal.at.loop-place-preserved c).After-is_fitting in
    let r = c.args.rate.now in
    let octets = c.args.octets.now in
    let k = c.loop-place.place in
    let was = c.loop-place.invariant in
    let xs = c.loop-place.points.items in
    let ys = c.push_reserved.new.self.items in
    let p = c.point_of-point.result in
    let a = slice_index octets (2 * k) in
    let b = slice_index octets (2 * k + 1) in
    let items : ys ≡ xs ++ p ∷ [] = c.push_reserved.ensures.items in
    let fits : Fits r c.args.symbol (carrier_of r (k / streams_of r)) (k % streams_of r + 1) p =
    subst (λ (x : Carrier). Fits r c.args.symbol x (k % streams_of r + 1) p) at.is
    (fits_true r c.args.symbol (slice_index_or c.args.carriers.now k (Data 0)) (k % streams_of r + 1) p
    (sym c.is_fitting.ensures ∙ c.if-not-is_fitting.false)) in
    let low : a < 256 = omega (arith, c.type_inv.octets (2 * k)) in
    let high : b < 256 = omega (arith, c.type_inv.octets (2 * k + 1)) in
    record {
      added = added_more c.args.points.now.items xs ys was.added.0 p octets k a b was.added.1 was.added.2 was.added.3 items
          (point_again a b p low high c.point_of-point.ensures) (two_more octets k at.more);
      fitting = fitting_more r xs ys c.args.symbol k p at.size at.few items fits was.fitting;
      capacity = c.push_reserved.ensures.capacity ∙ was.capacity;
    }

pub returns-clause-added : goal.returns-clause-added
returns-clause-added c =
    let was = c.loop-place.invariant.added in
    let octets = c.args.octets.now in
    record {
      added = was.0;
      rest = drop (2 * c.loop-place.place) octets;
      points = was.1;
      split = sym (take-append-drop (2 * c.loop-place.place) octets) ∙ ap (λ (z : List ℕ). z ++ drop (2 * c.loop-place.place) octets) was.3;
      short = omega (arith, length-drop (2 * c.loop-place.place) octets, c.loop-place-test.false, c.loop-place.auto.place-end);
    }
