use Rattle.std.proofs.Common.{ℕ, ◌+◌, ◌*◌, ap, arith, slice_index_or}
use Rattle.std.specs.Int.RustNames.{bit_and}
use Rattle.ht_legacy_inverse.specs.declared.label_place.LabelPlace.{LabelPlace}
use Rattle.ht_legacy_inverse.specs.Places.{no_place}
use Rattle.ht_legacy_inverse.proofs.Gathered.{bit-is, label-within, place-found}
use Rattle.ht_legacy_inverse.proofs.gather.coded_bit.Goals as goal

pub overflow_add-at : goal.overflow_add-at
overflow_add-at c =
    let is = place-found c.args.rate c.args.places.now c.args.k c.from.result c.from.ensures c.requires.places c.requires.place in
    let w = label-within c.args.rate (slice_index_or c.args.places.now c.from.result no_place) c.args.k is c.requires.place in
    omega (arith, w, c.from-2.ensures, c.ranges.symbol.fits)

pub bounds-labels-at : goal.bounds-labels-at
bounds-labels-at c =
    let is = place-found c.args.rate c.args.places.now c.args.k c.from.result c.from.ensures c.requires.places c.requires.place in
    let w = label-within c.args.rate (slice_index_or c.args.places.now c.from.result no_place) c.args.k is c.requires.place in
    omega (arith, w, c.from-2.ensures, c.requires.labels)

pub returns : goal.returns
returns c =
    let place : LabelPlace = slice_index_or c.args.places.now c.from.result no_place in
    let is = place-found c.args.rate c.args.places.now c.args.k c.from.result c.from.ensures c.requires.places c.requires.place in
    let mark : ℕ → ℕ = λ carrier. bit_and (slice_index_or c.args.labels.now (c.args.symbol * 48 + carrier) 0) place.mask in
    bit-is c.args.rate c.args.labels.now place c.args.symbol c.args.k (mark c.from-2.result) c.requires.place is (ap mark c.from-2.ensures)
