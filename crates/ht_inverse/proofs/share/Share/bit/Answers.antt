use Rattle.std.proofs.Common.{◌*◌, ◌+◌, ◌∙◌, false, arith, slice_index_or}
use Rattle.ht_inverse.specs.declared.label_bit.LabelBit.{LabelBit}
use Rattle.ht_inverse.proofs.Gathered.{few-labels, has-is, known-is, label-inside, place-is, places-length, share-few}
use Rattle.ht_inverse.proofs.share.Share.bit.Goals as goal

abbrev no_place : LabelBit
no_place = record { label = 0; shift = 0; mask = 0; lost = false }

pub offset_bounds-places-place : goal.offset_bounds-places-place
offset_bounds-places-place g c = omega (arith, share-few c.args.self.now.rate, c.requires.place)

pub bounds-places-place : goal.bounds-places-place
bounds-places-place g c =
    let s = c.args.self.now in
    let h = places-length s.rate s.erased s.encoder c.args.places.now (c.requires.places ∙ s.places_are) in
    let b = c.requires.place in
    omega (arith, h, b)

pub overflow_add-symbol : goal.overflow_add-symbol
overflow_add-symbol g c =
    let s = c.args.self.now in
    let place : LabelBit = slice_index_or c.args.places.now c.args.place no_place in
    let inside = label-inside s.rate s.erased s.encoder c.args.symbol c.args.place c.args.symbols c.args.per_symbol c.args.places.now no_place s.there
    (c.requires.places ∙ s.places_are) c.requires.place c.requires.symbol c.requires.per_symbol in
    let few = few-labels s.rate c.args.symbols (c.args.symbol * c.args.per_symbol + place.label) c.requires.few (omega (arith, inside)) in
    omega (arith, few, c.from.ensures)

pub overflow_mul-symbol : goal.overflow_mul-symbol
overflow_mul-symbol g c =
    let s = c.args.self.now in
    let inside = label-inside s.rate s.erased s.encoder c.args.symbol c.args.place c.args.symbols c.args.per_symbol c.args.places.now no_place s.there
    (c.requires.places ∙ s.places_are) c.requires.place c.requires.symbol c.requires.per_symbol in
    omega (arith, few-labels s.rate c.args.symbols (c.args.symbol * c.args.per_symbol) c.requires.few (omega (arith, inside)))

pub known-requires : goal.known-requires
known-requires g c =
    let s = c.args.self.now in
    let is = place-is s.rate s.erased s.encoder c.args.place c.args.places.now no_place (c.requires.places ∙ s.places_are) c.requires.place in
    has-is (g.L.LabelValues.has c.args.labels.now) s.rate s.erased s.encoder c.args.symbols c.args.symbol c.args.place c.args.per_symbol c.from.result
    (slice_index_or c.args.places.now c.args.place no_place) c.requires.labels c.requires.symbol is c.requires.place c.requires.per_symbol c.from.ensures

pub returns : goal.returns
returns g c =
    let s = c.args.self.now in
    let is = place-is s.rate s.erased s.encoder c.args.place c.args.places.now no_place (c.requires.places ∙ s.places_are) c.requires.place in
    c.known.ensures
    ∙ known-is (g.L.LabelValues.known c.args.labels.now) s.rate s.erased s.encoder c.args.symbol c.args.place c.args.per_symbol c.from.result
    (slice_index_or c.args.places.now c.args.place no_place) is c.requires.place c.requires.per_symbol c.from.ensures
