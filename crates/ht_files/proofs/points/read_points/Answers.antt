use Rattle.std.proofs.Common.{◌≡◌, ◌≤◌, ◌<◌, ◌+◌, ◌*◌, ◌∙◌, List, drop, length, flat_map, length-append, sym, ap, arith}
use Rattle.std.proofs.lemmas.Grind.{flat_map-append}
use Rattle.std.proofs.lemmas.List.{length-drop, length-take}
use Rattle.std.proofs.Math.Nat.{add-mul}
use Rattle.ht_io.proofs.Calls.{later-later, takes-append}
use Rattle.ht_fields.proofs.Putting.{takes_as}
use Rattle.ht_pam.specs.declared.point.Point.{Point}
use Rattle.ht_rate.specs.Rates.{carriers_of, streams_of, symbols_of}
use Rattle.ht_tx.specs.Symbols.{points_of}
use Rattle.ht_files.specs.Points.{point_octets}
use Rattle.ht_files.proofs.PointRoutes.{points_of-few, room_left, symbols_all, symbols_end, symbols_read, width_some}
use Rattle.ht_files.proofs.points.read_points.Goals as goal

pub symbol-requires-clause-room : goal.symbol-requires-clause-room
symbol-requires-clause-room g c =
    let was = c.loop-index.invariant in
    omega (
      arith,
      room_left c.args.rate.now c.args.length (length c.loop-index.points.items) c.loop-index.index was.size
          (omega (arith, c.loop-index-test.true, c.symbols-index-end.ensures.value)),
      was.capacity,
      c.requires.room,
    )

pub overflow_add-at : goal.overflow_add-at
overflow_add-at g c =
    let was = c.loop-index.invariant in
    let r = c.args.rate.now in
    let size = length c.loop-index.points.items in
    let index = c.loop-index.index in
    let below : index < symbols_of r c.args.length = omega (arith, c.loop-index-test.true, c.symbols-index-end.ensures.value) in
    let room : size + carriers_of r * streams_of r ≤ points_of r c.args.length = room_left r c.args.length size index was.size below in
    omega (arith, was.place, room, points_of-few r c.args.length (omega arith), c.width-width.ensures.value, c.requires.place)

pub loop-index-preserved : goal.loop-index-preserved
loop-index-preserved g c =
    let was = c.loop-index.invariant in
    let (added, items, count, taken) = c.in-Ok.ensures.whole in
    let w = carriers_of c.args.rate.now * streams_of c.args.rate.now in
    let xs = c.loop-index.points.items in
    let ys = c.symbol.new.points.items in
    let before = g.S.Source.shown c.args.source.now in
    let mid = g.S.Source.shown c.loop-index.source in
    let after = g.S.Source.shown c.symbol.new.source in
    let more : length ys ≡ length xs + w = omega (arith, ap length items, length-append xs added, count) in
    record {
      octets = takes_as before after _ _ (sym (flat_map-append point_octets xs added) ∙ ap (λ (z : List Point). flat_map point_octets z) (sym items))
          (takes-append before mid after (flat_map point_octets xs) (flat_map point_octets added) was.octets taken);
      size = omega (arith, more, was.size, add-mul c.loop-index.index 1 w);
      place = omega (arith, more, was.place, c.width-width.ensures.value);
      fitting = c.in-Ok.ensures.fitting;
      capacity = c.in-Ok.ensures.capacity ∙ was.capacity;
      block = omega (
        arith,
        length-append c.symbol.new.block (drop c.width-width.result c.loop-index.block),
        length-drop c.width-width.result c.loop-index.block,
        length-take c.width-width.result c.loop-index.block,
        c.symbol.auto.block,
        was.block,
        c.width-width.ensures.bound,
      );
      later = later-later before mid after was.later c.in-Ok.ensures.later;
    }

pub returns-in-Err-clause-failed : goal.returns-in-Err-clause-failed
returns-in-Err-clause-failed g c = λ left.
    let was = c.loop-index.invariant in
    let r = c.args.rate.now in
    let points = c.loop-index.points.items in
    let index = c.loop-index.index in
    let below : index < symbols_of r c.args.length = omega (arith, c.loop-index-test.true, c.symbols-index-end.ensures.value) in
    let room : length points + carriers_of r * streams_of r ≤ points_of r c.args.length = room_left r c.args.length (length points) index was.size below in
    let few : length points < points_of r c.args.length = omega (arith, room, width_some r) in
    symbols_end left r c.args.length c.args.at c.loop-index.at points (g.S.Source.shown c.args.source.now) (g.S.Source.shown c.loop-index.source)
    (g.S.Source.shown c.symbol.new.source) c.in-Err.fault was.fitting few was.place was.octets was.later
    (c.in-Err.ensures.failed left c.args.length room)

pub returns-clause-fits : goal.returns-clause-fits
returns-clause-fits g c =
    let was = c.loop-index.invariant in
    let r = c.args.rate.now in
    let points = c.loop-index.points.items in
    let all : c.loop-index.index ≡ symbols_of r c.args.length =
    omega (arith, c.loop-index-test.false, c.loop-index.auto.index-end, c.symbols-index-end.ensures.value) in
    symbols_all r c.args.length points c.requires.some (omega arith) (symbols_read r c.args.length (length points) c.loop-index.index was.size all) was.fitting
