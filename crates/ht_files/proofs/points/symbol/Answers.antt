use Rattle.std.proofs.Common.{◌≡◌, ◌*◌, length, take, arith}
use Rattle.std.proofs.lemmas.List.{length-take-le}
use Rattle.ht_rate.specs.Rates.{carriers_of, streams_of}
use Rattle.ht_files.proofs.PointRoutes.{front_broke, front_ended, front_misfit, symbol_whole}
use Rattle.ht_files.proofs.points.symbol.Goals as goal

pub returns-then-count-block-clause-failed : goal.returns-then-count-block-clause-failed
returns-then-count-block-clause-failed g c = λ left len room.
    front_ended left c.args.rate.now len c.args.at c.in-Ok.count c.args.points.now.items c.add_points.new.points.items c.read_front.new.into
    (g.S.Source.shown c.args.source.now) (g.S.Source.shown c.read_front.new.source) (omega (arith, c.requires.block, c.read_front.auto.into)) room
    c.in-Ok-add_points.ensures.fitting c.bad.result (omega (arith, c.if-count-block.true)) (c.in-Ok.ensures.ended c.if-count-block.true)
    c.in-Ok-add_points.ensures.added c.bad.ensures

pub returns-else-count-block-clause-whole : goal.returns-else-count-block-clause-whole
returns-else-count-block-clause-whole g c =
    let r = c.args.rate.now in
    let into = c.read_front.new.into in
    let n = c.in-Ok.count in
    let front = take n into in
    let size : length front ≡ n = length-take-le n into (omega (arith, c.in-Ok.ensures.within)) in
    let whole : length front ≡ 2 * (carriers_of r * streams_of r) =
    omega (arith, size, c.if-count-block.false, c.in-Ok.ensures.within, c.requires.block, c.read_front.auto.into) in
    symbol_whole r c.args.points.now.items c.add_points.new.points.items front (g.S.Source.shown c.args.source.now)
    (g.S.Source.shown c.read_front.new.source) whole c.in-Ok.ensures.taken c.in-Ok-add_points.ensures.added

pub returns-in-Err-add_points-clause-failed : goal.returns-in-Err-add_points-clause-failed
returns-in-Err-add_points-clause-failed g c = λ left len room.
    front_misfit left c.args.rate.now len c.args.at c.in-Ok.count c.args.points.now.items c.add_points.new.points.items c.read_front.new.into
    (g.S.Source.shown c.args.source.now) (g.S.Source.shown c.read_front.new.source) (omega (arith, c.requires.block, c.read_front.auto.into)) room
    c.in-Err-add_points.ensures.fitting c.in-Err-add_points.fault (omega (arith, c.in-Ok.ensures.within)) c.in-Ok.ensures.taken
    c.in-Err-add_points.ensures.misfit

pub returns-in-Ok-add_points-2-clause-failed : goal.returns-in-Ok-add_points-2-clause-failed
returns-in-Ok-add_points-2-clause-failed g c = λ left len room.
    let broken = c.in-Err.ensures.broken in
    front_broke left c.args.rate.now len c.args.at c.in-Err.count c.args.points.now.items c.add_points-in-Err.new.points.items c.read_front.new.into
    (g.S.Source.shown c.args.source.now) (g.S.Source.shown c.read_front.new.source) (omega (arith, c.requires.block, c.read_front.auto.into)) room
    c.in-Ok-add_points-2.ensures.fitting (omega (arith, broken.0)) broken.1 c.in-Ok-add_points-2.ensures.added c.in-Err.ensures.cause

pub returns-in-Err-add_points-2-clause-failed : goal.returns-in-Err-add_points-2-clause-failed
returns-in-Err-add_points-2-clause-failed g c = λ left len room.
    let broken = c.in-Err.ensures.broken in
    front_misfit left c.args.rate.now len c.args.at c.in-Err.count c.args.points.now.items c.add_points-in-Err.new.points.items c.read_front.new.into
    (g.S.Source.shown c.args.source.now) (g.S.Source.shown c.read_front.new.source) (omega (arith, c.requires.block, c.read_front.auto.into)) room
    c.in-Err-add_points-2.ensures.fitting c.in-Err-add_points-2.fault (omega (arith, broken.0)) broken.1 c.in-Err-add_points-2.ensures.misfit
