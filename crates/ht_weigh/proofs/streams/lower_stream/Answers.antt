use Rattle.std.proofs.Common.{◌∙◌, ◌+◌, drop, arith, refl, sym}
use Rattle.ht_weigh.proofs.Labels.{stream_told, stream_silent, point_is}
use Rattle.ht_weigh.proofs.streams.lower_stream.Goals as goal

pub returns-in-Some : goal.returns-in-Some
returns-in-Some c =
    stream_told c.args.modulation (drop 2 c.args.levels.now) c.args.distance c.args.k (c.args.k + 1) c.in-Some.label c.point.result _ _ refl
    (point_is c.args.levels.now c.args.k c.point.result c.requires.first (omega (arith, c.requires.there)) c.point.ensures.i c.point.ensures.q)
    (sym c.label.ensures.value ∙ c.in-Some.is) c.lower_label.ensures

pub returns-in_default : goal.returns-in_default
returns-in_default c =
    stream_silent c.args.modulation (drop 2 c.args.levels.now) c.args.distance c.args.k c.point.result _
    (point_is c.args.levels.now c.args.k c.point.result c.requires.first (omega (arith, c.requires.there)) c.point.ensures.i c.point.ensures.q)
    (sym c.label.ensures.value ∙ c.in_default.is)
