use Rattle.std.proofs.Common.{◌∙◌, arith}
use Rattle.ht_files.proofs.PointRoutes.{count_is, points_of-few}
use Rattle.ht_files.proofs.points.count_of.Goals as goal

pub returns : goal.returns
returns c =
    let r = c.args.rate.now in
    let value = count_is r c.args.length c.symbols.result c.from.result c.from-2.result c.symbols.ensures.value
    (c.from.ensures ∙ c.carriers.ensures.value) (c.from-2.ensures ∙ c.streams.ensures.value) in
    record { value = value; bound = omega (arith, value, points_of-few r c.args.length (omega arith)) }
