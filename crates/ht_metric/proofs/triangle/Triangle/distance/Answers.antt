use Rattle.std.proofs.Common.{arith, ap, length}
use Rattle.ht_metric.specs.Arrays.{length-legs_of}
use Rattle.ht_metric.proofs.triangle.Triangle.distance.Goals as goal

pub sum_rows-requires-clause-streams : goal.sum_rows-requires-clause-streams
sum_rows-requires-clause-streams c =
    let t = c.self.inside in
    omega (arith, c.requires.streams, ap length c.self.view_is, length-legs_of t.streams t.diagonal t.above)
