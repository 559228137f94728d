use Rattle.std.proofs.Common.{arith, ap, length}
use Rattle.ht_metric.proofs.RowLemmas.{length-rows_of}
use Rattle.ht_metric.proofs.system.System.distance.Goals as goal

pub distance-requires-clause-streams : goal.distance-requires-clause-streams
distance-requires-clause-streams c =
    let s = c.self.inside in
    omega (arith, c.requires.streams, ap length c.self.view_is, length-rows_of s.triangle s.y)
