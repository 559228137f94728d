use Rattle.ht_metric.proofs.Order.{less_is_vectors}
use Rattle.ht_metric.proofs.vector.Vector.before.Goals as goal

pub returns : goal.returns
returns c =
    less_is_vectors c.points.result.now c.points-2.result.now c.args.self.now c.args.other.now c.lt.result c.lt.ensures
    c.points.ensures c.points-2.ensures
