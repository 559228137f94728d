use Rattle.std.proofs.Common.{rules}
use Rattle.ht_metric.proofs.SameLemmas.{triangles_compare}
use Rattle.ht_metric.proofs.triangle.TrianglePartialEq.eq.Goals as goal

pub returns : goal.returns
returns c = search (rules, triangles_compare)
