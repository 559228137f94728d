use Rattle.std.proofs.Common.{refl, slice_index, [], ◌∷◌, List}
use Rattle.ht_pam.specs.declared.point.Point.{Point}
use Rattle.ht_rounding.specs.InLanes.{point_at}
use Rattle.ht_rounding.proofs.Labelling.{lane_labelled, of_four}
use Rattle.ht_rounding.proofs.eight.label_four.Goals as goal

pub returns-clause-labels : goal.returns-clause-labels
returns-clause-labels c k job lt some has =
    let ps : List Point = point_at c.detect_four-found.result.first k ∷ point_at c.detect_four-found.result.second k ∷ point_at
    c.detect_four-found.result.third k ∷ point_at c.detect_four-found.result.fourth k ∷ [] in
    lane_labelled c.args.i c.args.q c.args.eight.now _ k 4 (slice_index c.detect_four-found.result.first.spare k) _ job ps
    (slice_index c.detect_four-found.result.first.rho k) (c.lesser.ensures.lane k lt) some has
    (λ left here. c.detect_four-found.ensures k job lt left here) refl
    (of_four c.args.i c.args.q (point_at c.detect_four-found.result.first k) (point_at c.detect_four-found.result.second k)
    (point_at c.detect_four-found.result.third k) (point_at c.detect_four-found.result.fourth k) _ _ _ _ (c.labels.ensures k lt)
    (c.labels-2.ensures k lt) (c.labels-3.ensures k lt) (c.labels-4.ensures k lt))
