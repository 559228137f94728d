use Rattle.std.proofs.Common.{refl, slice_index, [], ◌∷◌, List}
use Rattle.ht_pam.specs.declared.point.Point.{Point}
use Rattle.ht_rounding.specs.InLanes.{point_at}
use Rattle.ht_rounding.proofs.Labelling.{lane_labelled, of_two}
use Rattle.ht_rounding.proofs.eight.label_two.Goals as goal

pub returns-clause-labels : goal.returns-clause-labels
returns-clause-labels c k job lt some has =
    let ps : List Point = point_at c.detect_two-found.result.first k ∷ point_at c.detect_two-found.result.second k ∷ [] in
    lane_labelled c.args.i c.args.q c.args.eight.now _ k 2 (slice_index c.detect_two-found.result.first.spare k) _ job ps
    (slice_index c.detect_two-found.result.first.rho k) (c.lesser.ensures.lane k lt) some has
    (λ left here. c.detect_two-found.ensures k job lt left here) refl
    (of_two c.args.i c.args.q (point_at c.detect_two-found.result.first k) (point_at c.detect_two-found.result.second k) _ _ (c.labels-first.ensures k lt)
    (c.labels.ensures k lt))
