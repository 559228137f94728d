use Rattle.std.proofs.Common.{refl, slice_index, [], ◌∷◌, List}
use Rattle.ht_pam.specs.declared.point.Point.{Point}
use Rattle.ht_rounding.specs.InLanes.{point_at}
use Rattle.ht_rounding.proofs.Labelling.{lane_labelled, of_one}
use Rattle.ht_rounding.proofs.eight.label_one.Goals as goal

pub returns-clause-labels : goal.returns-clause-labels
returns-clause-labels c k job lt some has =
    let ps : List Point = point_at c.detect_one-found.result k ∷ [] in
    lane_labelled c.args.i c.args.q c.args.eight.now _ k 1 (slice_index c.detect_one-found.result.spare k) _ job ps
    (slice_index c.detect_one-found.result.rho k) (c.lesser.ensures.lane k lt) some has
    (λ left here. c.detect_one-found.ensures k job lt left here) refl
    (of_one c.args.i c.args.q (point_at c.detect_one-found.result k) _ (c.labels-first.ensures k lt))
