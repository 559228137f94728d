use Rattle.std.proofs.Common.{◌≡◌, ◌+◌, ◌<◌, ◌∙◌, ◌++◌, [], ◌∷◌, List, length, get_or, arith, ap, length-append}
use Rattle.std.specs.List.{All, fold}
use Rattle.std.proofs.lemmas.List.Elements.{All-push, All-same, All-get_or}
use Rattle.ht_nearest.specs.Nearest.{keep}
use Rattle.ht_pam.specs.declared.point.Point.{Point}
use Rattle.ht_metric.specs.Distance.{distance_of, IsInRange}
use Rattle.ht_metric.specs.Vectors.{before, no_point}
use Rattle.ht_metric.specs.Trying.{vector_of, ends_of}
use Rattle.ht_metric.proofs.Ends.{ends_start, tried_one}
use Rattle.ht_metric.proofs.nearest.+try_ends.Goals as goal

pub loop-point-init : goal.loop-point-init
loop-point-init t c =
    let front = c.args.front in
    let grid = c.args.grid.now in
    let at = c.len-at.ensures.number in
    let count = c.streams.ensures.number in
    let within = c.requires.front in
    let other = c.if-at-streams.false in
    let below : length front < length grid = omega arith in
    record {
      found = ap (λ (xs : List (List Point)). fold (keep (distance_of c.args.system.now) before) (vector_of c.args.best) xs)
          (ends_start grid front c.as_slice-point-items.result.now (c.len-at.result + 1) c.i_ladder.result c.q_ladder.result below (omega arith)
          c.i_ladder.ensures.value c.q_ladder.ensures.value (c.as_slice-point-items.ensures.value ∙ c.points_of.ensures.points));
      best = c.requires.best;
    }

pub try_ends-best-requires : goal.try_ends-best-requires
try_ends-best-requires t c =
    let front = c.args.front in
    let ps = c.as_slice-point-items.result.now in
    let k = c.loop-point.point-index in
    let at = c.len-at.ensures.number in
    let count = c.streams.ensures.number in
    let within = c.requires.front in
    let other = c.if-at-streams.false in
    let below : length front < length c.args.grid.now = omega arith in
    let longer : length c.push.new.self ≡ length front + 1 = ap length c.push.ensures ∙ length-append front (get_or ps k no_point ∷ []) in
    let range : All IsInRange ps = All-same IsInRange ps c.points_of.result.items c.as_slice-point-items.ensures.value c.points_of.ensures.range in
    let small : IsInRange (get_or ps k no_point) = All-get_or IsInRange ps k no_point c.loop-point-test.true range in (
      omega arith,
      (
        c.requires.streams,
        (
          omega arith,
          (
            All-same IsInRange c.push.new.self (front ++ get_or ps k no_point ∷ []) c.push.ensures
                (All-push IsInRange front (get_or ps k no_point) c.requires.levels small),
            c.loop-point.invariant.best,
          ),
        ),
      ),
    )

pub loop-point-preserved : goal.loop-point-preserved
loop-point-preserved t c = record {
  found = tried_one (distance_of c.args.system.now) (vector_of c.args.best) (vector_of c.loop-point.best)
      (vector_of c.try_ends-best.result) c.args.grid.now c.args.front c.push.new.self
      c.as_slice-point-items.result.now c.loop-point.point-index no_point
      (ends_of c.args.grid.now c.args.front) c.loop-point-test.true c.push.ensures c.try_ends-best.ensures.found c.loop-point.invariant.found;
  best = c.try_ends-best.ensures.best;
}
