use Rattle.std.proofs.Common.{map, arith}
use Rattle.ht_viterbi.specs.Trellis.{costs_of}
use Rattle.ht_viterbi.proofs.Steps.{pair-is, start-at}
use Rattle.ht_viterbi.proofs.pairs.step_at.Goals as goal

pub costs_from-requires : goal.costs_from-requires
costs_from-requires g c =
    let back = start-at c.args.pattern c.args.at c.args.start.now c.places_of.result c.kept_at-kept.result c.requires.start c.kept_at-kept.ensures
    c.places_of.ensures in
    omega (arith, back.1, c.requires.within)

pub returns-clause-value : goal.returns-clause-value
returns-clause-value g c =
    let back = start-at c.args.pattern c.args.at c.args.start.now c.places_of.result c.kept_at-kept.result c.requires.start c.kept_at-kept.ensures
    c.places_of.ensures in
    pair-is c.args.pattern (map (costs_of g.P.CodedPlace.cost) c.args.received.now) c.args.at _ c.kept_at-kept.result c.costs_from.result
    c.kept_at-kept.ensures back.0 c.costs_from.ensures.value

pub returns-clause-start : goal.returns-clause-start
returns-clause-start g c =
    (start-at c.args.pattern c.args.at c.args.start.now c.places_of.result c.kept_at-kept.result c.requires.start c.kept_at-kept.ensures c.places_of.ensures).0
