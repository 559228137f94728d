use Rattle.std.proofs.Common.{◌≤◌, ◌<◌, ◌+◌, arith, slice_index}
use Rattle.std.specs.Prelude.{unwrap_or}
use Rattle.std.specs.Arc.{arc_value}
use Rattle.ht_map.specs.Gray.{label_of}
use Rattle.ht_rounding.specs.Labels.{IsLabelled}
use Rattle.ht_legacy_blocks.proofs.Splitting.{block_labelled, eight_inside}
use Rattle.ht_legacy_blocks.proofs.block.LegacyBlockInLanes.labels.Goals as goal

pub labels-requires : goal.labels-requires
labels-requires c =
    let b = c.self.inside in
    let within : c.args.at + 8 ≤ b.count = eight_inside (arc_value b.symbol) b.first b.count c.args.at (rw (← c.self.view_is) at c.requires) in
    omega (arith, within, c.self.invariant)

pub returns-clause-labels : goal.returns-clause-labels
returns-clause-labels c =
    let b = c.self.inside in
    let within : c.args.at + 8 ≤ b.count = eight_inside (arc_value b.symbol) b.first b.count c.args.at (rw (← c.self.view_is) at c.requires) in
    rw (← c.self.view_is)
    (block_labelled (arc_value b.symbol) c.deref.result.now b.first b.count c.args.at
    (λ k job. 0 < slice_index c.labels.result.sure k → IsLabelled (λ p. unwrap_or (label_of c.args.modulation p) 0) c.labels.result k job)
    c.deref.ensures within c.labels.ensures.labels)
