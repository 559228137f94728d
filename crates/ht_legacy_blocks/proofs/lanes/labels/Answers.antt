use Rattle.std.proofs.Common.{◌+◌}
use Rattle.ht_legacy_blocks.proofs.InLanes.{in-lane}
use Rattle.ht_legacy_blocks.proofs.lanes.labels.Goals as goal

pub returns-clause-labels : goal.returns-clause-labels
returns-clause-labels c k lt sure =
    c.label_lanes.ensures.labels k _ lt sure
    (λ plain. in-lane c.args.modulation c.channel.result c.samples.result c.args.symbol.now k (c.args.first + k)
    (c.plain_by.ensures.modulation k lt plain) (c.plain_by.ensures.data k lt plain) (c.channel.ensures.first k lt)
    (c.samples.ensures.re k lt) (c.samples.ensures.im k lt))
