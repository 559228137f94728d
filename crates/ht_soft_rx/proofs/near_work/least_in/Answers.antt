use Rattle.std.proofs.Common.{◌∙◌, arith}
use Rattle.std.specs.Prelude.{unwrap_or}
use Rattle.ht_map.specs.Gray.{label_of}
use Rattle.ht_soft_rx.proofs.Lanes.{in_lane}
use Rattle.ht_soft_rx.proofs.near_work.least_in.Goals as goal

pub returns : goal.returns
returns g c = λ job there.
    c.from.ensures ∙ in_lane (λ p. unwrap_or (label_of c.args.modulation p) 0) (g.B.Jobs.jobs c.args.block.now) c.args.lanes.now c.args.from c.args.at
    c.from-lane.result job c.from-lane.ensures c.requires.first c.requires.last c.requires.labels there (omega (arith, c.if-lanes-lane-eq0.false))
