use Rattle.std.proofs.Common.{arith, slice_index}
use Rattle.ht_rounding.specs.declared.levels.Levels.TheVariants.{Four}
use Rattle.ht_rounding.specs.Proposals.{farthest}
use Rattle.ht_rounding.proofs.Rooms.{several-is}
use Rattle.ht_rounding.proofs.levels.four.Goals as goal

pub returns : goal.returns
returns c k lt =
    several-is Four (slice_index c.args.target k) (slice_index c.args.d k) (slice_index c.args.cut k) _ (slice_index c.at_four.result.gap k) _ _
    (c.requires k lt)
    (c.at_four.ensures k lt farthest (omega arith)) (c.lesser.ensures.lane k lt) (c.over.ensures.lane k lt)
