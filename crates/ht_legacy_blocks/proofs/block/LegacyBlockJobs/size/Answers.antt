use Rattle.std.proofs.Common.{◌∙◌, sym}
use Rattle.std.specs.Arc.{arc_value}
use Rattle.ht_legacy_blocks.proofs.Splitting.{jobs_length}
use Rattle.ht_legacy_blocks.proofs.block.LegacyBlockJobs.size.Goals as goal

pub returns : goal.returns
returns c =
    let b = c.self.inside in
    rw (← c.self.view_is) (c.from.ensures ∙ sym (jobs_length (arc_value b.symbol) b.first b.count))
