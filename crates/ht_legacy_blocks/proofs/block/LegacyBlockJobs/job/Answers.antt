use Rattle.std.proofs.Common.{◌<◌}
use Rattle.std.specs.Arc.{arc_value}
use Rattle.ht_legacy_blocks.proofs.Splitting.{block_job, inside_block}
use Rattle.ht_legacy_blocks.proofs.block.LegacyBlockJobs.job.Goals as goal

pub returns : goal.returns
returns c =
    let b = c.self.inside in
    let lt : c.args.at < b.count = inside_block (arc_value b.symbol) b.first b.count c.args.at (rw (← c.self.view_is) at c.requires) in
    rw (← c.self.view_is)
    (block_job (arc_value b.symbol) c.deref.result.now b.first b.count c.args.at c.job.result lt c.deref.ensures c.job.ensures)
