use Rattle.std.proofs.Common.{◌≡◌, ◌<◌, ◌≤◌, ◌+◌, length, arith}
use Rattle.std.specs.Arc.{arc_value}
use Rattle.ht_legacy_blocks.specs.Jobs.{jobs_between}
use Rattle.ht_legacy_blocks.proofs.Splitting.{block_place, inside_block}
use Rattle.ht_legacy_blocks.proofs.block.LegacyBlockJobs.place.Goals as goal

pub returns : goal.returns
returns c =
    let b = c.self.inside in
    let some : 1 ≤ length (jobs_between (arc_value b.symbol) b.first b.count) = rw (← c.self.view_is) at c.requires in
    let lt : 0 < b.count = inside_block (arc_value b.symbol) b.first b.count 0 (omega (arith, some)) in
    let same : b.first + 0 ≡ b.first = omega arith in
    rw (← c.self.view_is) (block_place (arc_value b.symbol) c.deref.result.now b.first b.count 0 b.first c.place.result lt c.deref.ensures same c.place.ensures)
