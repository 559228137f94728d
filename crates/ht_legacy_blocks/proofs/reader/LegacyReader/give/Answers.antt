use Rattle.std.proofs.Common.{◌≡◌, ◌≤◌, ◌-◌, refl, arith}
use Rattle.std.specs.Arc.{arc_value}
use Rattle.ht_legacy_blocks.specs.Jobs.{diagonals_of}
use Rattle.ht_legacy_blocks.specs.Readers.{Progress, more_behind, progress}
use Rattle.ht_legacy_blocks.proofs.Seeing.{jobs_seen}
use Rattle.ht_legacy_blocks.proofs.Splitting.{block_counts, block_of}
use Rattle.ht_legacy_blocks.proofs.reader.LegacyReader.give.Goals as goal

pub returns-clause-told : goal.returns-clause-told
returns-clause-told c = λ source.
    let i = c.self.inside in
    let count = c.min-count.result in
    let old : Progress = progress i.stage i.at i.frames i.head (diagonals_of i.diagonals) i.symbols i.jobs (arc_value i.symbol) i.left in
    let new : Progress = progress i.stage i.at i.frames i.head (diagonals_of i.diagonals) i.symbols i.jobs (arc_value i.symbol) (i.left - count) in
    let within : count ≤ i.left = omega (arith, c.min-count.ensures, c.from.ensures) in
    let e = c.in_ok-symbol.ensures in
    let same : arc_value c.in_ok-symbol.symbol ≡ arc_value i.symbol = cc in
    rw (← c.self.view_is)
    (jobs_seen old new source count c.of.result (record { course = refl; state = refl; at = refl }) refl refl within c.self.invariant.few
    (block_of (arc_value c.in_ok-symbol.symbol) (arc_value i.symbol) i.left count c.of.result same c.of.ensures))

pub returns-clause-counted : goal.returns-clause-counted
returns-clause-counted c =
    let i = c.self.inside in
    let count = c.min-count.result in
    let due : 1 ≤ i.left = rw (← c.self.view_is) at c.requires.due in
    let within : count ≤ i.left = omega (arith, c.min-count.ensures, c.from.ensures) in
    let few : count ≤ c.args.most = omega (arith, c.min-count.ensures, c.from.ensures) in
    let some : 1 ≤ count = omega (arith, c.min-count.ensures, c.from.ensures, due, c.requires.some) in
    let e = c.in_ok-symbol.ensures in
    let same : arc_value c.in_ok-symbol.symbol ≡ arc_value i.symbol = cc in
    rw (← c.self.view_is)
    (block_counts c.args.most i.left i.jobs (more_behind i.stage) count (arc_value i.symbol) c.of.result
    (block_of (arc_value c.in_ok-symbol.symbol) (arc_value i.symbol) i.left count c.of.result same c.of.ensures)
    some few within c.self.invariant.few c.self.invariant.given (c.self.invariant.number (omega (arith, due))))
