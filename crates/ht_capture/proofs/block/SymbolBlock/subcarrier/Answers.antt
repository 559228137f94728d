use Rattle.std.proofs.Common.{◌<◌, ap, length, arith}
use Rattle.std.specs.Arc.{arc_value}
use Rattle.ht_capture.specs.Parts.{SymbolPart, jobs_of, part_of}
use Rattle.ht_capture.proofs.Sharing.{jobs_length, part_job}
use Rattle.ht_capture.proofs.block.SymbolBlock.subcarrier.Goals as goal

pub overflow_add-self-inside : goal.overflow_add-self-inside
overflow_add-self-inside c =
    let b = c.self.inside in
    let lt : c.args.at < length (jobs_of (part_of (arc_value b.symbol) b.first b.count)) = rw (← c.self.view_is) at c.requires in
    omega (arith, lt, jobs_length (arc_value b.symbol) b.first b.count c.self.invariant.1, c.self.invariant.2)

pub returns-clause-inside : goal.returns-clause-inside
returns-clause-inside c =
    let b = c.self.inside in
    let lt : c.args.at < length (jobs_of (part_of (arc_value b.symbol) b.first b.count)) = rw (← c.self.view_is) at c.requires in
    omega (
      arith,
      lt,
      jobs_length (arc_value b.symbol) b.first b.count c.self.invariant.1,
      c.self.invariant.1,
      c.from.ensures,
      ap (λ (s : SymbolPart). length s.present) c.deref-symbol.ensures,
    )

pub returns-clause-job : goal.returns-clause-job
returns-clause-job c = λ d.
    let b = c.self.inside in
    rw (← c.self.view_is)
    (part_job (arc_value b.symbol) c.deref-symbol.result.now b.first b.count c.args.at c.from.result d c.self.invariant.1
    (rw (← c.self.view_is) at c.requires) c.deref-symbol.ensures c.from.ensures)
