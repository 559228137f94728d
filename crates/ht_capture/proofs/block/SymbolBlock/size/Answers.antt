use Rattle.std.proofs.Common.{sym}
use Rattle.std.specs.Arc.{arc_value}
use Rattle.ht_capture.proofs.Sharing.{jobs_length}
use Rattle.ht_capture.proofs.block.SymbolBlock.size.Goals as goal

pub returns-clause-number : goal.returns-clause-number
returns-clause-number c =
    rw (← c.self.view_is) (sym (jobs_length (arc_value c.self.inside.symbol) c.self.inside.first c.self.inside.count c.self.invariant.1))
