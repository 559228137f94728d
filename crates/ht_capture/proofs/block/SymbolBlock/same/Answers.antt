use Rattle.std.proofs.Common.{◌≡◌, arith}
use Rattle.std.specs.Arc.{arc_value}
use Rattle.std.proofs.lemmas.Bool.Decides.{nat_tests}
use Rattle.ht_capture.proofs.Sharing.{longer_part}
use Rattle.ht_capture.proofs.block.SymbolBlock.same.Goals as goal

pub returns-else-self-other : goal.returns-else-self-other
returns-else-self-other c =
    let same : c.args.self.now ≡ c.args.other.now → c.self.inside.count ≡ c.other.inside.count = λ e.
    longer_part (arc_value c.self.inside.symbol) (arc_value c.other.inside.symbol) c.self.inside.first c.other.inside.first
    c.self.inside.count c.other.inside.count c.self.invariant.1 c.other.invariant.1 (rw (c.self.view_is, c.other.view_is) e) in
    ((λ is. absurd (grind (arith, nat_tests))), λ e. let n = same e in grind (arith, nat_tests))
