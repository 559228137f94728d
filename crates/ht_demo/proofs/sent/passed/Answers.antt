use Rattle.std.proofs.Common.{List, length, ap, arith}
use Rattle.ht_tx.specs.Symbols.{SymbolsView}
use Rattle.ht_tx.proofs.Sequences.{length-sent}
use Rattle.ht_demo.proofs.sent.passed.Goals as goal

-- each frame is sent and captured
pub returns-clause-fit : goal.returns-clause-fit
returns-clause-fit c =
    let sent = length-sent c.args.frames.now c.in_ok-sent.sent.items c.in_ok-sent.ensures in
    let lent = ap (λ (s : List SymbolsView). length s) c.deref.ensures.value in
    let count = c.in_ok-captured.ensures.count in
    let few = c.requires in
    record { few = omega (arith, sent, lent, count, few); fit = c.in_ok-captured.ensures.fit }
