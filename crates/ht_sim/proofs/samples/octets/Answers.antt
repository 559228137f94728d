use Rattle.std.proofs.Common.{◌∙◌, ℕ, List, length, ap, arith}
use Rattle.ht_sim.specs.Draws.{Drawn}
use Rattle.ht_sim.specs.Samples.{octet_drawn}
use Rattle.ht_sim.proofs.Drawing.{several-end, several-step, length-several}
use Rattle.ht_sim.proofs.samples.octets.Goals as goal

pub returns-clause-count : goal.returns-clause-count
returns-clause-count c =
    let end = several-end octet_drawn c.loop-index.octets.items _ c.loop-index.words _ (omega arith) c.loop-index.invariant in
    ap (λ (d : Drawn (List ℕ)). length d.value) end ∙ length-several octet_drawn c.args.count c.args.words.now

pub loop-index-preserved : goal.loop-index-preserved
loop-index-preserved c =
    several-step octet_drawn c.loop-index.octets.items c.push.new.self.items c.octet.result _ _ c.loop-index.words c.octet.new.self _
    (omega arith) c.loop-index.invariant c.in_ok-push.ensures.items c.octet.ensures.value c.octet.ensures.behind
