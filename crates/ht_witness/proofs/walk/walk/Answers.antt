use Rattle.std.proofs.Common.{◌≡◌, ◌∙◌, ◌*◌, [], List, length, take, drop, ap, subst}
use Rattle.ht_witness.specs.Walks.{Suffix, Walked}
use Rattle.ht_witness.proofs.Stages.{no_levels, started, zeros}
use Rattle.ht_witness.proofs.walk.walk.Goals as goal

pub returns-clause-walked : goal.returns-clause-walked
returns-clause-walked g c =
    let job = c.args.job.now in
    let n = c.streams-streams.result in
    let same : n ≡ length job.system = c.streams-streams.ensures.number ∙ ap length c.system.ensures.system in
    subst (λ (todo : List Suffix). Walked (g.V.Visitor.outcome c.args.visitor.now) g.V.Visitor.stops c.args.state.now todo c.quadrature.new.state []
    c.quadrature.result)
    (started job n (drop (2 * n) (take (2 * c.from.result) zeros)) c.system.ensures.job same (no_levels c.from.result n c.from.ensures))
    (c.quadrature.ensures.walked [])
