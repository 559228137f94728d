use Rattle.std.proofs.Common.{ap, sym, ◌∙◌, arith}
use Rattle.std.proofs.Common.{Ok, Result}
use Rattle.ht_rate.specs.declared.rates.Rate.{Rate}
use Rattle.ht_rate.specs.declared.rates.RateFault.{RateFault}
use Rattle.ht_rate.proofs.Numbers.{rate_of-ok, rate_at-given, looked_up}
use Rattle.ht_rate.proofs.rates.Rate.of.Goals as goal

pub returns-clause-value : goal.returns-clause-value
returns-clause-value c =
    let good : Rate → Result Rate RateFault = Ok in
    ap (λ (r : Rate). good r) (looked_up c.args.bw c.args.mcs c.from.result c.from-2.result c.at.result c.at.ensures c.from.ensures c.from-2.ensures
    (omega arith))
    ∙ sym (rate_of-ok c.args.bw c.args.mcs (omega arith) (omega arith))

pub returns-clause-given : goal.returns-clause-given
returns-clause-given c =
    rw (looked_up c.args.bw c.args.mcs c.from.result c.from-2.result c.at.result c.at.ensures c.from.ensures c.from-2.ensures (omega arith))
    (rate_at-given c.args.bw c.args.mcs (omega arith) (omega arith))
