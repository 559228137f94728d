use Rattle.std.proofs.Common.{sym, subst, ap, ◌∙◌}
use Rattle.ht_rate.specs.Carriers.{IsAmong, carrier_at, carrier_of}
use Rattle.ht_rate.proofs.CarrierFacts.{carrier_of-among, index-below}
use Rattle.ht_rate.proofs.rates.Rate.carrier.Goals as goal

pub carrier-requires : goal.carrier-requires
carrier-requires c = index-below c.args.self.now c.bandwidth.result c.args.index c.bandwidth.ensures c.requires

pub returns-clause-value : goal.returns-clause-value
unfolding carrier_of
returns-clause-value c = c.carrier.ensures ∙ ap (λ b. carrier_at b c.args.index) c.bandwidth.ensures

pub returns-clause-within : goal.returns-clause-within
returns-clause-within c =
    subst (λ x. IsAmong c.args.self.now x) (sym (returns-clause-value c)) (carrier_of-among c.args.self.now c.args.index c.requires)
