use Rattle.std.proofs.Common.{ℕ, ap, subst, sym, ◌∙◌}
use Rattle.ht_rate.specs.declared.kinds.Carrier.{Carrier}
use Rattle.ht_rate.specs.declared.kinds.Carrier.TheVariants.{Data, Pilot}
use Rattle.ht_clause18.specs.Carriers.{IsAmong}
use Rattle.ht_clause18.proofs.CarrierFacts.{carrier_of-among}
use Rattle.ht_clause18.proofs.CarrierTable.{data_at, number_at, pilot_at}
use Rattle.ht_clause18.proofs.carriers.legacy_carrier.Goals as goal

pub returns-then-index-eq0-clause-value : goal.returns-then-index-eq0-clause-value
returns-then-index-eq0-clause-value c = ap (λ (i : ℕ). Data (number_at i)) c.from.ensures ∙ data_at c.args.index c.requires c.if-index-eq0.true

pub returns-then-index-eq0-clause-within : goal.returns-then-index-eq0-clause-within
returns-then-index-eq0-clause-within c =
    subst (λ (k : Carrier). IsAmong k) (sym (returns-then-index-eq0-clause-value c)) (carrier_of-among c.args.index c.requires)

pub returns-else-index-eq0-clause-value : goal.returns-else-index-eq0-clause-value
returns-else-index-eq0-clause-value c = ap (λ (i : ℕ). Pilot (number_at i)) c.from.ensures ∙ pilot_at c.args.index c.requires c.if-index-eq0.false

pub returns-else-index-eq0-clause-within : goal.returns-else-index-eq0-clause-within
returns-else-index-eq0-clause-within c =
    subst (λ (k : Carrier). IsAmong k) (sym (returns-else-index-eq0-clause-value c)) (carrier_of-among c.args.index c.requires)
