use Rattle.std.proofs.Common.{rules, ◌≡◌, unwrap_or, subst}
use Rattle.ht_map.specs.Gray.{label_of}
use Rattle.ht_rate.specs.declared.kinds.Modulation.{Modulation}
use Rattle.ht_rounding.specs.Labels.{IsLabelled}
use Rattle.ht_rounding.proofs.columns.Table.labels.Goals as goal

pub returns-clause-labels : goal.returns-clause-labels
returns-clause-labels c jobs k job are room lt like heard some =
    let same : c.args.self.now.modulation ≡ c.args.modulation = search rules in
    subst (λ (m : Modulation). IsLabelled (λ p. unwrap_or (label_of m p) 0) c.labels_by.result k job) same
    (c.labels_by.ensures.labels jobs k job are room lt like heard some)
