use Rattle.ht_rounding.proofs.columns.Columns.labels.Goals as goal

pub returns-clause-labels : goal.returns-clause-labels
returns-clause-labels c = rw (← c.self.view_is) c.labels.ensures.labels
