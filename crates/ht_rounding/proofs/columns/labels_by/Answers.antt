use Rattle.ht_rounding.proofs.columns.labels_by.Goals as goal

pub returns-in-1-clause-labels : goal.returns-in-1-clause-labels
returns-in-1-clause-labels c = c.labels_of.ensures.labels

pub returns-in-2-clause-labels : goal.returns-in-2-clause-labels
returns-in-2-clause-labels c = c.labels_of-in-2.ensures.labels

pub returns-in-3-clause-labels : goal.returns-in-3-clause-labels
returns-in-3-clause-labels c = c.labels_of-in-3.ensures.labels

pub returns-in_default-clause-labels : goal.returns-in_default-clause-labels
returns-in_default-clause-labels c = c.labels_of-in_default.ensures.labels
