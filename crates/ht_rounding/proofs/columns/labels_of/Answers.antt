use Rattle.ht_rounding.proofs.columns.labels_of.Goals as goal

pub returns-clause-labels : goal.returns-clause-labels
returns-clause-labels c jobs k job are room lt like heard some =
    c.label_lanes.ensures.labels k job lt some (c.eight_of-eight.ensures.jobs jobs k job are room lt like heard)
