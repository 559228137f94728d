use Rattle.std.proofs.Common.{ℕ, List, ◌+◌, slice_index, ap, arith, ◌∙◌}
use Rattle.ht_rounding.specs.Columns.{words_of}
use Rattle.ht_rounding.proofs.InColumns.{job-in-lane}
use Rattle.ht_rounding.proofs.columns.eight_of.Goals as goal

pub returns-clause-jobs : goal.returns-clause-jobs
returns-clause-jobs c jobs k job are room lt like heard =
    job-in-lane (words_of c.args.table.now) c.args.streams c.channel_lanes.result c.args.samples.now c.args.at k jobs job _
    c.requires.streams are room lt like heard
    (c.part_lanes.ensures (omega arith) k lt ∙ ap (λ (xs : List ℕ). slice_index xs (c.args.at + k)) c.deref.ensures.value)
    (c.channel_lanes.ensures.legs jobs k are room lt)
