use Rattle.std.proofs.Common.{◌≡◌, ◌+◌, ◌*◌, ◌≤◌, length, sym, ◌∙◌}
use Rattle.ht_rounding.specs.Labels.{labels_in}
use Rattle.ht_library.proofs.Answered.{lane-more, labels-room, not-none}
use Rattle.ht_library.proofs.symbols.put_lane.Goals as goal

pub put_four-requires-clause-room : goal.put_four-requires-clause-room
put_four-requires-clause-room c =
    labels-room c.args.at c.args.streams c.args.samples (length c.args.labels.now) c.requires.within c.requires.labels
    (not-none (length c.args.labels.now) (sym c.is_empty.ensures ∙ c.if-is_empty.false))

pub returns-clause-more : goal.returns-clause-more
returns-clause-more c = λ m found named wide are.
    lane-more m c.args.streams c.args.at c.args.lanes.now.streams found (labels_in c.args.lanes.now c.args.k) c.lane_labels.result c.args.labels.now
    c.put_four.new.labels named c.lane_labels.ensures wide c.put_four.ensures.length c.put_four.ensures.before c.put_four.ensures.labels are
