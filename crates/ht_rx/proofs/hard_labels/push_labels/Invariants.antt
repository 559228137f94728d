use Rattle.std.proofs.Common.{◌≡◌, ◌++◌, drop, map}
use Rattle.ht_results.specs.Folding.{label_at}
use Rattle.ht_rx.proofs.hard_labels.push_labels.Given as goal

-- with those of the streams that are left the labels are all
abbrev pub invariant-loop-k : goal.invariant-loop-k
invariant-loop-k l = l.labels.items ++ map (label_at l.modulation) (drop l.k l.vector) ≡ l.fn.labels.items ++ map (label_at l.modulation) l.vector
