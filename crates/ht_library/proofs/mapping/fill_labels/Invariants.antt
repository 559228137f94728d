use Rattle.std.proofs.Common.{◌≡◌, length}
use Rattle.ht_library.specs.Mapped.{AreLabelsBelow}
use Rattle.ht_library.proofs.mapping.fill_labels.Given as goal

abbrev pub invariant-loop-at : goal.invariant-loop-at
invariant-loop-at l = record {
  size : length l.labels ≡ length l.fn.labels;
  done : AreLabelsBelow l.at l.modulation l.points l.labels;
}
