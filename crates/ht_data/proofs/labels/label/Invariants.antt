-- The label of the bits so far.
use Rattle.std.proofs.Common.{◌≡◌, false, get_or}
use Rattle.ht_data.specs.Labels.{written}
use Rattle.ht_data.proofs.labels.label.Given as goal

abbrev pub invariant-loop-place : goal.invariant-loop-place
invariant-loop-place l = record {
  value : l.label ≡ written (λ e. get_or l.coded (get_or l.places e 0) false) l.place-index;
}
