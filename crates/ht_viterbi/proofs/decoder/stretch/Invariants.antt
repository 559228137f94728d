use Rattle.std.proofs.Common.{◌≡◌, ◌≤◌, ◌%◌, length, drop}
use Rattle.ht_viterbi.specs.Trellis.{least_from, AreChoices}
use Rattle.ht_viterbi.specs.Lanes.{HasLanes, steps_at}
use Rattle.ht_viterbi.proofs.decoder.stretch.Given as goal

abbrev pub invariant-loop-at : goal.invariant-loop-at
invariant-loop-at l = record {
  low : l.from ≤ l.at;
  high : l.at ≤ l.to;
  count : length l.choices ≡ length l.rows;
  costs : HasLanes l.costs (λ k. least_from (steps_at l.rows l.at) k % 256);
  choices : AreChoices (steps_at l.rows l.at) (drop l.at l.choices);
}

abbrev pub decreases-loop-at : goal.decreases-loop-at
decreases-loop-at l = l.at
