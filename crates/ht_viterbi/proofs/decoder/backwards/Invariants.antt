use Rattle.std.proofs.Common.{◌≡◌, ◌≤◌, ◌*◌, ◌+◌, ◌-◌, ◌%◌, length, drop}
use Rattle.ht_viterbi.specs.Trellis.{least_from, AreChoices}
use Rattle.ht_viterbi.specs.Lanes.{HasLanes, steps_at}
use Rattle.ht_viterbi.proofs.decoder.backwards.Given as goal

abbrev pub invariant-loop-at : goal.invariant-loop-at
invariant-loop-at l = record {
  within : l.at + 6 ≤ length l.rows;
  count : length l.choices ≡ length l.rows;
  costs : HasLanes l.costs (λ k. least_from (steps_at l.rows l.at) k % 256);
  choices : AreChoices (steps_at l.rows l.at) (drop l.at l.choices);
  distance : l.distance ≡ least_from (steps_at l.rows l.at) 0;
  bound : l.distance ≤ 2 * (length l.rows - l.at);
}

abbrev pub decreases-loop-at : goal.decreases-loop-at
decreases-loop-at l = l.at
