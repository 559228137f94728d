use Rattle.std.proofs.Common.{◌≡◌, ◌≤◌, ◌-◌, length, drop}
use Rattle.ht_conv.specs.Puncturing.{sent_count}
use Rattle.ht_viterbi.specs.Lanes.{AreLowered, weight_steps}
use Rattle.ht_viterbi.specs.Trellis.{AreChoices}
use Rattle.ht_viterbi.proofs.weights.stretch.Given as goal

abbrev pub invariant-loop-at : goal.invariant-loop-at
invariant-loop-at l = record {
  low : l.from ≤ l.at;
  high : l.at ≤ l.to;
  count : length l.choices ≡ length l.fn.choices;
  start : l.start ≡ sent_count l.pattern l.at;
  costs : AreLowered (weight_steps l.pattern l.weights (length l.fn.choices) l.at) l.costs l.fallen (length l.fn.choices - l.at);
  choices : AreChoices (weight_steps l.pattern l.weights (length l.fn.choices) l.at) (drop l.at l.choices);
}

abbrev pub decreases-loop-at : goal.decreases-loop-at
decreases-loop-at l = l.at
