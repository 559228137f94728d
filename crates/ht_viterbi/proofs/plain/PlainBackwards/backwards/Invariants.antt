use Rattle.std.proofs.Common.{◌≡◌, ◌≤◌, ◌<◌, ◌*◌, ◌-◌, ℕ, ◌^◌, length, drop, map, slice_index}
use Rattle.ht_conv.specs.Puncturing.{sent_count}
use Rattle.ht_viterbi.specs.Trellis.{least_from, AreChoices, costs_of, steps_from}
use Rattle.ht_viterbi.proofs.plain.PlainBackwards.backwards.Given as goal

abbrev pub invariant-loop-at : goal.invariant-loop-at
invariant-loop-at g l = record {
  within : l.at ≤ l.steps;
  count : length l.choices ≡ l.steps;
  start : l.start ≡ sent_count l.pattern l.at;
  costs : (k : ℕ) → k < 64 → slice_index l.costs k ≡ least_from (steps_from l.pattern (map (costs_of g.P.CodedPlace.cost) l.received) l.at (l.steps - l.at)) k;
  choices : AreChoices (steps_from l.pattern (map (costs_of g.P.CodedPlace.cost) l.received) l.at (l.steps - l.at)) (drop l.at l.choices);
  bound : (k : ℕ) → slice_index l.costs k ≤ 2 ^ 33 * (l.steps - l.at);
}

abbrev pub decreases-loop-at : goal.decreases-loop-at
decreases-loop-at g l = l.at
