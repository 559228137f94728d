use Rattle.std.proofs.Common.{◌≡◌, ◌+◌, length, map}
use Rattle.ht_conv.specs.Puncturing.{sent_count}
use Rattle.ht_viterbi.specs.Lanes.{HasRows}
use Rattle.ht_viterbi.specs.Received.{known_of}
use Rattle.ht_viterbi.proofs.rows.fill_turn.Given as goal

abbrev pub invariant-loop-phase : goal.invariant-loop-phase
invariant-loop-phase l = record {
  start : l.start ≡ sent_count l.fn.pattern (l.first + l.phase);
  rows : HasRows l.fn.pattern (map known_of l.received) l.rows (l.first + l.phase);
  length : length l.rows ≡ length l.fn.rows;
}
