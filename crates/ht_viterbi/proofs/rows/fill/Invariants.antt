use Rattle.std.proofs.Common.{◌≡◌, ◌*◌, length, map}
use Rattle.ht_conv.specs.Puncturing.{sent_count}
use Rattle.ht_viterbi.specs.Lanes.{HasRows}
use Rattle.ht_viterbi.specs.Received.{known_of}
use Rattle.ht_viterbi.proofs.rows.fill.Given as goal

abbrev pub invariant-loop-turn : goal.invariant-loop-turn
invariant-loop-turn l = record {
  begin : l.begin ≡ sent_count l.fn.pattern (l.turn * l.len);
  rows : HasRows l.fn.pattern (map known_of l.received) l.rows (l.turn * l.len);
  length : length l.rows ≡ length l.fn.rows;
}
