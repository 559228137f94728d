use Rattle.std.proofs.Common.{◌≡◌, ◌+◌, ◌*◌, vec_len, vec_capacity}
use Rattle.ht_rate.specs.Rates.{coded_bits_of}
use Rattle.ht_parse.specs.Groups.{FollowsRule, laid_bit}
use Rattle.ht_parse.proofs.streams.to_streams.Given as goal

abbrev pub invariant-loop-stream : goal.invariant-loop-stream
invariant-loop-stream l = record {
  count : vec_len l.bits ≡ l.stream * l.layout.rounds * l.layout.encoders * l.layout.group;
  capacity : vec_capacity l.bits ≡ coded_bits_of l.layout.rate;
  laid : FollowsRule (laid_bit l.layout.rate l.first l.second) l.bits.items;
}

abbrev pub invariant-loop-round : goal.invariant-loop-round
invariant-loop-round l = record {
  count : vec_len l.bits ≡ (l.stream * l.layout.rounds + l.round) * l.layout.encoders * l.layout.group;
  capacity : vec_capacity l.bits ≡ coded_bits_of l.layout.rate;
  laid : FollowsRule (laid_bit l.layout.rate l.first l.second) l.bits.items;
}
