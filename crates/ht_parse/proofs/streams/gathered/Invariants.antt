use Rattle.std.proofs.Common.{◌≡◌, ◌*◌, vec_len, vec_capacity}
use Rattle.ht_parse.specs.Groups.{FollowsRule, gathered_bit}
use Rattle.ht_parse.specs.Streams.{share_of}
use Rattle.ht_parse.proofs.streams.gathered.Given as goal

abbrev pub invariant-loop-round : goal.invariant-loop-round
invariant-loop-round l = record {
  count : vec_len l.gathered ≡ l.round * l.layout.streams * l.layout.group;
  capacity : vec_capacity l.gathered ≡ share_of l.layout.rate;
  gathered : FollowsRule (gathered_bit l.layout.rate l.bits l.encoder) l.gathered.items;
}
