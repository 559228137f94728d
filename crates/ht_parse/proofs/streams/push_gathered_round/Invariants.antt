use Rattle.std.proofs.Common.{◌+◌, ◌*◌, vec_len, vec_capacity}
use Rattle.ht_parse.specs.Groups.{FollowsRule, gathered_bit}
use Rattle.ht_parse.specs.Streams.{share_of}
use Rattle.ht_parse.proofs.Laid.{HasSize}
use Rattle.ht_parse.proofs.streams.push_gathered_round.Given as goal

abbrev pub invariant-loop-stream : goal.invariant-loop-stream
invariant-loop-stream l = record {
  size : HasSize (vec_len l.gathered) (vec_capacity l.gathered) ((l.round * l.layout.streams + l.stream) * l.layout.group) (share_of l.layout.rate);
  gathered : FollowsRule (gathered_bit l.layout.rate l.bits l.encoder) l.gathered.items;
}
