use Rattle.std.proofs.Common.{◌+◌, ◌*◌, vec_len, vec_capacity}
use Rattle.ht_rate.specs.Rates.{coded_bits_of}
use Rattle.ht_parse.specs.Groups.{FollowsRule, laid_bit}
use Rattle.ht_parse.proofs.Laid.{HasSize}
use Rattle.ht_parse.proofs.streams.push_laid_round.Given as goal

abbrev pub invariant-loop-encoder : goal.invariant-loop-encoder
invariant-loop-encoder l = record {
  size : HasSize (vec_len l.bits) (vec_capacity l.bits)
      (((l.fn.stream * l.layout.rounds + l.fn.round) * l.layout.encoders + l.encoder) * l.layout.group) (coded_bits_of l.layout.rate);
  laid : FollowsRule (laid_bit l.layout.rate l.first l.second) l.bits.items;
}
