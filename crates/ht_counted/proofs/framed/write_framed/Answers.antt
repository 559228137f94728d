use Rattle.std.proofs.Common.{rules}
use Rattle.ht_counted.proofs.framed.write_framed.Goals as goal

pub returns : goal.returns
returns g c = record {
  grown = search rules;
  steady = c.write_whole.ensures.steady;
  part = search rules;
  cause = c.write_whole.ensures.cause;
  later = c.write_whole.ensures.later;
}
