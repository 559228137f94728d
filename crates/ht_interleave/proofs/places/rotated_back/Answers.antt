use Rattle.std.proofs.Common.{arith}
use Rattle.ht_rate.proofs.RateFacts.{stream_bits_of-range}
use Rattle.ht_interleave.specs.Steps.{third_back}
use Rattle.ht_interleave.proofs.places.rotated_back.Goals as goal

pub overflow_add-result : goal.overflow_add-result
overflow_add-result c = omega (arith, stream_bits_of-range c.args.rate.now)

pub returns-clause-value : goal.returns-clause-value
unfolding third_back
returns-clause-value c = cc
