use Rattle.std.proofs.Common.{arith}
use Rattle.ht_clause18.proofs.RateFacts.{data_bits_of-range}
use Rattle.ht_clause18.proofs.coder.encoder_input.Goals as goal

pub scrambled_data-requires-clause-zeros : goal.scrambled_data-requires-clause-zeros
scrambled_data-requires-clause-zeros c = omega (arith, data_bits_of-range c.rate.result, c.pads-pads.ensures.few)
