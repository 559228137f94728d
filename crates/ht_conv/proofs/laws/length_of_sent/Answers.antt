use Rattle.ht_conv.proofs.MidStream.{length-sent_bits}
use Rattle.ht_conv.proofs.laws.length_of_sent.Goals as goal

pub returns : goal.returns
returns c = length-sent_bits
