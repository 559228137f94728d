use Rattle.ht_conv.proofs.MidStream.{sent_from-agree}
use Rattle.ht_conv.proofs.laws.six_bits_count.Goals as goal

pub returns : goal.returns
returns c = sent_from-agree
