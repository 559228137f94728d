use Rattle.ht_conv.proofs.MidStream.{sent_bits-appended}
use Rattle.ht_conv.proofs.laws.first_part_first.Goals as goal

pub returns : goal.returns
returns c = sent_bits-appended
