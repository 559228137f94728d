use Rattle.ht_conv.proofs.MidStream.{sent_bits-from}
use Rattle.ht_conv.proofs.laws.sent_step_by_step.Goals as goal

pub returns : goal.returns
returns c = sent_bits-from
