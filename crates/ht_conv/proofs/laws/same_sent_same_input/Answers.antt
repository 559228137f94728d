use Rattle.std.proofs.Common.{[], sym, ◌∙◌}
use Rattle.ht_conv.proofs.MidStream.{sent_bits-from, sent_from-equal}
use Rattle.ht_conv.proofs.laws.same_sent_same_input.Goals as goal

pub returns : goal.returns
returns c = λ p u v len e. sent_from-equal p 0 [] u v len (sym (sent_bits-from p u) ∙ (e ∙ sent_bits-from p v))
