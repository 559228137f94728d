use Rattle.std.proofs.Common.{◌∙◌, ap, sym}
use Rattle.ht_rate.specs.Schemes.{bits_of}
use Rattle.ht_clause18.proofs.RateFacts.{label_bits_of-is}
use Rattle.ht_clause18.proofs.rates.LegacyRate.label_bits.Goals as goal

pub returns-clause-value : goal.returns-clause-value
returns-clause-value c = c.label_bits.ensures.value ∙ ap bits_of c.modulation.ensures ∙ sym (label_bits_of-is c.args.self)
