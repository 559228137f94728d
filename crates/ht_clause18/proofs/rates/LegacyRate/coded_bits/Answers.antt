use Rattle.std.proofs.Common.{◌*◌, ◌∙◌, ap, sym}
use Rattle.ht_clause18.proofs.RateFacts.{coded_bits_of-is}
use Rattle.ht_clause18.proofs.rates.LegacyRate.coded_bits.Goals as goal

pub returns-clause-value : goal.returns-clause-value
returns-clause-value c = ap (λ n. 48 * n) (c.from.ensures ∙ c.label_bits.ensures.value) ∙ sym (coded_bits_of-is c.args.self)
