use Rattle.ht_clause18.proofs.RateFacts.{data_bits_of-is, data_bits_of-range}
use Rattle.ht_clause18.proofs.rates.LegacyRate.data_bits.Goals as goal

pub returns-clause-value : goal.returns-clause-value
returns-clause-value c = cc (data_bits_of-is c.args.self)

pub returns-clause-low : goal.returns-clause-low
returns-clause-low c = rw (returns-clause-value c) (data_bits_of-range c.args.self).0

pub returns-clause-high : goal.returns-clause-high
returns-clause-high c = rw (returns-clause-value c) (data_bits_of-range c.args.self).1
