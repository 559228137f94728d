use Rattle.ht_rate.proofs.RateFacts.{coded_bits_of-shared, data_bits_of-shared}
use Rattle.ht_rate.proofs.laws.shared.Goals as goal

pub returns-clause-coded : goal.returns-clause-coded
returns-clause-coded c = coded_bits_of-shared c.args.rate.now

pub returns-clause-data_bits : goal.returns-clause-data_bits
returns-clause-data_bits c = data_bits_of-shared c.args.rate.now
