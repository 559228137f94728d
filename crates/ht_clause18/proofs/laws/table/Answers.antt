use Rattle.ht_clause18.proofs.RateFacts.{label_bits_of-is, coded_bits_of-is, data_bits_of-coded, rate_of-index}
use Rattle.ht_clause18.proofs.laws.table.Goals as goal

pub returns : goal.returns
returns c = record { label_bits = label_bits_of-is; coded_bits = coded_bits_of-is; data_bits = data_bits_of-coded; named = rate_of-index }
