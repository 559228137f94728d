use Rattle.ht_clause18.proofs.Coding.{length-coded_of, symbol_bits-at}
use Rattle.ht_clause18.proofs.laws.filled.Goals as goal

pub returns : goal.returns
returns c = record { coded = length-coded_of; symbol = symbol_bits-at }
