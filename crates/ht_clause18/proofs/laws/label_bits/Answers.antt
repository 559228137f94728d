use Rattle.ht_clause18.proofs.Mapping.{label_at-bit}
use Rattle.ht_clause18.proofs.laws.label_bits.Goals as goal

pub returns : goal.returns
returns c = label_at-bit
