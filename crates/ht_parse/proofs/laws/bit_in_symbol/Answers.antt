use Rattle.ht_parse.proofs.Unique.{laid-bit}
use Rattle.ht_parse.proofs.laws.bit_in_symbol.Goals as goal

pub returns : goal.returns
returns c = laid-bit
