use Rattle.ht_clause18.proofs.Interleaving.{interleaved-place, length-interleaved}
use Rattle.ht_clause18.proofs.laws.interleaved_bit.Goals as goal

pub returns : goal.returns
returns c = record { place = interleaved-place; length = length-interleaved }
