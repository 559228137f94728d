use Rattle.ht_parse.proofs.Maps.{source_of-place}
use Rattle.ht_parse.proofs.laws.places_to_bits.Goals as goal

pub returns : goal.returns
returns c = source_of-place
