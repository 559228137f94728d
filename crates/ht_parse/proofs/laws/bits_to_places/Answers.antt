use Rattle.ht_parse.proofs.Maps.{stream_place_of-bit}
use Rattle.ht_parse.proofs.laws.bits_to_places.Goals as goal

pub returns : goal.returns
returns c = stream_place_of-bit
