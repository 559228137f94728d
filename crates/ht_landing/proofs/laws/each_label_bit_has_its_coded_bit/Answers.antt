use Rattle.ht_landing.proofs.Carried.{carried}
use Rattle.ht_landing.proofs.laws.each_label_bit_has_its_coded_bit.Goals as goal

pub returns : goal.returns
returns c = carried
