use Rattle.ht_landing.proofs.Landed.{coded_bit_of-lands, coded_bit_of-only}
use Rattle.ht_landing.proofs.laws.each_label_bit_is_landed_on_once.Goals as goal

pub returns-clause-lands : goal.returns-clause-lands
returns-clause-lands c = coded_bit_of-lands

pub returns-clause-once : goal.returns-clause-once
returns-clause-once c = coded_bit_of-only
