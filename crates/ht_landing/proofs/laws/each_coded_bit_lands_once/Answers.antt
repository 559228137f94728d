use Rattle.ht_landing.proofs.Landed.{lands, lands-only, landing_of-symbol}
use Rattle.ht_landing.proofs.laws.each_coded_bit_lands_once.Goals as goal

pub returns-clause-lands : goal.returns-clause-lands
returns-clause-lands c = lands

pub returns-clause-once : goal.returns-clause-once
returns-clause-once c = lands-only

pub returns-clause-symbol : goal.returns-clause-symbol
returns-clause-symbol c = landing_of-symbol
