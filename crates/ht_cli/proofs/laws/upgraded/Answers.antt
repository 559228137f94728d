use Rattle.ht_cli.proofs.Upgrading.{one_upgrade, stays_upgraded, same_items, same_detection, same_reception}
use Rattle.ht_cli.proofs.laws.upgraded.Goals as goal

pub returns-clause-one : goal.returns-clause-one
returns-clause-one c = one_upgrade

pub returns-clause-stays : goal.returns-clause-stays
returns-clause-stays c = stays_upgraded

pub returns-clause-items : goal.returns-clause-items
returns-clause-items c = same_items

pub returns-clause-detects : goal.returns-clause-detects
returns-clause-detects c = same_detection

pub returns-clause-receives : goal.returns-clause-receives
returns-clause-receives c = same_reception
