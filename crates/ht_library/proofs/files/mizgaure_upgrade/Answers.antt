use Rattle.ht_capture.specs.Fields.{captures}
use Rattle.ht_sim.specs.Converting.{upgrading}
use Rattle.ht_library.specs.Written.{by_conversion}
use Rattle.ht_library.proofs.Endings.{answers_by, whole_clean}
use Rattle.ht_library.proofs.files.mizgaure_upgrade.Goals as goal

pub returns : goal.returns
returns c =
    answers_by (by_conversion upgrading) c.args.capture.now c.args.newer.now c.hand_over.new.into c.args.size.now
    c.hand_over.new.size c.args.refusal.now c.hand_over.new.refusal c.hand_over.result
    (whole_clean captures c.args.capture.now) c.upgraded.result c.upgraded.ensures c.hand_over.ensures
