use Rattle.ht_bundles.specs.Formats.{bundles}
use Rattle.ht_many.specs.Bundles.{receiving}
use Rattle.ht_library.specs.Written.{by_conversion}
use Rattle.ht_library.proofs.Endings.{answers_by, whole_clean}
use Rattle.ht_library.proofs.captures.mizgaure_many.Goals as goal

pub returns : goal.returns
returns c =
    answers_by (by_conversion receiving) c.args.bundle.now c.args.text.now c.hand_over.new.into c.args.size.now
    c.hand_over.new.size c.args.refusal.now c.hand_over.new.refusal c.hand_over.result (whole_clean bundles c.args.bundle.now)
    c.received_many.result c.received_many.ensures c.hand_over.ensures
