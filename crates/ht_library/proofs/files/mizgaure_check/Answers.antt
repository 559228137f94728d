use Rattle.ht_cert.specs.Formats.{certificates}
use Rattle.ht_certify.specs.Checks.{checking}
use Rattle.ht_library.specs.Written.{by_filter}
use Rattle.ht_library.proofs.Endings.{answers_by, whole_clean}
use Rattle.ht_library.proofs.files.mizgaure_check.Goals as goal

pub returns : goal.returns
returns c =
    answers_by (by_filter checking) c.args.file.now c.args.text.now c.hand_over.new.into c.args.size.now c.hand_over.new.size
    c.args.refusal.now c.hand_over.new.refusal c.hand_over.result (whole_clean certificates c.args.file.now) c.checked.result
    c.checked.ensures c.hand_over.ensures
