use Rattle.ht_capture.specs.Fields.{captures}
use Rattle.ht_certify.specs.Certifying.{certifying}
use Rattle.ht_library.specs.Written.{by_conversion}
use Rattle.ht_library.proofs.Endings.{answers_by, whole_clean}
use Rattle.ht_library.proofs.files.mizgaure_certify.Goals as goal

pub returns : goal.returns
returns c =
    answers_by (by_conversion certifying) c.args.capture.now c.args.file.now c.hand_over.new.into c.args.size.now
    c.hand_over.new.size c.args.refusal.now c.hand_over.new.refusal c.hand_over.result
    (whole_clean captures c.args.capture.now) c.certified.result c.certified.ensures c.hand_over.ensures
