use Rattle.ht_legacy_files.specs.Formats.{frames}
use Rattle.ht_legacy_sim.specs.Passing.{passing}
use Rattle.ht_library.specs.Written.{by_conversion}
use Rattle.ht_library.proofs.Endings.{answers_by, whole_clean}
use Rattle.ht_library.proofs.files.mizgaure_legacy_pass.Goals as goal

pub returns : goal.returns
returns c =
    answers_by (by_conversion (passing c.args.seed c.args.noise)) c.args.frames.now c.args.capture.now c.hand_over.new.into
    c.args.size.now c.hand_over.new.size c.args.refusal.now c.hand_over.new.refusal c.hand_over.result
    (whole_clean frames c.args.frames.now) c.legacy_passed.result c.legacy_passed.ensures c.hand_over.ensures
