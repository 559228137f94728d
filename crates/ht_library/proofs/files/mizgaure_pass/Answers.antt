use Rattle.ht_files.specs.Points.{symbols}
use Rattle.ht_sim.specs.Passing.{passing}
use Rattle.ht_library.specs.Written.{by_conversion}
use Rattle.ht_library.proofs.Endings.{answers_by, whole_clean}
use Rattle.ht_library.proofs.files.mizgaure_pass.Goals as goal

pub returns : goal.returns
returns c =
    answers_by (by_conversion (passing c.args.seed c.args.noise)) c.args.symbols.now c.args.capture.now c.hand_over.new.into
    c.args.size.now c.hand_over.new.size c.args.refusal.now c.hand_over.new.refusal c.hand_over.result
    (whole_clean symbols c.args.symbols.now) c.passed.result c.passed.ensures c.hand_over.ensures
