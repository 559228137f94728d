use Rattle.ht_files.specs.Frames.{frames}
use Rattle.ht_sim.specs.Converting.{sending}
use Rattle.ht_library.specs.Written.{by_conversion}
use Rattle.ht_library.proofs.Endings.{answers_by, whole_clean}
use Rattle.ht_library.proofs.files.mizgaure_tx.Goals as goal

pub returns : goal.returns
returns c =
    answers_by (by_conversion sending) c.args.frames.now c.args.symbols.now c.hand_over.new.into c.args.size.now
    c.hand_over.new.size c.args.refusal.now c.hand_over.new.refusal c.hand_over.result (whole_clean frames c.args.frames.now)
    c.sent.result c.sent.ensures c.hand_over.ensures
