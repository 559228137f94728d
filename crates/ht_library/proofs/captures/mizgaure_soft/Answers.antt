use Rattle.ht_capture.specs.Fields.{captures}
use Rattle.ht_runs.specs.Formats.{filter}
use Rattle.ht_soft_rx.specs.Texts.{soft_lines_of, soft_rx_text}
use Rattle.ht_library.specs.Written.{by_filter}
use Rattle.ht_library.proofs.Endings.{answers_by, whole_clean}
use Rattle.ht_library.proofs.captures.mizgaure_soft.Goals as goal

pub returns : goal.returns
returns c =
    answers_by (by_filter (filter captures soft_rx_text soft_lines_of)) c.args.capture.now c.args.text.now
    c.hand_over.new.into c.args.size.now c.hand_over.new.size c.args.refusal.now c.hand_over.new.refusal c.hand_over.result
    (whole_clean captures c.args.capture.now) c.received_soft.result c.received_soft.ensures c.hand_over.ensures
