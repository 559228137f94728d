use Rattle.ht_legacy_files.specs.CaptureFormats.{captures}
use Rattle.ht_legacy_rx.specs.Texts.{legacy_lines_of, legacy_text}
use Rattle.ht_runs.specs.Formats.{filter}
use Rattle.ht_library.specs.Written.{by_filter}
use Rattle.ht_library.proofs.Endings.{answers_by, whole_clean}
use Rattle.ht_library.proofs.captures.mizgaure_lrx.Goals as goal

pub returns : goal.returns
returns c =
    answers_by (by_filter (filter captures legacy_text legacy_lines_of)) c.args.capture.now c.args.text.now
    c.hand_over.new.into c.args.size.now c.hand_over.new.size c.args.refusal.now c.hand_over.new.refusal c.hand_over.result
    (whole_clean captures c.args.capture.now) c.legacy_received.result c.legacy_received.ensures c.hand_over.ensures
