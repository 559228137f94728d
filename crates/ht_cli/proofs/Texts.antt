-- The texts of commands that put lines while they read: each ends with the line of its fault, where it has one.
use Rattle.ht_capture.specs.Fields.{captures}
use Rattle.ht_capture_blocks.specs.Captures.{items_of}
use Rattle.ht_results.specs.JobTexts.{detect_text, lines_of}
use Rattle.ht_results.specs.Texts.{frame_lines_of, rx_text}
use Rattle.ht_runs.specs.Formats.{filter}
use Rattle.ht_runs.specs.Streamed.{EndsWithItsFault}
use Rattle.ht_runs.proofs.Streaming.{ends_with_its_fault}
use Rattle.ht_receive.specs.Endings.{end_as}
use Rattle.ht_rx.proofs.Texts.{detects, end_of_capture, receives}
use Rattle.ht_soft_rx.specs.Texts.{soft_lines_of, soft_rx_text}
use Rattle.ht_soft_rx.proofs.Told.{lines_lined as soft_lined}
use Rattle.ht_legacy_files.specs.CaptureFormats.{captures as legacy_captures}
use Rattle.ht_legacy_rx.specs.Texts.{legacy_items, legacy_lines_of, legacy_text}
use Rattle.ht_legacy_rx.proofs.Telling.{lines_lined as legacy_lined}

pub detect_ends : EndsWithItsFault (filter captures detect_text lines_of)
detect_ends = ends_with_its_fault captures detect_text lines_of end_of_capture detects

pub rx_ends : EndsWithItsFault (filter captures rx_text frame_lines_of)
rx_ends = ends_with_its_fault captures rx_text frame_lines_of end_of_capture receives

pub soft_ends : EndsWithItsFault (filter captures soft_rx_text soft_lines_of)
soft_ends = ends_with_its_fault captures soft_rx_text soft_lines_of (end_as captures items_of) soft_lined

pub legacy_ends : EndsWithItsFault (filter legacy_captures legacy_text legacy_lines_of)
legacy_ends = ends_with_its_fault legacy_captures legacy_text legacy_lines_of (end_as legacy_captures legacy_items) legacy_lined
