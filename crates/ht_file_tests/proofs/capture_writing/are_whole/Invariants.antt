use Rattle.std.proofs.Common.{◌<◌, ℕ, get_or}
use Rattle.ht_capture.specs.declared.frames.CaptureFrame.{CaptureFrame}
use Rattle.ht_capture.specs.Files.{HasAllCarriers}
use Rattle.ht_file_tests.proofs.capture_writing.are_whole.Given as goal

-- this many frames have no erased subcarrier
abbrev pub invariant-loop-frame : goal.invariant-loop-frame
invariant-loop-frame l = (k : ℕ) (d : CaptureFrame) → k < l.frame-index → HasAllCarriers (get_or l.frames k d)
