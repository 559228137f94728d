-- What upgrading a capture comes to.
use Rattle.std.specs.Prelude.{◌≡◌, ℕ, List}
use Rattle.std.proofs.Common.{refl, ap}
use Rattle.ht_io.specs.Devices.{Device}
use Rattle.ht_runs.specs.Converted.{TakesWhole}
use Rattle.ht_runs.specs.Filters.{BeforeOutput}
use Rattle.ht_runs.proofs.Converting.{takes_whole}
use Rattle.ht_capture.specs.declared.frames.CaptureFrame.{CaptureFrame}
use Rattle.ht_capture.specs.Contents.{items_of}
use Rattle.ht_capture.specs.Fields.{captures}
use Rattle.ht_capture.specs.Files.{capture_file_of}
use Rattle.ht_capture.specs.Taking.{ReadsCaptures}
use Rattle.ht_capture.proofs.Filed.{file_written}
use Rattle.ht_sim.specs.Converting.{UpgradesTo, upgrading}

-- the frames that were read were written: of the capture of version 2 this was put
pub upgrades : (a b c d : Device ℕ) (frames written : List CaptureFrame) → ReadsCaptures a b frames → written ≡ frames → (Puts : List ℕ → Type 0)
    → Puts (capture_file_of 2 written) → TakesWhole upgrading a b c d Puts
upgrades a b c d frames written (version, ((isv, fits, typed), all)) same Puts put =
    takes_whole captures BeforeOutput UpgradesTo a b c (capture_file_of version frames) (capture_file_of 2 written) (items_of frames) all
    (file_written version frames fits typed isv)
    (version, frames, isv, fits, typed, refl, ap (λ (fs : List CaptureFrame). capture_file_of 2 fs) same) d Puts put
