-- What is read and passes the channel is put.
use Rattle.std.specs.Prelude.{◌≡◌, ℕ, List}
use Rattle.std.proofs.Common.{refl, ap, ◌∙◌}
use Rattle.ht_io.specs.Devices.{Device}
use Rattle.ht_fields.specs.WholeFiles.{ReadsWhole}
use Rattle.ht_capture.specs.declared.frames.CaptureFrame.{CaptureFrame}
use Rattle.ht_capture.specs.Files.{capture_file_of}
use Rattle.ht_tx.specs.Symbols.{SymbolsView}
use Rattle.ht_files.specs.Points.{symbols}
use Rattle.ht_files.specs.SymbolFiles.{AreSymbolFrames, symbols_file_of}
use Rattle.ht_files.proofs.PointRoutes.{symbols_written}
use Rattle.ht_runs.specs.Converted.{TakesWhole}
use Rattle.ht_runs.specs.Filters.{BeforeOutput}
use Rattle.ht_runs.proofs.Converting.{takes_whole}
use Rattle.ht_sim.specs.Channel.{captures_of}
use Rattle.ht_sim.specs.Passing.{PassesTo, passing}

-- the frames that were read, and what they came to
module _ (seed noise : ℕ) (a b c d : Device ℕ) (frames held : List SymbolsView) (captured written : List CaptureFrame)
    (read : ReadsWhole AreSymbolFrames symbols_file_of a b frames) (same : held ≡ frames) (passed : captured ≡ captures_of seed noise held)
    (put : written ≡ captured) where
  comes : PassesTo seed noise (symbols_file_of frames) (capture_file_of 1 written)
  comes = (frames, read.0, refl, ap (capture_file_of 1) (put ∙ (passed ∙ ap (captures_of seed noise) same)))

  -- of the capture that they came to this was put
  pub passes : (Puts : List ℕ → Type 0) → Puts (capture_file_of 1 written) → TakesWhole (passing seed noise) a b c d Puts
  passes Puts put_so =
      takes_whole symbols BeforeOutput (PassesTo seed noise) a b c (symbols_file_of frames) (capture_file_of 1 written) frames read.1
      (symbols_written frames read.0) comes d Puts put_so
