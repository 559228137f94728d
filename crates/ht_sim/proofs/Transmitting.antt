-- What sending the frames of a file comes to.
use Rattle.std.specs.Prelude.{◌≡◌, ◌≤◌, ℕ, List, length}
use Rattle.std.proofs.Common.{refl, ap, subst, arith}
use Rattle.ht_io.specs.Devices.{Device}
use Rattle.ht_fields.specs.WholeFiles.{ReadsWhole}
use Rattle.ht_tx.specs.Frames.{FrameView}
use Rattle.ht_tx.specs.Symbols.{SymbolsView}
use Rattle.ht_tx.specs.Transmitted.{AreTransmitted}
use Rattle.ht_tx.proofs.Sequences.{length-sent}
use Rattle.ht_files.specs.Files.{AreFrames, frames_file_of}
use Rattle.ht_files.specs.Frames.{frames as frames_format}
use Rattle.ht_files.specs.SymbolFiles.{symbols_file_of}
use Rattle.ht_files.proofs.FrameRoutes.{frames_written}
use Rattle.ht_runs.specs.Converted.{TakesWhole}
use Rattle.ht_runs.specs.Filters.{BeforeOutput}
use Rattle.ht_runs.proofs.Converting.{takes_whole}
use Rattle.ht_sim.specs.Converting.{SendsTo, sending}

-- the frames that were read, and the symbols that were sent for them
module _ (a b c d : Device ℕ) (frames held : List FrameView) (sent written : List SymbolsView)
    (read : ReadsWhole AreFrames frames_file_of a b frames) (same : held ≡ frames) (are : AreTransmitted held sent) (put : written ≡ sent) where
  comes : SendsTo (frames_file_of frames) (symbols_file_of written)
  comes = (
    frames,
    sent,
    read.0,
    subst (λ (fs : List FrameView). AreTransmitted fs sent) same are,
    refl,
    ap (λ (ss : List SymbolsView). symbols_file_of ss) put,
  )

  -- of the file of their symbols this was put
  pub sends : (Puts : List ℕ → Type 0) → Puts (symbols_file_of written) → TakesWhole sending a b c d Puts
  sends Puts put_so =
      takes_whole frames_format BeforeOutput SendsTo a b c (frames_file_of frames) (symbols_file_of written) frames read.1
      (frames_written frames read.0) comes d Puts put_so

  -- at most as many as a file holds
  pub few_sent : length written ≤ 65535
  few_sent = omega (
    arith,
    read.0.few,
    ap (λ (fs : List FrameView). length fs) same,
    length-sent held sent are,
    ap (λ (ss : List SymbolsView). length ss) put,
  )
