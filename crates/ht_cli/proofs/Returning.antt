-- What is sent, passes the channel without noise, and is received.
use Rattle.std.specs.Prelude.{◌≡◌, ◌⊎◌, ℕ, List}
use Rattle.std.proofs.Common.{refl, ap, ◌∙◌, sym, subst, inl}
use Rattle.ht_capture.specs.declared.frames.CaptureFrame.{CaptureFrame}
use Rattle.ht_capture.specs.Files.{capture_file_of}
use Rattle.ht_results.specs.Texts.{rx_text}
use Rattle.ht_tx.specs.Frames.{FrameView}
use Rattle.ht_tx.specs.Symbols.{SymbolsView}
use Rattle.ht_tx.specs.Transmitted.{AreTransmitted}
use Rattle.ht_files.specs.Files.{AreFrames, frames_file_of}
use Rattle.ht_files.specs.SymbolFiles.{AreSymbolFrames, symbols_file_of}
use Rattle.ht_files.proofs.FrameRoutes.{frames_same}
use Rattle.ht_files.proofs.PointRoutes.{symbols_same}
use Rattle.ht_sim.specs.Passing.{PassesTo}
use Rattle.ht_round.specs.Exact.{AreExact, HoldOctets}
use Rattle.ht_round.specs.Returned.{returned_text}
use Rattle.ht_round.proofs.Passed.{sent_frames}
use Rattle.ht_round.proofs.Round.{text_back}
use Rattle.ht_round.proofs.Simulated.{simulated_text}
use Rattle.ht_sim.specs.Converting.{SendsTo, UpgradesTo}
use Rattle.ht_cli.proofs.Upgrading.{same_reception}

module _ (frames : List FrameView) (are : AreFrames frames) where
  -- the symbols that are sent for a file of these frames
  sent_of : (symbols : List ℕ) (points : List SymbolsView) → AreSymbolFrames points → symbols ≡ symbols_file_of points
      → SendsTo (frames_file_of frames) symbols → AreTransmitted frames points
  sent_of symbols points fit from (others, sent, also, all, same, is) =
      let frames_are = frames_same others frames also are (sym same) in
      let points_are = symbols_same sent points (sent_frames others sent also all) fit (sym is ∙ from) in
      subst (λ (fs : List FrameView). AreTransmitted fs points) frames_are (subst (λ (s : List SymbolsView). AreTransmitted others s) points_are all)

  module _ (hold : HoldOctets frames) where
    pub passed_text : (seed : ℕ) (symbols capture : List ℕ) → SendsTo (frames_file_of frames) symbols → PassesTo seed 0 symbols capture
        → rx_text capture ≡ returned_text frames
    passed_text seed symbols capture sends (points, fit, from, comes) =
        ap rx_text comes ∙ simulated_text 1 seed frames points (inl refl) are hold (sent_of symbols points fit from sends)

    pub upgraded_text : (seed : ℕ) (symbols capture output : List ℕ) → SendsTo (frames_file_of frames) symbols → PassesTo seed 0 symbols capture
        → UpgradesTo capture output → rx_text output ≡ returned_text frames
    upgraded_text seed symbols capture output sends passes up =
        same_reception capture output up ∙ passed_text seed symbols capture sends passes

    pub exact_text : (version : ℕ) (sent : List SymbolsView) (captured : List CaptureFrame) → (version ≡ 1) ⊎ (version ≡ 2)
        → AreSymbolFrames sent → SendsTo (frames_file_of frames) (symbols_file_of sent) → AreExact sent captured
        → rx_text (capture_file_of version captured) ≡ returned_text frames
    exact_text version sent captured isv fit sends exact =
        text_back version frames sent captured isv are hold (sent_of (symbols_file_of sent) sent fit refl sends) exact
