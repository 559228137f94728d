-- What becomes of the file of the symbols that are sent of frames, passed through the simulated channel with noise 0.
use Rattle.std.proofs.Common.{◌≡◌, inl, ℕ, List, [], ◌∷◌, All, refl, sym, ap, ◌∙◌, arith}
use Rattle.std.proofs.lemmas.List.Elements.{All-cons, All-nil}
use Rattle.ht_capture.specs.Files.{capture_file_of}
use Rattle.ht_tx.specs.Frames.{FrameView}
use Rattle.ht_tx.specs.Symbols.{SymbolsView}
use Rattle.ht_tx.specs.Transmitted.{AreTransmitted}
use Rattle.ht_tx.proofs.Sequences.{length-sent}
use Rattle.ht_files.specs.Files.{AreFrames}
use Rattle.ht_files.specs.SymbolFiles.{AreSymbolFrames, IsSymbolFrame, symbols_file_of}
use Rattle.ht_files.proofs.PointRoutes.{symbols_same}
use Rattle.ht_sim.specs.Channel.{captures_of}
use Rattle.ht_sim.specs.Passing.{PassesTo}
use Rattle.ht_results.specs.Results.{results_of}
use Rattle.ht_results.specs.Texts.{rx_text}
use Rattle.ht_round.specs.Exact.{HoldOctets}
use Rattle.ht_round.specs.Returned.{returned_results, returned_text}
use Rattle.ht_round.proofs.Simulated.{simulated_results, simulated_text}

-- what is sent of frames can be written in a file
all_symbols : (frames : List FrameView) (sent : List SymbolsView) → AreTransmitted frames sent → All IsSymbolFrame sent
all_symbols [] [] out = All-nil IsSymbolFrame
all_symbols [] (s ∷ sent) out = absurd out
all_symbols (f ∷ frames) [] out = absurd out
all_symbols (f ∷ frames) (s ∷ sent) out = All-cons IsSymbolFrame s sent out.1 (all_symbols frames sent out.2)

pub sent_frames : (frames : List FrameView) (sent : List SymbolsView) → AreFrames frames → AreTransmitted frames sent → AreSymbolFrames sent
sent_frames frames sent good out =
    let few = good.few in
    let count = length-sent frames sent out in
    record { some = omega arith; few = omega (arith, few, count); fit = all_symbols frames sent out }

-- the file has no other symbols than these
pub passed_is : (seed : ℕ) (frames : List FrameView) (sent : List SymbolsView) (output : List ℕ) → AreFrames frames → AreTransmitted frames sent
    → PassesTo seed 0 (symbols_file_of sent) output → output ≡ capture_file_of 1 (captures_of seed 0 sent)
passed_is seed frames sent output good out passes =
    passes.3
    ∙ ap (λ (those : List SymbolsView). capture_file_of 1 (captures_of seed 0 those))
    (sym (symbols_same sent passes.0 (sent_frames frames sent good out) passes.1 passes.2))

pub passed_results : (seed : ℕ) (frames : List FrameView) (sent : List SymbolsView) (output : List ℕ)
    → AreFrames frames → HoldOctets frames → AreTransmitted frames sent → PassesTo seed 0 (symbols_file_of sent) output
    → results_of output ≡ returned_results frames
passed_results seed frames sent output good octets out passes =
    ap results_of (passed_is seed frames sent output good out passes) ∙ simulated_results 1 seed frames sent (inl refl) good octets out

pub passed_text : (seed : ℕ) (frames : List FrameView) (sent : List SymbolsView) (output : List ℕ)
    → AreFrames frames → HoldOctets frames → AreTransmitted frames sent → PassesTo seed 0 (symbols_file_of sent) output
    → rx_text output ≡ returned_text frames
passed_text seed frames sent output good octets out passes =
    ap rx_text (passed_is seed frames sent output good out passes) ∙ simulated_text 1 seed frames sent (inl refl) good octets out
