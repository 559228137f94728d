-- What comes of frames that come back: their own octets, with no distance and no bit that differs.
use Rattle.std.specs.Prelude.{ℕ, ◌+◌, List, [], ◌∷◌, ◌++◌, length}
use Rattle.ht_tx.specs.Frames.{FrameView}
use Rattle.ht_inverse.specs.declared.outcome.Outcome.TheVariants.{Octets}
use Rattle.ht_text.specs.Lines.{end_text}
use Rattle.ht_results.specs.declared.frame_result.FrameResult.{FrameResult}
use Rattle.ht_results.specs.Texts.{result_lines}

-- the result of a frame of this number with these octets
abbrev pub own_result : ℕ → List ℕ → FrameResult
own_result number octets = record { frame = number; data_sum = 0; pilot_sum = 0; code = 0; outcome = Octets octets }

-- the results of frames of some kind, by what gives their octets, where the first one has this number
abbrev pub own_results : {F : Type 0} → (F → List ℕ) → ℕ → List F → List FrameResult
own_results octets_of number [] = []
own_results octets_of number (f ∷ frames) = own_result number (octets_of f) ∷ own_results octets_of (number + 1) frames

-- their lines: `frame N data 0 pilot 0 code 0 octets HEX`
abbrev pub own_lines : {F : Type 0} → (F → List ℕ) → ℕ → List F → List ℕ
own_lines octets_of number frames = result_lines (own_results octets_of number frames)

-- the same of frames that are sent
abbrev pub returned_result : ℕ → FrameView → FrameResult
returned_result number f = own_result number f.octets

abbrev pub returned_from : ℕ → List FrameView → List FrameResult
returned_from number frames = own_results (λ (f : FrameView). f.octets) number frames

abbrev pub returned_results : List FrameView → List FrameResult
returned_results frames = returned_from 0 frames

abbrev pub returned_lines : ℕ → List FrameView → List ℕ
returned_lines number frames = own_lines (λ (f : FrameView). f.octets) number frames

-- the lines of all frames, and behind them `end F frames`
abbrev pub returned_text : List FrameView → List ℕ
returned_text frames = returned_lines 0 frames ++ end_text (length frames)
