-- What comes of frames that come back: their own octets, with no distance and no bit that differs.
use Rattle.std.specs.Prelude.{ℕ, List, ◌++◌, length}
use Rattle.ht_clause18.specs.Frames.{LegacyFrameView}
use Rattle.ht_text.specs.Lines.{end_text}
use Rattle.ht_results.specs.declared.frame_result.FrameResult.{FrameResult}
use Rattle.ht_round.specs.Returned.{own_lines, own_results}

abbrev pub octets_of : LegacyFrameView → List ℕ
octets_of f = f.octets

-- the results of frames that come back
abbrev pub returned_results : List LegacyFrameView → List FrameResult
returned_results frames = own_results octets_of 0 frames

-- a line of each, and behind them `end F frames`
abbrev pub returned_text : List LegacyFrameView → List ℕ
returned_text frames = own_lines octets_of 0 frames ++ end_text (length frames)
