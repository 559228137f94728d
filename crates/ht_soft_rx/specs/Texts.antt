-- What `soft` writes for a list of octets: a line for each frame that is whole, and a last line.
use Rattle.std.specs.Prelude.{ℕ, List, ◌++◌}
use Rattle.std.specs.List.{flat_map}
use Rattle.ht_text.specs.Lines.{soft_text}
use Rattle.ht_results.specs.Texts.{last_line, octets_in}
use Rattle.ht_soft_rx.specs.declared.soft_result.SoftResult.{SoftResult}
use Rattle.ht_soft_rx.specs.Results.{soft_results_of}

-- the line of a frame
unfoldable pub soft_line : SoftResult → List ℕ
soft_line r = soft_text r.frame r.cost (octets_in r.outcome)

-- the lines of the frames that are whole in a list of octets
unfoldable pub soft_lines_of : List ℕ → List ℕ
soft_lines_of octets = flat_map soft_line (soft_results_of octets)

-- the reference text of a list of octets
unfoldable pub soft_rx_text : List ℕ → List ℕ
soft_rx_text octets = soft_lines_of octets ++ last_line octets
