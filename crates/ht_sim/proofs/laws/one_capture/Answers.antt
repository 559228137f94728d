use Rattle.std.proofs.Common.{◌≡◌, ℕ, List, sym, ap, ◌∙◌}
use Rattle.ht_capture.specs.Files.{capture_file_of}
use Rattle.ht_tx.specs.Symbols.{SymbolsView}
use Rattle.ht_files.proofs.PointRoutes.{symbols_same}
use Rattle.ht_sim.specs.Channel.{captures_of}
use Rattle.ht_sim.specs.Passing.{PassesTo}
use Rattle.ht_sim.proofs.laws.one_capture.Goals as goal

one : (seed noise : ℕ) (octets first second : List ℕ) → PassesTo seed noise octets first → PassesTo seed noise octets second → first ≡ second
one seed noise octets first second (frames, are, is, passed) (others, also, same, made) =
    let frames_are : frames ≡ others = symbols_same frames others are also (sym is ∙ same) in
    passed ∙ (ap (λ (z : List SymbolsView). capture_file_of 1 (captures_of seed noise z)) frames_are ∙ sym made)

pub returns : goal.returns
returns c = one
