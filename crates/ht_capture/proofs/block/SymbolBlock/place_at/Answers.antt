use Rattle.std.proofs.Common.{[]}
use Rattle.ht_capture.specs.declared.places.Present.{Present}
use Rattle.ht_capture.proofs.Sharing.{part_placed}
use Rattle.ht_capture.proofs.block.SymbolBlock.place_at.Goals as goal

pub returns : goal.returns
returns c =
    let d : Present = record { carrier = 0; triangle = [] } in
    part_placed _ c.subcarrier-subcarrier.result.0.now c.subcarrier-subcarrier.result.1 d c.place.result
    (c.subcarrier-subcarrier.ensures.job d) (c.place.ensures d)
