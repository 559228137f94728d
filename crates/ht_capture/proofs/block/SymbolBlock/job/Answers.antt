use Rattle.std.proofs.Common.{[], sym, ap, ◌∙◌}
use Rattle.std.specs.Prelude.{Option, Some}
use Rattle.ht_metric.specs.Jobs.{JobView}
use Rattle.ht_capture.specs.declared.places.Present.{Present}
use Rattle.ht_capture.proofs.block.SymbolBlock.job.Goals as goal

pub returns : goal.returns
returns c =
    let d : Present = record { carrier = 0; triangle = [] } in
    ap (λ (j : JobView). let o : Option JobView = Some j in o) (c.job.ensures d) ∙ sym (c.subcarrier-subcarrier.ensures.job d)
