use Rattle.std.proofs.Common.{sym, ◌∙◌}
use Rattle.ht_capture.proofs.Grids.{length-grid_of}
use Rattle.ht_library.proofs.detection.job_on.Goals as goal

-- A rate's grid has its streams, and so has the system.
pub new-requires : goal.new-requires
new-requires c =
    length-grid_of c.args.rate.now c.args.grid.now c.requires ∙ (sym c.streams.ensures.value ∙ sym c.system.ensures.rows)
