use Rattle.std.proofs.Common.{◌∙◌, ap, length, List, sym}
use Rattle.ht_pam.specs.declared.axes.Axes.{Axes}
use Rattle.ht_capture.proofs.Grids.{length-pilot_grid}
use Rattle.ht_capture.proofs.Hearing.{own_grid, same_grid}
use Rattle.ht_capture.proofs.jobs.grid_on.Goals as goal

pub returns-in-Data-clause-value : goal.returns-in-Data-clause-value
returns-in-Data-clause-value c =
    let t = c.args.template.now in
    c.grid.ensures.grid ∙ (c.requires.grid
    ∙ same_grid c.args.head.now.rate c.args.symbol t.job.place.carrier c.in-Data.field-0 (sym c.requires.kind ∙ c.in-Data.is))

pub returns-in-Data-clause-streams : goal.returns-in-Data-clause-streams
returns-in-Data-clause-streams c =
    ap (λ (axes : List Axes). length axes) c.grid.ensures.grid ∙ (c.grid.ensures.job.streams ∙ c.requires.streams)

pub returns-in-Pilot-clause-value : goal.returns-in-Pilot-clause-value
returns-in-Pilot-clause-value c =
    let t = c.args.template.now in
    c.pilot_points.ensures ∙ own_grid c.args.head.now.rate c.args.symbol t.job.place.carrier c.in-Pilot.index (sym c.requires.kind ∙ c.in-Pilot.is)

pub returns-in-Pilot-clause-streams : goal.returns-in-Pilot-clause-streams
returns-in-Pilot-clause-streams c =
    length-pilot_grid c.args.head.now.rate c.args.symbol c.in-Pilot.index c.pilot_points.result c.pilot_points.ensures
