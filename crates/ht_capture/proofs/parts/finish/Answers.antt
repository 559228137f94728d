use Rattle.ht_fields.proofs.Halting.{ended_finishes, further_halts}
use Rattle.ht_capture.specs.Fields.{Over, captures}
use Rattle.ht_capture.proofs.parts.finish.Goals as goal

pub returns-in-Ok-clause-told : goal.returns-in-Ok-clause-told
returns-in-Ok-clause-told g c =
    ended_finishes captures Over c.args.at (g.S.Source.shown c.args.source.now) (g.S.Source.shown c.end.new.source) tt c.in-Ok.ensures.ended

pub returns-in-Err-clause-told : goal.returns-in-Err-clause-told
returns-in-Err-clause-told g c =
    further_halts captures Over c.args.at (g.S.Source.shown c.args.source.now) (g.S.Source.shown c.end.new.source) c.in-Err.fault tt c.in-Err.ensures.further
