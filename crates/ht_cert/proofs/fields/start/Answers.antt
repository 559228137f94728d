use Rattle.ht_cert.proofs.Starting.{start_gives, start_stops}
use Rattle.ht_cert.proofs.fields.start.Goals as goal

pub returns-in-Ok-clause-told : goal.returns-in-Ok-clause-told
returns-in-Ok-clause-told g c =
    start_gives c.record_limits.result c.in-Ok.left (g.S.Source.shown c.args.source.now) (g.S.Source.shown c.start.new.source)
    c.record_limits.ensures c.in-Ok.ensures.most c.in-Ok.ensures.whole

pub returns-in-Err-clause-told : goal.returns-in-Err-clause-told
returns-in-Err-clause-told g c =
    start_stops c.record_limits.result (g.S.Source.shown c.args.source.now) (g.S.Source.shown c.start.new.source) c.in-Err.fault
    c.record_limits.ensures c.in-Err.ensures.failed
