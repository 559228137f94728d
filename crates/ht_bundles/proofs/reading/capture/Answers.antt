use Rattle.ht_bundles.proofs.Routes.{octets_end, size_ends, takes_capture}
use Rattle.ht_bundles.proofs.reading.capture.Goals as goal

pub returns-in-Err-clause-failed : goal.returns-in-Err-clause-failed
returns-in-Err-clause-failed g c = λ left some.
    size_ends left c.args.at (g.S.Source.shown c.args.source.now) (g.S.Source.shown c.size.new.source) c.in-Err.fault some c.in-Err.ensures.lacking

pub returns-in-Ok-octets-clause-whole : goal.returns-in-Ok-octets-clause-whole
returns-in-Ok-octets-clause-whole g c =
    takes_capture c.from.result c.in-Ok-octets.octets.items c.in-Ok.size (g.S.Source.shown c.args.source.now) (g.S.Source.shown c.size.new.source)
    (g.S.Source.shown c.octets.new.source) c.from.ensures c.in-Ok-octets.ensures.size c.in-Ok.ensures.whole c.in-Ok-octets.ensures.whole

pub returns-in-Err-octets-clause-failed : goal.returns-in-Err-octets-clause-failed
returns-in-Err-octets-clause-failed g c = λ left some.
    octets_end left c.in-Ok.size c.args.at (g.S.Source.shown c.args.source.now) (g.S.Source.shown c.size.new.source)
    (g.S.Source.shown c.octets.new.source) c.in-Err-octets.fault some c.in-Ok.ensures.fits c.in-Ok.ensures.whole c.in-Ok.ensures.later
    c.in-Err-octets.ensures.failed
