use Rattle.ht_counted.proofs.FrameRoutes.{octets_ends, seed_ends}
use Rattle.ht_counted.proofs.framed.frame.Goals as goal

pub returns-in-Err-seed-clause-failed : goal.returns-in-Err-seed-clause-failed
returns-in-Err-seed-clause-failed g c = λ left some.
    seed_ends g.F.Framed.format g.F.Framed.framing c.requires.framing left c.args.at c.width.result c.in-Ok.head.0 c.in-Ok.head.1
    (g.S.Source.shown c.args.source.now) (g.S.Source.shown c.head.new.source) c.width.ensures.value some c.in-Ok.ensures.some c.in-Ok.ensures.few
    c.in-Ok.ensures.whole c.in-Ok.ensures.later (g.S.Source.shown c.seed.new.source) c.in-Err-seed.fault
    c.in-Err-seed.ensures.failed

pub returns-in-Err-octets-clause-failed : goal.returns-in-Err-octets-clause-failed
returns-in-Err-octets-clause-failed g c = λ left some.
    octets_ends g.F.Framed.format g.F.Framed.framing c.requires.framing left c.args.at c.width.result c.in-Ok.head.0 c.in-Ok.head.1
    (g.S.Source.shown c.args.source.now) (g.S.Source.shown c.head.new.source) c.width.ensures.value some c.in-Ok.ensures.some c.in-Ok.ensures.few
    c.in-Ok.ensures.whole c.in-Ok.ensures.later c.in-Ok-seed.seed (g.S.Source.shown c.seed.new.source) (g.S.Source.shown c.octets.new.source)
    c.in-Err-octets.fault c.in-Ok-seed.ensures.seed c.in-Ok-seed.ensures.whole c.in-Ok-seed.ensures.later c.in-Err-octets.ensures.failed
