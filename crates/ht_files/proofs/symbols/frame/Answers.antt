use Rattle.ht_files.specs.Points.{pointed}
use Rattle.ht_files.proofs.HeadRoutes.{head_ends}
use Rattle.ht_files.proofs.PointRoutes.{points_end, takes_symbols}
use Rattle.ht_files.proofs.symbols.frame.Goals as goal

pub returns-in-Err-clause-failed : goal.returns-in-Err-clause-failed
returns-in-Err-clause-failed g c = λ left some.
    head_ends pointed left c.args.at (g.S.Source.shown c.args.source.now) (g.S.Source.shown c.head.new.source) c.in-Err.fault some c.in-Err.ensures.failed

pub returns-in-Err-read_points-clause-failed : goal.returns-in-Err-read_points-clause-failed
returns-in-Err-read_points-clause-failed g c = λ left some.
    points_end left c.in-Ok.head.0 c.in-Ok.head.1 c.args.at (g.S.Source.shown c.args.source.now) (g.S.Source.shown c.head.new.source)
    (g.S.Source.shown c.read_points.new.source) c.in-Err-read_points.fault some c.in-Ok.ensures.some c.in-Ok.ensures.small
    c.in-Ok.ensures.whole c.in-Ok.ensures.later (c.in-Err-read_points.ensures.failed left)

pub returns-in-Ok-read_points-clause-whole : goal.returns-in-Ok-read_points-clause-whole
returns-in-Ok-read_points-clause-whole g c =
    takes_symbols c.new.result c.in-Ok.head.0 c.in-Ok.head.1 c.from.result c.read_points.new.points.items
    (g.S.Source.shown c.args.source.now) (g.S.Source.shown c.head.new.source) (g.S.Source.shown c.read_points.new.source)
    c.new.ensures c.from.ensures c.in-Ok.ensures.whole c.in-Ok-read_points.ensures.whole
