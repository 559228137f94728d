use Rattle.ht_files.specs.Frames.{framed}
use Rattle.ht_files.proofs.HeadRoutes.{heads_end}
use Rattle.ht_files.proofs.frames.FramesFramed.head.Goals as goal

pub returns-clause-failed : goal.returns-clause-failed
returns-clause-failed g c = λ left some.
    heads_end framed left c.args.at (g.S.Source.shown c.args.source.now) (g.S.Source.shown c.head.new.source) c.head.result some c.head.ensures.failed
