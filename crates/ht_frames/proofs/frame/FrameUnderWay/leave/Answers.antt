use Rattle.std.proofs.Common.{◌≡◌, ◌∙◌, ap}
use Rattle.ht_frames.proofs.Tallying.{anew}
use Rattle.ht_frames.proofs.frame.FrameUnderWay.leave.Goals as goal

pub returns-clause-kept : goal.returns-clause-kept
returns-clause-kept g c = λ more.
    let over : c.replace.new.dest.left ≡ 0 = ap (λ z. z.left) c.replace.ensures.after ∙ c.new.ensures in
    anew g.K.Kind.plan g.K.Kind.begins g.K.Kind.result_of c.replace.new.dest c.args.self.now more over c.requires.whole.none
