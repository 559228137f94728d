use Rattle.std.specs.Prelude.{[], ◌∷◌}
use Rattle.ht_feed.specs.Items.{headed_of}
use Rattle.ht_frames.proofs.Gathered.{books_whole}
use Rattle.ht_frames.proofs.decodes.take_job.Goals as goal

pub returns-then-branch : goal.returns-then-branch
returns-then-branch g c =
    let b = g.B.Book in
    let results = g.U.UnderWay.results in
    let after = c.take_job.new.self in
    books_whole g.U.Whole.WholeFrame.result_of b.booked (b.shown c.args.book.now) (b.shown c.finish.new.book) (g.D.Decodes.whole c.args.queue.now)
    (g.U.UnderWay.comes_to after) (results c.args.under_way.now) (results after) (headed_of c.args.head.now c.args.job.now ∷ []) c.in_ok-take_job.field-0
    c.in_ok-take_job.ensures.results c.if-branch.true c.finish.ensures
