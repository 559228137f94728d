use Rattle.std.proofs.Common.{Ok, take}
use Rattle.ht_feed.specs.Consumers.{BooksJobs}
use Rattle.ht_frames.specs.Gathering.{booked_behind}
use Rattle.ht_frames.proofs.Taking.{heads}
use Rattle.ht_frames.proofs.decodes.take_block.Given as goal

-- this many jobs were taken
abbrev pub invariant-loop-at : goal.invariant-loop-at
invariant-loop-at g l =
    let b = g.B.Book in
    let all = booked_behind g.U.Whole.WholeFrame.result_of b.booked in
    let results = g.U.UnderWay.results in
    let whole = g.D.Decodes.whole in
    BooksJobs {A = Unit {0}} (Ok tt) (b.shown l.fn.book) (b.shown l.book) (all (whole l.fn.queue) (results l.initial.under_way))
    (all (whole l.queue) (results l.under_way)) (heads l.fn.head (take l.at (g.J.Jobs.jobs l.fn.block))) (b.lent l.fn.book) (b.lent l.book)
