use Rattle.std.proofs.Common.{◌≡◌, ◌++◌, ℕ, List, Result, sym, subst}
use Rattle.std.specs.Prelude.{IfNone, IfSome}
use Rattle.std.proofs.lemmas.Result.{err_from_is_err_and}
use Rattle.ht_io.specs.Devices.{Device}
use Rattle.ht_feed.specs.declared.book_fault.BookFault.{BookFault}
use Rattle.ht_feed.specs.Consumers.{BooksJobs}
use Rattle.ht_feed.specs.Dues.{due_of, headed_due}
use Rattle.ht_feed.specs.Items.{Headed}
use Rattle.ht_frames.specs.Gathering.{booked_behind, finished}
use Rattle.ht_frames.proofs.Gathered.{books_alike, books_whole}
use Rattle.ht_frames.proofs.Taking.{books_more, books_part, heads}
use Rattle.ht_frames.proofs.decodes.take_block.Goals as goal
use Rattle.ht_frames.proofs.decodes.take_block.Goals.{In-None}

pub returns-in-Some-true : goal.returns-in-Some-true
returns-in-Some-true g c =
    let b = g.B.Book in
    let results = g.U.UnderWay.results in
    let after = c.take.new.self in
    let jobs = headed_due (due_of c.args.head.now (g.J.Jobs.jobs c.args.block.now)) in
    books_whole g.U.Whole.WholeFrame.result_of b.booked (b.shown c.args.book.now) (b.shown c.finish.new.book) (g.D.Decodes.whole c.args.queue.now)
    (g.U.UnderWay.comes_to after) (results c.args.under_way.now) (results after) jobs c.in-Some-true.field-0
    (subst (λ given. IfSome given (λ last. (more : List (Headed g.row.U-Head.Denot)) → results c.args.under_way.now (jobs ++ more)
    ≡ finished last (g.U.UnderWay.comes_to after) ++ results after more)) c.in-Some-true.is c.in_ok-take.ensures.results)
    c.in-Some-true.field-0-test c.finish.ensures

pub loop-at-preserved : goal.loop-at-preserved
loop-at-preserved g c =
    books_more c.args.head.now (g.J.Jobs.jobs c.args.block.now) c.loop-at.at c.job-job.result (sym c.job-job.ensures) c.loop-at.invariant
    c.in_ok-take_job-in-None.ensures

-- a block isn't known to fit, and what follows of its jobs follows of them one by one
one-by-one : (g : _) (c : In-None g) {answer : Result (Unit {0}) BookFault} {a b : Device g.row.B-Piece.Denot}
    {end : List (Headed g.row.U-Head.Denot) → List g.row.B-Piece.Denot} {lent lent' : List ℕ}
    → (let all = booked_behind g.U.Whole.WholeFrame.result_of g.B.Book.booked (g.D.Decodes.whole c.args.queue.now) in
    let results = g.U.UnderWay.results in
    let jobs = heads c.args.head.now (g.J.Jobs.jobs c.args.block.now) in
    BooksJobs answer a b (all (results c.take.new.self)) end jobs lent lent'
    → BooksJobs answer a b (all (results c.args.under_way.now)) end jobs lent lent')
one-by-one g c {answer} {a} {b} {end} {lent} {lent'} books =
    let results = g.U.UnderWay.results in
    let before = results c.args.under_way.now in
    let same = results c.take.new.self in
    let jobs = heads c.args.head.now (g.J.Jobs.jobs c.args.block.now) in
    books_alike g.U.Whole.WholeFrame.result_of g.B.Book.booked a b (g.D.Decodes.whole c.args.queue.now) before same jobs
    (subst (λ given. IfNone given ((more : List (Headed g.row.U-Head.Denot)) → same (jobs ++ more) ≡ before (jobs ++ more))) c.in-None.is
    c.in_ok-take.ensures.none) books

pub returns-in_err-take_job-in-None : goal.returns-in_err-take_job-in-None
returns-in_err-take_job-in-None g c =
    let p = err_from_is_err_and c.from_residual-in_err-take_job-in-None.result c.from_residual-in_err-take_job-in-None.ensures.1 in
    one-by-one g (goal.at.returns-in_err-take_job-in-None g c).In-None
    (books_part c.args.head.now (g.J.Jobs.jobs c.args.block.now) c.loop-at.at c.job-job.result (sym c.job-job.ensures) c.loop-at.invariant p.1 p.2
    c.in_err-take_job-in-None.ensures)
