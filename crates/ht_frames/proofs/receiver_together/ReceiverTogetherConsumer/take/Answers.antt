use Rattle.std.proofs.Common.{rules}
use Rattle.std.specs.Prelude.{drop}
use Rattle.ht_feed.specs.Dues.{all_due, due_of, headed_due}
use Rattle.ht_frames.specs.Gathering.{WaitForJobs, booked_behind}
use Rattle.ht_frames.proofs.Gathered.{all_part, all_put, failed_behind, none_kept}
use Rattle.ht_frames.proofs.receiver_together.ReceiverTogetherConsumer.take.Goals as goal

pub returns-then-more-2-clause-waits : goal.returns-then-more-2-clause-waits
returns-then-more-2-clause-waits g c = λ w is. absurd (c.another_is_due-more.ensures c.if-more-2.true is)

pub returns : goal.returns
returns g c =
    let b = g.B.Book in
    let result_of = g.U.Whole.WholeFrame.result_of in
    let results = g.U.UnderWay.results in
    let self = c.args.self.now in
    let old = b.shown self.book.now in
    let mid = b.shown c.gather_block.new.book in
    let new = b.shown c.book_frames.new.book in
    let whole = c.gather_block.new.queue.items in
    let left = c.book_frames.new.queue.items in
    let start = booked_behind result_of b.booked self.queue.now.items (results self.under_way.now) in
    let jobs = headed_due (due_of c.args.head.now (g.T.Block.Jobs.jobs c.args.block.now)) in
    let put = c.in_ok-gather_block.ensures.put in
    let e = c.book_frames.ensures in
    record {
      books = record {
        put = all_put result_of b.booked old mid new start whole left (results c.gather_block.new.under_way) jobs put c.book_frames.result e.put;
        part = all_part result_of b.booked old mid new start whole left (results c.gather_block.new.under_way) jobs put c.book_frames.result e.part;
        faults = record {
          steady = search rules;
          cause = failed_behind c.book_frames.result old mid new c.gather_block.ensures.faults.later e.faults.cause;
          unfailed = search rules;
          later = search rules;
          same = search rules;
        };
      };
      waits = none_kept c.book_frames.result left (WaitForJobs self.queue.now.items (all_due c.args.due.now.items))
          (all_due (drop 1 c.args.due.now.items)) e.few;
    }
