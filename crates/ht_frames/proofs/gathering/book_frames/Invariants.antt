use Rattle.std.proofs.Common.{◌≡◌, length}
use Rattle.ht_io.specs.Devices.{IsLater}
use Rattle.ht_frames.specs.Gathering.{BooksFirst}
use Rattle.ht_frames.proofs.gathering.book_frames.Given as goal

-- the results of the frames that left the queue are booked
abbrev pub invariant-loop-oldest : goal.invariant-loop-oldest
invariant-loop-oldest g l =
    let b = g.B.Book in
    record {
      put : BooksFirst g.W.WholeFrame.result_of b.booked (b.shown l.fn.book) (b.shown l.book) l.fn.queue.items l.queue.items;
      steady : (b.shown l.book).faults ≡ (b.shown l.fn.book).faults;
      later : IsLater (b.shown l.fn.book) (b.shown l.book);
      same : b.lent l.book ≡ b.lent l.fn.book;
    }

abbrev pub decreases-loop-oldest : goal.decreases-loop-oldest
decreases-loop-oldest g l = length l.queue.items
