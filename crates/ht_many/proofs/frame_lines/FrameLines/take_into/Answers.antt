use Rattle.std.proofs.Common.{◌≡◌, ◌∙◌, [], ap, sym, take, rules}
use Rattle.ht_feed.specs.Consumers.{BooksJobs}
use Rattle.ht_feed.specs.Dues.{all_due}
use Rattle.ht_results.specs.Folding.{FrameSoFar}
use Rattle.ht_many.specs.KeptFrames.{KeptFrames, booked_left, kept_frames}
use Rattle.ht_many.proofs.Parts.{books_of, here}
use Rattle.ht_many.proofs.frame_lines.FrameLines.take_into.Goals as goal

pub returns-clause-books : goal.returns-clause-books
returns-clause-books g c =
    let b = g.B.Book in
    let before = c.new-receiver.result in
    let after = c.take.new.consumer in
    let e = c.take.ensures in
    let old : KeptFrames = kept_frames before.under_way.now [] in
    let new : KeptFrames = kept_frames after.under_way.now [] in
    let books : BooksJobs c.take.result (b.shown before.book.now) (b.shown after.book.now) (booked_left b.booked old) (booked_left b.booked new)
    (all_due (take 1 c.args.in_flight.now.due)) [] [] =
    record { put = e.books.put; part = e.books.part; faults = here e.books.faults } in
    let same : c.args.self.now ≡ old = sym c.self.view_is ∙ sym (ap (λ (f : FrameSoFar). kept_frames f []) c.new-receiver.ensures.under_way) in
    record {
      books = books_of b.shown (booked_left b.booked) before.book.now after.book.now c.args.book.now _ old new c.args.self.now (kept_frames _ [])
          (search rules) (search rules) same (search rules) books;
      due = e.due;
      stays = e.stays;
    }
