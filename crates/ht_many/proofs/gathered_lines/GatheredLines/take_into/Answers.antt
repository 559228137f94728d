use Rattle.std.proofs.Common.{◌≡◌, ◌∙◌, List, [], ap, sym, take, rules}
use Rattle.ht_feed.specs.Consumers.{BooksJobs}
use Rattle.ht_feed.specs.Dues.{all_due}
use Rattle.ht_results.specs.Folding.{FrameSoFar}
use Rattle.ht_many.specs.KeptFrames.{KeptFrames, booked_left, kept_frames}
use Rattle.ht_many.proofs.Parts.{books_of, here}
use Rattle.ht_many.proofs.gathered_lines.GatheredLines.take_into.Goals as goal

pub returns-clause-books : goal.returns-clause-books
returns-clause-books g c =
    let b = g.B.Book in
    let before = c.new-lines.result in
    let after = c.take.new.consumer in
    let lines = c.new-lines.ensures in
    let e = c.take.ensures in
    let old : KeptFrames = kept_frames before.under_way.now before.queue.now.items in
    let new : KeptFrames = kept_frames after.under_way.now after.queue.now.items in
    let books : BooksJobs c.take.result (b.shown before.book.now) (b.shown after.book.now) (booked_left b.booked old) (booked_left b.booked new)
    (all_due (take 1 c.args.in_flight.now.due)) [] [] =
    record { put = e.books.put; part = e.books.part; faults = here e.books.faults } in
    let same : c.args.self.now ≡ old =
    sym c.self.view_is
    ∙ (sym (ap (λ (fs : List FrameSoFar). kept_frames c.self.inside.under_way fs) (ap (λ q. q.now.items) lines.queue))
    ∙ sym (ap (λ (f : FrameSoFar). kept_frames f before.queue.now.items) (ap (λ f. f.now) lines.under_way))) in
    record {
      books = books_of b.shown (booked_left b.booked) before.book.now after.book.now c.args.book.now _ old new c.args.self.now _ (search rules)
          (search rules) same (search rules) books;
      due = e.due;
      stays = e.stays;
    }
