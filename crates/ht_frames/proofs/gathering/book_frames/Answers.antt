use Rattle.std.proofs.Common.{rules, ◌≡◌, ◌∷◌, ◌∙◌, List, length, arith, ap, refl, subst}
use Rattle.ht_io.proofs.Calls.{later-later, later-refl}
use Rattle.ht_frames.specs.Gathering.{BooksFirst}
use Rattle.ht_frames.proofs.Gathered.{books_next, books_next_part, books_none}
use Rattle.ht_frames.proofs.gathering.book_frames.Goals as goal
use Rattle.ht_frames.proofs.gathering.book_frames.Goals.{In-Some}

pub loop-oldest-init : goal.loop-oldest-init
loop-oldest-init g c =
    let a = g.B.Book.shown c.args.book.now in
    record {
      put = books_none g.W.WholeFrame.result_of g.B.Book.booked a c.args.queue.now.items;
      steady = refl;
      later = later-refl a;
      same = refl;
    }

-- the oldest frame left the queue
left : (g : _) (c : In-Some g) → c.loop-oldest.queue.items ≡ c.in-Some.oldest ∷ c.take_oldest.new.queue.items
left g c = search rules

pub loop-oldest-smaller : goal.loop-oldest-smaller
loop-oldest-smaller g c =
    let longer = ap (λ (fs : List _). length fs) (left g (goal.at.loop-oldest-smaller g c).In-Some) in
    omega (arith, longer)

pub loop-oldest-preserved : goal.loop-oldest-preserved
loop-oldest-preserved g c =
    let b = g.B.Book in
    let e = c.in_default-book_one.ensures in
    let l = c.loop-oldest in
    record {
      put = books_next g.W.WholeFrame.result_of b.booked (b.shown c.args.book.now) (b.shown l.book) (b.shown c.book_one.new.book) _ _ _ _ l.invariant.put
          (left g (goal.at.loop-oldest-preserved g c).In-Some) e.put;
      steady = e.faults.steady ∙ l.invariant.steady;
      later = later-later _ _ _ l.invariant.later c.book_one.ensures.faults.later;
      same = c.book_one.ensures.faults.same ∙ l.invariant.same;
    }

pub returns-in-Err-clause-part : goal.returns-in-Err-clause-part
returns-in-Err-clause-part g c =
    let b = g.B.Book in
    books_next_part g.W.WholeFrame.result_of b.booked (b.shown c.args.book.now) (b.shown c.loop-oldest.book) (b.shown c.book_one.new.book) _ _ _ _
    c.loop-oldest.invariant.put
    (left g (goal.at.returns-in-Err-clause-part g c).In-Some) c.in-Err.ensures.part

pub returns-clause-put : goal.returns-clause-put
returns-clause-put g c =
    let b = g.B.Book in
    let is : c.loop-oldest.queue.items ≡ c.take_oldest.new.queue.items = search rules in
    subst (λ (fs : List _). BooksFirst g.W.WholeFrame.result_of b.booked (b.shown c.args.book.now) (b.shown c.loop-oldest.book) c.args.queue.now.items fs)
    is c.loop-oldest.invariant.put
