use Rattle.std.specs.Prelude.{[]}
use Rattle.ht_frames.specs.Gathering.{behind_one}
use Rattle.ht_frames.proofs.Gathered.{part_first, puts_first, stands_behind}
use Rattle.ht_frames.proofs.receiver_together.DecodersWholeDecodes.finish.Goals as goal

pub returns : goal.returns
returns g c =
    let b = g.B.Book in
    let one = g.U.UnderWay.comes_to c.args.under_way.now in
    let mid = g.U.UnderWay.results c.args.under_way.now in
    let after = g.U.UnderWay.results c.leave-frame.new.self in
    let a = b.shown c.args.book.now in
    let now = b.shown c.book_frames.new.book in
    let queue = c.args.queue.now.items in
    let there = c.decode.new.queue.items in
    let left = c.leave-frame.ensures in
    let goes = stands_behind g.U.Whole.WholeFrame.result_of b.booked queue there c.leave-frame.result one mid after left.value c.in_ok-decode.ensures
    left.kept in
    record {
      put = puts_first g.U.Whole.WholeFrame.result_of b.booked a now queue there
          (behind_one one mid) after [] goes c.book_frames.result c.book_frames.new.queue.items
          c.book_frames.ensures.put;
      part = part_first g.U.Whole.WholeFrame.result_of b.booked a now queue there
          (behind_one one mid) after [] goes c.book_frames.result c.book_frames.ensures.part;
      faults = c.book_frames.ensures.faults;
    }
