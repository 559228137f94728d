use Rattle.std.proofs.Common.{rules, ◌≡◌, [], ap}
use Rattle.ht_receive.specs.Receiving.{books}
use Rattle.ht_receive.proofs.Booked.{gathered}
use Rattle.ht_receive.proofs.receiving.receive.Goals as goal

pub returns : goal.returns
returns g c =
    let b = g.B.Book in
    let results = g.U.UnderWay.results in
    let before = c.new-receiver_together.result in
    let frame = c.args.under_way in
    let none : before.queue.now.items ≡ [] = search rules in
    let told = gathered g.R.BlockReader.means g.R.BlockReader.at c.args.reader c.args.head (g.S.Source.shown c.args.source.now)
    (g.S.Source.shown c.tell.new.source) b.booked results g.U.Whole.WholeFrame.result_of before.queue.now.items (b.shown before.book.now)
    (b.shown c.args.book.now) before.under_way.now frame (books b.booked (results frame) (b.shown c.tell.new.consumer.book.now)) c.tell.result none
    (ap b.shown c.new-receiver_together.ensures.book) c.new-receiver_together.ensures.under_way c.tell.ensures.tells in
    record {
      tells = search rules;
      writes = search rules;
      reads_later = search rules;
      puts_later = search rules;
      same = search rules;
    }
