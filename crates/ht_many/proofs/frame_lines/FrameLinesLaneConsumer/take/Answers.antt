use Rattle.std.proofs.Common.{rules}
use Rattle.ht_many.proofs.Parts.{first_as}
use Rattle.ht_many.proofs.frame_lines.FrameLinesLaneConsumer.take.Goals as goal

pub returns : goal.returns
returns g c =
    first_as g.K.Sink.shown c.new-book.result.sink.now c.take_into.new.book.sink.now c.args.sink.now _ (search rules) (search rules) c.take_into.ensures.books
