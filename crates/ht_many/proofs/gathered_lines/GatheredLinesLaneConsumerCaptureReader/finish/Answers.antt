use Rattle.std.proofs.Common.{rules}
use Rattle.ht_many.proofs.Parts.{books_as}
use Rattle.ht_many.proofs.gathered_lines.GatheredLinesLaneConsumerCaptureReader.finish.Goals as goal

pub returns-clause-books : goal.returns-clause-books
returns-clause-books g c =
    books_as g.K.Sink.shown c.new-book.result.sink.now c.finish_into.new.book.sink.now c.args.sink.now _ (search rules) (search rules)
    c.finish_into.ensures.books
