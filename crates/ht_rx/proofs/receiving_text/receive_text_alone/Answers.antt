use Rattle.std.proofs.Common.{rules, ap}
use Rattle.ht_receive.specs.Endings.{EndsLines}
use Rattle.ht_rx.proofs.Texts.{received}
use Rattle.ht_rx.proofs.receiving_text.receive_text_alone.Goals as goal

pub returns : goal.returns
returns g c =
    let e = c.receive_alone-ended in
    let last : EndsLines e.result (g.K.Sink.shown e.new.book.sink.now) (g.K.Sink.shown c.put_end.new.sink) c.put_end.result = search rules in
    received e.ensures.receives (ap g.K.Sink.shown c.new-book.ensures.sink) last
