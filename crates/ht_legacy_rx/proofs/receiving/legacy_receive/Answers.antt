use Rattle.std.proofs.Common.{rules, ap}
use Rattle.ht_receive.specs.Endings.{EndsLines}
use Rattle.ht_legacy_rx.proofs.Telling.{streamed}
use Rattle.ht_legacy_rx.proofs.receiving.legacy_receive.Goals as goal

pub returns : goal.returns
returns g c =
    let e = c.receive-ended in
    let last : EndsLines e.result (g.K.Sink.shown e.new.book.sink.now) (g.K.Sink.shown c.put_end.new.sink) c.put_end.result = search rules in
    streamed e.ensures (ap g.K.Sink.shown c.new-book.ensures.sink) c.in_ok-reader.ensures.means c.in_ok-reader.ensures.at c.new-under_way.ensures last
