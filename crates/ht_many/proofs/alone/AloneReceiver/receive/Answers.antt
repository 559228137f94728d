use Rattle.ht_many.proofs.CaptureEnds.{none_received}
use Rattle.ht_many.proofs.alone.AloneReceiver.receive.Goals as goal

pub returns-in-Err : goal.returns-in-Err
returns-in-Err g c = none_received g.S.Source.shown g.K.Sink.shown c.in-Err.lack c.args.sources.now c.args.sinks.now
