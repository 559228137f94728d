use Rattle.ht_many.proofs.CaptureEnds.{received, received_part}
use Rattle.ht_many.proofs.alone.AloneReceiver.receive_lanes.Goals as goal

pub returns-in-Ok : goal.returns-in-Ok
returns-in-Ok g c = received g.S.Source.shown g.K.Sink.shown c.requires c.in-Ok.ensures c.end_all.ensures

pub returns-in-Err : goal.returns-in-Err
returns-in-Err g c = received_part g.S.Source.shown g.K.Sink.shown c.requires c.in-Err.ensures
