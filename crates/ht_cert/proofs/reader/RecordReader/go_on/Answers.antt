use Rattle.std.proofs.Common.{subst, sym}
use Rattle.ht_io.specs.declared.faults.InFault.{InFault}
use Rattle.ht_cert.specs.Formats.{records_due}
use Rattle.ht_cert.specs.Readers.{Fails, here}
use Rattle.ht_cert.proofs.Reading.{file_ends, file_goes_on}
use Rattle.ht_cert.proofs.reader.RecordReader.go_on.Goals as goal

pub returns-in-Ok-clause-told : goal.returns-in-Ok-clause-told
returns-in-Ok-clause-told g c =
    rw (← c.self.view_is) (file_ends c.args.turn c.self.inside.at (g.S.Source.shown c.args.source.now) (g.S.Source.shown c.end.new.source)
    c.if-turn-eq0.true c.in-Ok.ensures.ended)

pub returns-in-Err-clause-told : goal.returns-in-Err-clause-told
returns-in-Err-clause-told g c =
    rw (← c.self.view_is)
    (subst (λ (f : InFault). Fails (here (records_due c.args.turn) c.self.inside.at (g.S.Source.shown c.args.source.now)) (g.S.Source.shown c.end.new.source) f)
    (sym c.stop.ensures.same)
    (file_goes_on c.args.turn c.self.inside.at (g.S.Source.shown c.args.source.now) (g.S.Source.shown c.end.new.source) c.in-Err.fault
    c.if-turn-eq0.true c.in-Err.ensures.further))
