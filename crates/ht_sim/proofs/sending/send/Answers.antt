use Rattle.std.proofs.Common.{rules}
use Rattle.ht_io.specs.Devices.{Grows, GrowsByPart}
use Rattle.ht_files.specs.Frames.{frames}
use Rattle.ht_runs.specs.Filters.{BeforeOutput}
use Rattle.ht_runs.proofs.Converting.{not_read}
use Rattle.ht_sim.specs.Converting.{SendsTo}
use Rattle.ht_sim.proofs.Transmitting.{few_sent, sends}
use Rattle.ht_sim.proofs.sending.send.Goals as goal

pub returns-in_err-frames-clause-converts : goal.returns-in_err-frames-clause-converts
returns-in_err-frames-clause-converts g c =
    let fails = not_read frames BeforeOutput SendsTo (g.S.Source.shown c.args.source.now) (g.S.Source.shown c.read_frames.new.source)
    (g.K.Sink.shown c.args.sink.now) c.in_err-frames.field-0.0 c.in_err-frames.ensures.refused in search rules

pub write_symbols-requires : goal.write_symbols-requires
write_symbols-requires g c = record {
  few = few_sent (g.S.Source.shown c.args.source.now) (g.S.Source.shown c.read_frames.new.source) (g.K.Sink.shown c.args.sink.now)
      (g.K.Sink.shown c.args.sink.now) c.in_ok-frames.frames.items c.deref.result.now c.in_ok-sent.sent.items c.deref-2.result.now
      c.in_ok-frames.ensures.file c.deref.ensures.value c.in_ok-sent.ensures c.deref-2.ensures.value;
}

pub returns-in_err-write_symbols-clause-converts : goal.returns-in_err-write_symbols-clause-converts
returns-in_err-write_symbols-clause-converts g c =
    let part = sends (g.S.Source.shown c.args.source.now) (g.S.Source.shown c.read_frames.new.source) (g.K.Sink.shown c.args.sink.now)
    (g.K.Sink.shown c.write_symbols.new.sink) c.in_ok-frames.frames.items c.deref.result.now c.in_ok-sent.sent.items c.deref-2.result.now
    c.in_ok-frames.ensures.file c.deref.ensures.value c.in_ok-sent.ensures c.deref-2.ensures.value
    (λ xs. GrowsByPart (g.K.Sink.shown c.args.sink.now) (g.K.Sink.shown c.write_symbols.new.sink) xs) c.in_err-write_symbols.ensures.part in search rules

pub returns-clause-converts : goal.returns-clause-converts
returns-clause-converts g c = (
  sends (g.S.Source.shown c.args.source.now) (g.S.Source.shown c.read_frames.new.source) (g.K.Sink.shown c.args.sink.now)
      (g.K.Sink.shown c.write_symbols.new.sink) c.in_ok-frames.frames.items c.deref.result.now c.in_ok-sent.sent.items c.deref-2.result.now
      c.in_ok-frames.ensures.file c.deref.ensures.value c.in_ok-sent.ensures c.deref-2.ensures.value
      (λ xs. Grows (g.K.Sink.shown c.args.sink.now) (g.K.Sink.shown c.write_symbols.new.sink) xs) c.in_ok-write_symbols.ensures.grown,
  tt,
)
