use Rattle.std.proofs.Common.{rules}
use Rattle.ht_io.specs.Devices.{Grows, GrowsByPart}
use Rattle.ht_files.specs.Points.{symbols}
use Rattle.ht_runs.specs.Filters.{BeforeOutput}
use Rattle.ht_runs.proofs.Converting.{not_read}
use Rattle.ht_sim.specs.Passing.{PassesTo}
use Rattle.ht_sim.proofs.Converting.{passes}
use Rattle.ht_sim.proofs.passing.channel.Goals as goal

pub returns-in_err-frames-clause-converts : goal.returns-in_err-frames-clause-converts
returns-in_err-frames-clause-converts g c =
    let fails = not_read symbols BeforeOutput (PassesTo c.args.seed c.args.noise) (g.S.Source.shown c.args.source.now)
    (g.S.Source.shown c.read_symbols.new.source) (g.K.Sink.shown c.args.sink.now) c.in_err-frames.field-0.0 c.in_err-frames.ensures.refused in
    search rules

pub returns-in_err-write_captures-clause-converts : goal.returns-in_err-write_captures-clause-converts
returns-in_err-write_captures-clause-converts g c =
    let part = passes c.args.seed c.args.noise (g.S.Source.shown c.args.source.now) (g.S.Source.shown c.read_symbols.new.source)
    (g.K.Sink.shown c.args.sink.now) (g.K.Sink.shown c.write_captures.new.sink) c.in_ok-frames.frames.items c.deref.result.now
    c.in_ok-captured.captured.items c.deref-2.result.now c.in_ok-frames.ensures.file c.deref.ensures.value c.in_ok-captured.ensures.drawn
    c.deref-2.ensures.value (λ xs. GrowsByPart (g.K.Sink.shown c.args.sink.now) (g.K.Sink.shown c.write_captures.new.sink) xs)
    c.in_err-write_captures.ensures.part in search rules

pub returns-clause-converts : goal.returns-clause-converts
returns-clause-converts g c = (
  passes c.args.seed c.args.noise (g.S.Source.shown c.args.source.now) (g.S.Source.shown c.read_symbols.new.source)
      (g.K.Sink.shown c.args.sink.now) (g.K.Sink.shown c.write_captures.new.sink) c.in_ok-frames.frames.items c.deref.result.now
      c.in_ok-captured.captured.items c.deref-2.result.now c.in_ok-frames.ensures.file c.deref.ensures.value c.in_ok-captured.ensures.drawn
      c.deref-2.ensures.value (λ xs. Grows (g.K.Sink.shown c.args.sink.now) (g.K.Sink.shown c.write_captures.new.sink) xs)
      c.in_ok-write_captures.ensures.grown,
  tt,
)
