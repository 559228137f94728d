use Rattle.std.proofs.Common.{rules}
use Rattle.ht_legacy_files.specs.Formats.{frames}
use Rattle.ht_runs.specs.Filters.{WithinOutput}
use Rattle.ht_runs.proofs.Converting.{not_read}
use Rattle.ht_legacy_sim.specs.Passing.{PassesTo}
use Rattle.ht_legacy_sim.proofs.Converting.{converts, steady_else}
use Rattle.ht_legacy_sim.proofs.passing.legacy_channel.Goals as goal

pub returns-in_err-frames-clause-converts : goal.returns-in_err-frames-clause-converts
returns-in_err-frames-clause-converts g c =
    let fails = not_read frames WithinOutput (PassesTo c.args.seed c.args.noise) (g.S.Source.shown c.args.source.now)
    (g.S.Source.shown c.read_legacy_frames.new.source) (g.K.Sink.shown c.args.sink.now) c.in_err-frames.field-0.0 c.in_err-frames.ensures.refused in
    search rules

pub returns-clause-converts : goal.returns-clause-converts
returns-clause-converts g c =
    converts c.args.seed c.args.noise (g.S.Source.shown c.args.source.now) (g.S.Source.shown c.read_legacy_frames.new.source)
    (g.K.Sink.shown c.args.sink.now) (g.K.Sink.shown c.put_captures.new.sink) c.in_ok-frames.frames.items c.deref.result.now
    c.in_ok-frames.ensures.file c.deref.ensures.value c.put_captures.result c.put_captures.ensures.grown c.put_captures.ensures.part
    c.put_captures.ensures.cause

pub returns-clause-writes : goal.returns-clause-writes
returns-clause-writes g c =
    steady_else c.put_captures.result (g.K.Sink.shown c.args.sink.now) (g.K.Sink.shown c.put_captures.new.sink) c.put_captures.ensures.steady
    c.put_captures.ensures.cause
