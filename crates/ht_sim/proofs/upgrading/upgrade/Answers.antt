use Rattle.std.proofs.Common.{rules}
use Rattle.ht_io.specs.Devices.{Grows, GrowsByPart}
use Rattle.ht_capture.specs.Fields.{captures}
use Rattle.ht_runs.specs.Filters.{BeforeOutput}
use Rattle.ht_runs.proofs.Converting.{not_read}
use Rattle.ht_sim.specs.Converting.{UpgradesTo}
use Rattle.ht_sim.proofs.Upgrades.{upgrades}
use Rattle.ht_sim.proofs.upgrading.upgrade.Goals as goal

pub returns-in_err-frames-clause-converts : goal.returns-in_err-frames-clause-converts
returns-in_err-frames-clause-converts g c =
    let fails = not_read captures BeforeOutput UpgradesTo (g.S.Source.shown c.args.source.now) (g.S.Source.shown c.read_captures.new.source)
    (g.K.Sink.shown c.args.sink.now) c.in_err-frames.field-0.0 c.in_err-frames.ensures.refused in search rules

pub returns-in_err-write_captures_2-clause-converts : goal.returns-in_err-write_captures_2-clause-converts
returns-in_err-write_captures_2-clause-converts g c =
    let part = upgrades (g.S.Source.shown c.args.source.now) (g.S.Source.shown c.read_captures.new.source) (g.K.Sink.shown c.args.sink.now)
    (g.K.Sink.shown c.write_captures_2.new.sink) c.in_ok-frames.frames.items c.deref.result.now c.in_ok-frames.ensures.file c.deref.ensures.value
    (λ xs. GrowsByPart (g.K.Sink.shown c.args.sink.now) (g.K.Sink.shown c.write_captures_2.new.sink) xs) c.in_err-write_captures_2.ensures.part in
    search rules

pub returns-clause-converts : goal.returns-clause-converts
returns-clause-converts g c = (
  upgrades (g.S.Source.shown c.args.source.now) (g.S.Source.shown c.read_captures.new.source) (g.K.Sink.shown c.args.sink.now)
      (g.K.Sink.shown c.write_captures_2.new.sink) c.in_ok-frames.frames.items c.deref.result.now c.in_ok-frames.ensures.file c.deref.ensures.value
      (λ xs. Grows (g.K.Sink.shown c.args.sink.now) (g.K.Sink.shown c.write_captures_2.new.sink) xs) c.in_ok-write_captures_2.ensures.grown,
  tt,
)
