use Rattle.std.specs.Prelude.{ℕ, Vec}
use Rattle.std.specs.Global.{Global}
use Rattle.std.proofs.Common.{ap, refl, rules}
use Rattle.ht_results.specs.JobTexts.{detect_text, lines_of}
use Rattle.ht_results.specs.Texts.{HasFrames, frame_lines_of, rx_text}
use Rattle.ht_words.specs.Words.{asked}
use Rattle.ht_demo.specs.Demos.{Demonstrates}
use Rattle.ht_cli.specs.Tasks.{plan_of}
use Rattle.ht_cli.proofs.Answering.{converts, streams}
use Rattle.ht_capture.specs.Fields.{captures}
use Rattle.ht_runs.specs.Formats.{filter}
use Rattle.ht_receive.specs.Endings.{MeansFrames}
use Rattle.ht_legacy_files.specs.CaptureFormats.{captures as legacy_captures}
use Rattle.ht_legacy_rx.specs.Texts.{legacy_items, legacy_lines_of, legacy_text}
use Rattle.ht_soft_rx.specs.Texts.{soft_lines_of, soft_rx_text}
use Rattle.ht_many.specs.Bundles.{receiving}
use Rattle.ht_runs.specs.Filters.{SaysNothing}
use Rattle.ht_cli.proofs.Making.{done_is_not, makes}
use Rattle.ht_cli.proofs.Nothing.{nothing_carried}
use Rattle.ht_cli.proofs.Texts.{detect_ends, legacy_ends, rx_ends, soft_ends}
use Rattle.ht_cli.proofs.run.Goals as goal

pub returns-in-Err : goal.returns-in-Err
returns-in-Err g c =
    nothing_carried g.S.Source.shown g.K.Sink.shown (asked c.args.words.now) c.args.source.now c.args.sink.now

pub returns-in-Some-Detect : goal.returns-in-Some-Detect
returns-in-Some-Detect g c =
    let run = streams (filter captures detect_text lines_of) detect_ends _ _ _ HasFrames c.list_text-listed.result _ _ c.settle.result
    c.list_text-listed.ensures.streams c.list_text-listed.ensures.puts_later c.settle.ensures.settles in
    let words = c.in-Ok.ensures.value in search rules

pub returns-in-Some-Rx : goal.returns-in-Some-Rx
returns-in-Some-Rx g c =
    let run = streams (filter captures rx_text frame_lines_of) rx_ends _ _ _ HasFrames c.receive_text-received.result _ _ c.settle-in-Some-Rx.result
    c.receive_text-received.ensures.streams c.receive_text-received.ensures.puts_later c.settle-in-Some-Rx.ensures.settles in
    let words = c.in-Ok.ensures.value in search rules

pub returns-in-Some-Soft : goal.returns-in-Some-Soft
returns-in-Some-Soft g c =
    let run = streams (filter captures soft_rx_text soft_lines_of) soft_ends _ _ _ HasFrames c.receive_soft-received.result _ _ c.settle-in-Some-Soft.result
    c.receive_soft-received.ensures.streams c.receive_soft-received.ensures.puts_later c.settle-in-Some-Soft.ensures.settles in
    let words = c.in-Ok.ensures.value in search rules

pub returns-in-Some-LegacyRx : goal.returns-in-Some-LegacyRx
returns-in-Some-LegacyRx g c =
    let run = streams (filter legacy_captures legacy_text legacy_lines_of) legacy_ends _ _ _ (MeansFrames legacy_captures legacy_items)
    c.legacy_receive-received.result _ _ c.settle-in-Some-LegacyRx.result c.legacy_receive-received.ensures.streams
    c.legacy_receive-received.ensures.puts_later c.settle-in-Some-LegacyRx.ensures.settles in
    let words = c.in-Ok.ensures.value in search rules

pub returns-in-Some-Many : goal.returns-in-Some-Many
returns-in-Some-Many g c =
    let run = converts receiving (λ fault. refl) _ _ _ SaysNothing c.many_bundle-received.result _ _ c.settle-in-Some-Many.result
    c.many_bundle-received.ensures.converts c.settle-in-Some-Many.ensures.settles in
    let words = c.in-Ok.ensures.value in search rules

pub returns-in-Some-Demo : goal.returns-in-Some-Demo
returns-in-Some-Demo g c =
    let plan = plan_of c.in-Some-Demo.seed c.in-Some-Demo.noise c.in-Some-Demo.frames c.in-Some-Demo.rate c.in-Some-Demo.length in
    let made = c.demo-line.ensures in
    let run = makes (Demonstrates plan) (g.S.Source.shown c.args.source.now) (g.S.Source.shown c.args.source.now)
    (g.K.Sink.shown c.args.sink.now) (g.K.Sink.shown c.put_line.new.sink) (λ (line : Vec ℕ Global). line.items) c.demo-line.result
    c.put_line.result (rw c.planned-plan.ensures at made) c.put_line.ensures.puts c.put_line.ensures.lacks
    (λ lack. ap g.K.Sink.shown (c.put_line.ensures.nothing done_is_not lack)) in
    let words = c.in-Ok.ensures.value in search rules
