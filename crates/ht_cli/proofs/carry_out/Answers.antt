use Rattle.std.specs.Prelude.{ℕ, Vec}
use Rattle.std.specs.Global.{Global}
use Rattle.std.proofs.Common.{ap, refl, rules}
use Rattle.ht_results.specs.JobTexts.{detect_text, lines_of}
use Rattle.ht_results.specs.Texts.{HasFrames, frame_lines_of, rx_text}
use Rattle.ht_runs.specs.Filters.{SaysNothing}
use Rattle.ht_sim.specs.Passing.{passing}
use Rattle.ht_certify.specs.Certifying.{certifying}
use Rattle.ht_certify.specs.Checks.{checking}
use Rattle.ht_certify.proofs.Ending.{checking_ends}
use Rattle.ht_legacy_sim.specs.Passing.{passing as legacy_passing}
use Rattle.ht_sim.specs.Converting.{sending, upgrading}
use Rattle.ht_demo.specs.Demos.{Demonstrates}
use Rattle.ht_cli.specs.Tasks.{plan_of}
use Rattle.ht_cli.proofs.Answering.{converts, streams}
use Rattle.ht_capture.specs.Fields.{captures}
use Rattle.ht_runs.specs.Formats.{filter}
use Rattle.ht_receive.specs.Endings.{MeansFrames}
use Rattle.ht_legacy_files.specs.CaptureFormats.{captures as legacy_captures}
use Rattle.ht_legacy_rx.specs.Texts.{legacy_items, legacy_lines_of, legacy_text}
use Rattle.ht_soft_rx.specs.Texts.{soft_lines_of, soft_rx_text}
use Rattle.ht_many.specs.Bundles.{receiving}
use Rattle.ht_cli.proofs.Making.{done_is_not, makes}
use Rattle.ht_cli.proofs.Texts.{detect_ends, legacy_ends, rx_ends, soft_ends}
use Rattle.ht_cli.proofs.carry_out.Goals as goal

pub returns-in-Some-Detect : goal.returns-in-Some-Detect
returns-in-Some-Detect g c =
    let asked = c.in-Some-Detect.field-0-is in
    let run = streams (filter captures detect_text lines_of) detect_ends _ _ _ HasFrames c.list_text_alone-listed.result _ _ c.settle.result
    c.list_text_alone-listed.ensures.streams c.list_text_alone-listed.ensures.puts_later c.settle.ensures.settles in
    search rules

pub returns-in-Some-Rx : goal.returns-in-Some-Rx
returns-in-Some-Rx g c =
    let asked = c.in-Some-Rx.field-0-is in
    let run = streams (filter captures rx_text frame_lines_of) rx_ends _ _ _ HasFrames c.receive_text_alone-received.result _ _ c.settle-in-Some-Rx.result
    c.receive_text_alone-received.ensures.streams c.receive_text_alone-received.ensures.puts_later c.settle-in-Some-Rx.ensures.settles in
    search rules

pub returns-in-Some-Soft : goal.returns-in-Some-Soft
returns-in-Some-Soft g c =
    let asked = c.in-Some-Soft.field-0-is in
    let run = streams (filter captures soft_rx_text soft_lines_of) soft_ends _ _ _ HasFrames c.receive_soft_alone-received.result _ _
    c.settle-in-Some-Soft.result
    c.receive_soft_alone-received.ensures.streams c.receive_soft_alone-received.ensures.puts_later c.settle-in-Some-Soft.ensures.settles
    in search rules

pub returns-in-Some-LegacyRx : goal.returns-in-Some-LegacyRx
returns-in-Some-LegacyRx g c =
    let asked = c.in-Some-LegacyRx.field-0-is in
    let run = streams (filter legacy_captures legacy_text legacy_lines_of) legacy_ends _ _ _
    (MeansFrames legacy_captures legacy_items) c.legacy_receive_alone-received.result _ _ c.settle-in-Some-LegacyRx.result
    c.legacy_receive_alone-received.ensures.streams c.legacy_receive_alone-received.ensures.puts_later
    c.settle-in-Some-LegacyRx.ensures.settles in search rules

pub returns-in-Some-Many : goal.returns-in-Some-Many
returns-in-Some-Many g c =
    let asked = c.in-Some-Many.field-0-is in
    let run = converts receiving (λ fault. refl) _ _ _ SaysNothing c.many_bundle_alone-received.result _ _ c.settle-in-Some-Many.result
    c.many_bundle_alone-received.ensures.converts c.settle-in-Some-Many.ensures.settles in search rules

pub returns-in-Some-Tx : goal.returns-in-Some-Tx
returns-in-Some-Tx g c =
    let asked = c.in-Some-Tx.field-0-is in
    let run = converts sending (λ fault. refl) _ _ _ SaysNothing c.send-sent.result _ _ c.settle-in-Some-Tx.result c.send-sent.ensures.converts
    c.settle-in-Some-Tx.ensures.settles in search rules

pub returns-in-Some-Channel : goal.returns-in-Some-Channel
returns-in-Some-Channel g c =
    let asked = c.in-Some-Channel.field-0-is in
    let run = converts (passing c.in-Some-Channel.seed c.in-Some-Channel.noise) (λ fault. refl) _ _ _ SaysNothing c.channel-passed.result _ _
    c.settle-in-Some-Channel.result c.channel-passed.ensures.converts c.settle-in-Some-Channel.ensures.settles in search rules

pub returns-in-Some-Upgrade : goal.returns-in-Some-Upgrade
returns-in-Some-Upgrade g c =
    let asked = c.in-Some-Upgrade.field-0-is in
    let run = converts upgrading (λ fault. refl) _ _ _ SaysNothing c.upgrade-upgraded.result _ _ c.settle-in-Some-Upgrade.result
    c.upgrade-upgraded.ensures.converts c.settle-in-Some-Upgrade.ensures.settles in search rules

pub returns-in-Some-Certify : goal.returns-in-Some-Certify
returns-in-Some-Certify g c =
    let asked = c.in-Some-Certify.field-0-is in
    let run = converts certifying (λ fault. refl) _ _ _ SaysNothing c.certify_capture-certified.result _ _ c.settle-in-Some-Certify.result
    c.certify_capture-certified.ensures.converts c.settle-in-Some-Certify.ensures.settles in search rules

pub returns-in-Some-Check : goal.returns-in-Some-Check
returns-in-Some-Check g c =
    let asked = c.in-Some-Check.field-0-is in
    let run = streams checking checking_ends _ _ _ SaysNothing c.check_file-checked.result _ _ c.settle-in-Some-Check.result
    c.check_file-checked.ensures.checks c.check_file-checked.ensures.puts_later c.settle-in-Some-Check.ensures.settles in search rules

pub returns-in-Some-LegacyChannel : goal.returns-in-Some-LegacyChannel
returns-in-Some-LegacyChannel g c =
    let asked = c.in-Some-LegacyChannel.field-0-is in
    let run = converts (legacy_passing c.in-Some-LegacyChannel.seed c.in-Some-LegacyChannel.noise) (λ fault. refl) _ _ _ SaysNothing
    c.legacy_channel-passed.result _ _ c.settle-in-Some-LegacyChannel.result c.legacy_channel-passed.ensures.converts
    c.settle-in-Some-LegacyChannel.ensures.settles in search rules

pub returns-in-Some-Demo : goal.returns-in-Some-Demo
returns-in-Some-Demo g c =
    let plan = plan_of c.in-Some-Demo.seed c.in-Some-Demo.noise c.in-Some-Demo.frames c.in-Some-Demo.rate c.in-Some-Demo.length in
    let made = c.demo_alone-line.ensures in
    let run = makes (Demonstrates plan) (g.S.Source.shown c.args.source.now) (g.S.Source.shown c.args.source.now)
    (g.K.Sink.shown c.args.sink.now) (g.K.Sink.shown c.put_line.new.sink) (λ (line : Vec ℕ Global). line.items) c.demo_alone-line.result
    c.put_line.result (rw c.planned-plan.ensures at made) c.put_line.ensures.puts c.put_line.ensures.lacks
    (λ lack. ap g.K.Sink.shown (c.put_line.ensures.nothing done_is_not lack)) in search rules
