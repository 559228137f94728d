use Rattle.std.proofs.Common.{◌≡◌, ap, subst, arith}
use Rattle.ht_io.specs.Devices.{Takes}
use Rattle.ht_heads.specs.declared.starting.Limits.{Limits}
use Rattle.ht_heads.specs.Starts.{StartedFails, started_octets}
use Rattle.ht_counted.specs.Counted.{frame_limits}
use Rattle.ht_legacy_files.specs.CaptureFormats.{captures_magic}
use Rattle.ht_legacy_blocks.proofs.Fronts.{start_gives, start_halts}
use Rattle.ht_legacy_blocks.proofs.fields.start.Goals as goal

pub returns-in-Ok-clause-told : goal.returns-in-Ok-clause-told
returns-in-Ok-clause-told g c =
    let a = g.S.Source.shown c.args.source.now in
    let z = g.S.Source.shown c.start.new.source in
    let count = c.in-Ok.count in
    let same : c.frame_limits.result ≡ frame_limits = c.frame_limits.ensures in
    start_gives count a z (omega (arith, ap (λ (l : Limits). l.most) same, c.in-Ok.ensures.most))
    (subst (λ (l : Limits). Takes a z (started_octets captures_magic l.width count)) same c.in-Ok.ensures.whole)

pub returns-in-Err-clause-told : goal.returns-in-Err-clause-told
returns-in-Err-clause-told g c =
    let a = g.S.Source.shown c.args.source.now in
    let z = g.S.Source.shown c.start.new.source in
    start_halts a z c.in-Err.fault (subst (λ (l : Limits). StartedFails captures_magic l a z c.in-Err.fault) c.frame_limits.ensures c.in-Err.ensures.failed)
