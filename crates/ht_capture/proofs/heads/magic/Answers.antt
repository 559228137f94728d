use Rattle.std.proofs.Common.{[], refl, arith}
use Rattle.ht_fields.proofs.Routes.{route_gives}
use Rattle.ht_heads.proofs.Leading.{magic_halts, route_magic}
use Rattle.ht_capture.specs.Fields.{Version, capture_magic, capture_magic_due, captures}
use Rattle.ht_capture.proofs.Fronts.{has_magic}
use Rattle.ht_capture.proofs.heads.magic.Goals as goal

pub returns-in-Ok-clause-told : goal.returns-in-Ok-clause-told
returns-in-Ok-clause-told g c =
    route_gives captures (capture_magic_due capture_magic) Version capture_magic [] 0 4
    (g.S.Source.shown c.args.source.now) (g.S.Source.shown c.magic.new.source)
    (route_magic captures capture_magic_due capture_magic 4 has_magic (omega arith)) refl c.in-Ok.ensures.whole

pub returns-in-Err-clause-told : goal.returns-in-Err-clause-told
returns-in-Err-clause-told g c =
    magic_halts captures capture_magic_due capture_magic 0 (g.S.Source.shown c.args.source.now) (g.S.Source.shown c.magic.new.source)
    c.in-Err.fault has_magic c.in-Err.ensures.failed
