use Rattle.std.proofs.Common.{[]}
use Rattle.ht_io.proofs.Calls.{later-later}
use Rattle.ht_io.specs.Devices.{IsLater}
use Rattle.ht_fields.proofs.Joins.{gives_more}
use Rattle.ht_capture.proofs.Octets.{takes_start}
use Rattle.ht_fields.proofs.Halting.{gives_halts}
use Rattle.ht_capture.proofs.heads.start.Goals as goal

pub returns-in-Err-version-clause-told : goal.returns-in-Err-version-clause-told
returns-in-Err-version-clause-told g c = gives_halts _ _ _ _ c.in-Ok.ensures.told c.in-Ok.ensures.later c.in-Err-version.ensures.told

pub returns-in-Ok-frames-clause-told : goal.returns-in-Ok-frames-clause-told
returns-in-Ok-frames-clause-told g c =
    gives_more _ _ _ [] [] (gives_more _ _ _ [] [] c.in-Ok.ensures.told c.in-Ok-version.ensures.told) c.in-Ok-frames.ensures.told

pub returns-in-Err-frames-clause-told : goal.returns-in-Err-frames-clause-told
returns-in-Err-frames-clause-told g c =
    let later : IsLater (g.S.Source.shown c.args.source.now) (g.S.Source.shown c.version.new.source) =
    later-later _ _ _ c.in-Ok.ensures.later c.in-Ok-version.ensures.later in
    gives_halts _ _ _ _ (gives_more _ _ _ [] [] c.in-Ok.ensures.told c.in-Ok-version.ensures.told) later c.in-Err-frames.ensures.told

pub returns-in-Ok-frames-clause-octets : goal.returns-in-Ok-frames-clause-octets
returns-in-Ok-frames-clause-octets g c =
    takes_start _ c.in-Ok-frames.turn.version c.in-Ok-frames.turn.left _ _ _ _ c.in-Ok.ensures.octets
    c.in-Ok-version.ensures.octets c.in-Ok-frames.ensures.octets c.in-Ok-frames.ensures.version
