use Rattle.std.proofs.Common.{◌+◌, [], refl}
use Rattle.ht_fields.proofs.Routes.{route_gives}
use Rattle.ht_heads.specs.Heads.{head_octets}
use Rattle.ht_heads.proofs.Leading.{head_halts}
use Rattle.ht_capture.specs.Fields.{Length, Mcs, captures, carriers_due, new_head, turn_due}
use Rattle.ht_capture.proofs.Fronts.{has_head}
use Rattle.ht_capture.proofs.Routes.{route_head}
use Rattle.ht_capture.proofs.heads.head.Goals as goal

pub returns-in-Ok-clause-told : goal.returns-in-Ok-clause-told
returns-in-Ok-clause-told g c =
    let turn = c.args.turn.now in
    let rate = c.in-Ok.rate in
    let len = c.in-Ok.length in
    route_gives captures (turn_due turn) (carriers_due turn (new_head turn rate len) 0 []) (head_octets rate len) [] c.args.at (c.args.at + 4)
    (g.S.Source.shown c.args.source.now) (g.S.Source.shown c.head.new.source)
    (route_head turn rate len c.requires.left c.in-Ok.ensures.some c.in-Ok.ensures.small) refl c.in-Ok.ensures.whole

pub returns-in-Err-clause-told : goal.returns-in-Err-clause-told
returns-in-Err-clause-told g c =
    let turn = c.args.turn.now in
    head_halts captures (turn_due turn) (Mcs turn) (Length turn) c.args.at (g.S.Source.shown c.args.source.now) (g.S.Source.shown c.head.new.source)
    c.in-Err.fault (has_head turn c.requires.left) c.in-Err.ensures.failed
