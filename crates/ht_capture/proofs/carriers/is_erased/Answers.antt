use Rattle.std.proofs.Common.{◌+◌, [], sym, subst}
use Rattle.ht_fields.proofs.Joins.{gives_none}
use Rattle.ht_capture.specs.Fields.{CaptureState, Flag, Triangle, carriers_due}
use Rattle.ht_capture.specs.Reading.{Flagged}
use Rattle.ht_capture.proofs.Gathering.{takes_flag}
use Rattle.ht_capture.proofs.Turns.{flag_is, gives_from, halts_from, triangle_is}
use Rattle.ht_capture.proofs.carriers.is_erased.Goals as goal

pub returns-then-turn-ne2-clause-told : goal.returns-then-turn-ne2-clause-told
returns-then-turn-ne2-clause-told g c = λ present e.
    let turn = c.args.turn.now in
    let head = c.args.head.now in
    gives_from (carriers_due turn head c.args.carrier present) (Triangle turn head c.args.carrier present) _ _ _ []
    (triangle_is turn head c.args.carrier present c.requires.carrier c.if-turn-ne2.true) (gives_none _)

pub returns-in-Ok-clause-told : goal.returns-in-Ok-clause-told
returns-in-Ok-clause-told g c = λ present e.
    let turn = c.args.turn.now in
    let head = c.args.head.now in
    let before = g.S.Source.shown c.args.source.now in
    let after = g.S.Source.shown c.flag.new.source in
    subst (λ (due : CaptureState). Flagged due turn head c.args.carrier present c.args.at.now (c.args.at.now + 1) before after c.in-Ok.erased)
    (sym (flag_is turn head c.args.carrier present c.requires.carrier c.if-turn-ne2.false)) (c.in-Ok.ensures.told turn present e)

pub returns-in-Ok-clause-octets : goal.returns-in-Ok-clause-octets
returns-in-Ok-clause-octets g c =
    takes_flag c.args.turn.now.version c.in-Ok.erased (g.S.Source.shown c.args.source.now) (g.S.Source.shown c.flag.new.source)
    c.if-turn-ne2.false c.in-Ok.ensures.octets

pub returns-in-Err-clause-told : goal.returns-in-Err-clause-told
returns-in-Err-clause-told g c = λ present e.
    let turn = c.args.turn.now in
    let head = c.args.head.now in
    halts_from (carriers_due turn head c.args.carrier present) (Flag turn head c.args.carrier present) _ _ _ _
    (flag_is turn head c.args.carrier present c.requires.carrier c.if-turn-ne2.false) (c.in-Err.ensures.told turn present e)
