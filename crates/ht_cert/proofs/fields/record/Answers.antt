use Rattle.std.proofs.Common.{[], ◌∷◌, ◌∙◌}
use Rattle.ht_io.proofs.Calls.{later-later}
use Rattle.ht_fields.proofs.Joins.{gives_more}
use Rattle.ht_heads.specs.Starts.{Body}
use Rattle.ht_cert.specs.Formats.{Marks, next_turn, records_due}
use Rattle.ht_cert.specs.Readers.{here}
use Rattle.ht_cert.proofs.Reading.{claim_failed, claim_none, claim_number, claim_points, claim_read, modulation_failed, streams_failed}
use Rattle.ht_cert.proofs.Routes.{gives_fails}
use Rattle.ht_cert.proofs.fields.record.Goals as goal

pub returns-in-Err-clause-told : goal.returns-in-Err-clause-told
returns-in-Err-clause-told g c =
    modulation_failed c.args.turn.now c.args.at (g.S.Source.shown c.args.source.now) (g.S.Source.shown c.modulation.new.source) c.in-Err.fault
    c.requires.left c.in-Err.ensures.failed

pub returns-in-Err-streams-clause-told : goal.returns-in-Err-streams-clause-told
returns-in-Err-streams-clause-told g c =
    streams_failed c.args.turn.now c.in-Ok.modulation c.args.at (g.S.Source.shown c.args.source.now) (g.S.Source.shown c.modulation.new.source)
    (g.S.Source.shown c.streams.new.source) c.in-Err-streams.fault c.requires.left c.in-Ok.ensures.whole c.in-Ok.ensures.later c.in-Err-streams.ensures.failed

pub returns-in-Err-claim-clause-told : goal.returns-in-Err-claim-clause-told
returns-in-Err-claim-clause-told g c =
    claim_failed c.args.turn.now c.in-Ok.modulation c.in-Ok-streams.streams c.args.at (g.S.Source.shown c.args.source.now)
    (g.S.Source.shown c.modulation.new.source)
    (g.S.Source.shown c.streams.new.source) (g.S.Source.shown c.claim.new.source) c.in-Err-claim.fault c.requires.left
    c.in-Ok-streams.ensures.some c.in-Ok-streams.ensures.few c.in-Ok.ensures.whole c.in-Ok.ensures.later
    c.in-Ok-streams.ensures.whole c.in-Ok-streams.ensures.later c.in-Err-claim.ensures.failed

pub marks-requires-clause-none : goal.marks-requires-clause-none
marks-requires-clause-none g c =
    claim_none c.args.turn.now.number c.in-Ok.modulation c.in-Ok-streams.streams c.claim.new.into (g.S.Source.shown c.streams.new.source)
    (g.S.Source.shown c.claim.new.source)
    c.in-Ok-claim.ensures.whole

pub returns-in-Ok-marks-clause-told : goal.returns-in-Ok-marks-clause-told
returns-in-Ok-marks-clause-told g c =
    let a = g.S.Source.shown c.args.source.now in
    let d = g.S.Source.shown c.claim.new.source in
    let turn = c.args.turn.now in
    let front = claim_read turn c.in-Ok.modulation c.in-Ok-streams.streams c.args.at c.in-Ok-claim.behind c.claim.new.into a
    (g.S.Source.shown c.modulation.new.source)
    (g.S.Source.shown c.streams.new.source) d c.requires.left c.in-Ok-streams.ensures.some c.in-Ok-streams.ensures.few
    c.in-Ok.ensures.whole c.in-Ok-streams.ensures.whole c.in-Ok-claim.ensures.whole c.in-Ok-claim.ensures.place in
    gives_more (here (records_due turn) c.args.at a) (here (Body (Marks turn c.claim.new.into)) c.in-Ok-claim.behind d)
    (here (records_due (next_turn turn)) c.in-Ok-marks.behind (g.S.Source.shown c.marks.new.source)) [] (c.marks.new.into ∷ []) front c.in-Ok-marks.ensures.told

pub returns-in-Ok-marks-clause-number : goal.returns-in-Ok-marks-clause-number
returns-in-Ok-marks-clause-number g c =
    c.in-Ok-marks.ensures.number
    ∙ claim_number c.args.turn.now.number c.in-Ok.modulation c.in-Ok-streams.streams c.claim.new.into (g.S.Source.shown c.streams.new.source)
    (g.S.Source.shown c.claim.new.source) c.in-Ok-claim.ensures.whole

pub returns-in-Ok-marks-clause-points : goal.returns-in-Ok-marks-clause-points
returns-in-Ok-marks-clause-points g c =
    c.in-Ok-marks.ensures.points
    (claim_points c.args.turn.now.number c.in-Ok.modulation c.in-Ok-streams.streams c.claim.new.into (g.S.Source.shown c.streams.new.source)
    (g.S.Source.shown c.claim.new.source) c.in-Ok-claim.ensures.whole)

pub returns-in-Err-marks-clause-told : goal.returns-in-Err-marks-clause-told
returns-in-Err-marks-clause-told g c =
    let a = g.S.Source.shown c.args.source.now in
    let b = g.S.Source.shown c.modulation.new.source in
    let s = g.S.Source.shown c.streams.new.source in
    let d = g.S.Source.shown c.claim.new.source in
    let turn = c.args.turn.now in
    let front = claim_read turn c.in-Ok.modulation c.in-Ok-streams.streams c.args.at c.in-Ok-claim.behind c.claim.new.into a b s d
    c.requires.left c.in-Ok-streams.ensures.some c.in-Ok-streams.ensures.few
    c.in-Ok.ensures.whole c.in-Ok-streams.ensures.whole c.in-Ok-claim.ensures.whole c.in-Ok-claim.ensures.place in
    gives_fails (here (records_due turn) c.args.at a) (here (Body (Marks turn c.claim.new.into)) c.in-Ok-claim.behind d)
    (g.S.Source.shown c.marks.new.source) c.in-Err-marks.fault front
    (later-later a s d (later-later a b s c.in-Ok.ensures.later c.in-Ok-streams.ensures.later) c.in-Ok-claim.ensures.later) c.in-Err-marks.ensures.told
