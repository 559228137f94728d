use Rattle.std.proofs.Common.{◌≡◌, length, rules}
use Rattle.ht_cert.proofs.MarksRead.{marks_added}
use Rattle.ht_cert.proofs.fields.some_marks.Goals as goal

pub returns-clause-read : goal.returns-clause-read
returns-clause-read g c =
    let octets = c.fill_low.new.into in
    let len : length octets ≡ c.args.count = search rules in
    marks_added octets c.args.count c.args.marks.now c.extend_from_slice.new.self c.opened.result
    (g.S.Source.shown c.args.source.now) (g.S.Source.shown c.fill_low.new.source) len c.in-Ok.ensures.low c.opened.ensures.marks
    (search rules) c.in-Ok.ensures.whole
