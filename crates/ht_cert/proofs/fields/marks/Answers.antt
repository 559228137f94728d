use Rattle.std.proofs.Common.{◌≡◌, ◌+◌, ◌≤◌, List, Bool, refl, subst, arith, rules}
use Rattle.byteorder.specs.Endian.{big_bytes}
use Rattle.ht_io.specs.Devices.{Takes}
use Rattle.ht_io.proofs.Calls.{later-later}
use Rattle.ht_fields.specs.Lacking.{FailsField}
use Rattle.ht_heads.specs.declared.starting.Limits.{Limits}
use Rattle.ht_heads.specs.Starts.{Body, is_outside}
use Rattle.ht_cert.specs.Formats.{Marks}
use Rattle.ht_cert.specs.Records.{with_marks}
use Rattle.ht_cert.specs.Readers.{here}
use Rattle.ht_cert.proofs.MarksRead.{marks_failed, marks_read}
use Rattle.ht_cert.proofs.Reading.{marks_begun, marks_whole_as}
use Rattle.ht_cert.proofs.Routes.{halts_fails, marks_halts}
use Rattle.ht_cert.proofs.fields.marks.Goals as goal

pub returns-in-Err-clause-told : goal.returns-in-Err-clause-told
returns-in-Err-clause-told g c =
    let a = g.S.Source.shown c.args.source.now in
    let b = g.S.Source.shown c.count.new.source in
    halts_fails (here (Body (Marks c.args.turn.now c.args.into.now)) c.args.at a) b c.in-Err.fault
    (marks_halts c.args.turn.now c.args.into.now c.args.at a b c.in-Err.fault
    (subst (λ (l : Limits). FailsField l.width l.kind (is_outside l) c.args.at a b c.in-Err.fault) c.mark_limits.ensures c.in-Err.ensures.failed))

pub loop-read-init : goal.loop-read-init
loop-read-init g c =
    let a = g.S.Source.shown c.args.source.now in
    let b = g.S.Source.shown c.count.new.source in
    let count = c.in-Ok.count in
    let few : count ≤ 33554432 = subst (λ (l : Limits). count ≤ l.most) c.mark_limits.ensures c.in-Ok.ensures.most in
    record {
      within = omega arith;
      told = marks_begun c.args.turn.now c.args.into.now count c.args.at c.args.into.now.certificate.marks a b few c.requires.none
          (subst (λ (l : Limits). Takes a b (big_bytes l.width count)) c.mark_limits.ensures c.in-Ok.ensures.whole);
      later = c.in-Ok.ensures.later;
    }

pub returns-in-Err-some_marks-clause-told : goal.returns-in-Err-some_marks-clause-told
returns-in-Err-some_marks-clause-told g c =
    let a = g.S.Source.shown c.args.source.now in
    let was = c.loop-read.invariant in
    marks_failed (here (Body (Marks c.args.turn.now c.args.into.now)) c.args.at a) c.args.turn.now
    (with_marks c.args.into.now c.loop-read.marks) c.in-Ok.count c.loop-read.read c.min-more.result (c.args.at + 4 + c.loop-read.read)
    (g.S.Source.shown c.loop-read.source) (g.S.Source.shown c.some_marks.new.source) c.in-Err-some_marks.fault
    c.loop-read-test.true (search rules) was.told was.later c.in-Err-some_marks.ensures.failed

pub loop-read-preserved : goal.loop-read-preserved
loop-read-preserved g c =
    let a = g.S.Source.shown c.args.source.now in
    let was = c.loop-read.invariant in
    record {
      within = search rules;
      told = marks_read (here (Body (Marks c.args.turn.now c.args.into.now)) c.args.at a) c.args.turn.now c.args.into.now c.in-Ok.count c.loop-read.read
          c.min-more.result (c.args.at + 4) c.loop-read.marks c.some_marks.new.marks (g.S.Source.shown c.loop-read.source)
          (g.S.Source.shown c.some_marks.new.source) c.loop-read-test.true (search rules) was.told c.in-Ok-some_marks.ensures.read;
      later = later-later a (g.S.Source.shown c.loop-read.source) (g.S.Source.shown c.some_marks.new.source) was.later c.in-Ok-some_marks.ensures.later;
    }

pub returns-clause-told : goal.returns-clause-told
returns-clause-told g c =
    let a = g.S.Source.shown c.args.source.now in
    let r = c.args.into.now in
    let marks : List Bool = c.loop-read.marks in
    let end : c.loop-read.read ≡ c.in-Ok.count = omega (arith, c.loop-read-test.false, c.loop-read.invariant.within) in
    let old = here (Body (Marks c.args.turn.now r)) c.args.at a in
    marks_whole_as old c.args.turn.now r _ marks c.in-Ok.count c.loop-read.read (c.args.at + 4) (g.S.Source.shown c.loop-read.source)
    end c.requires.none refl c.loop-read.invariant.told
