use Rattle.std.proofs.Common.{List, [], sym, subst, rules}
use Rattle.ht_capture.specs.declared.frames.CaptureFrame.{CaptureFrame}
use Rattle.ht_capture.specs.Fields.{captures}
use Rattle.ht_capture.specs.Taking.{ReadsCaptures}
use Rattle.ht_runs.specs.Filters.{WithinOutput}
use Rattle.ht_runs.proofs.Converting.{not_read}
use Rattle.ht_certify.specs.Certifying.{CertifiesTo}
use Rattle.ht_certify.specs.Making.{file_of_frames}
use Rattle.ht_certify.proofs.Passing.{writes_later}
use Rattle.ht_certify.proofs.Shown.{converts}
use Rattle.ht_certify.proofs.certifying.certify_capture.Goals as goal

pub returns-in_err-frames-clause-converts : goal.returns-in_err-frames-clause-converts
returns-in_err-frames-clause-converts g c =
    let fails = not_read captures WithinOutput CertifiesTo (g.S.Source.shown c.args.source.now) (g.S.Source.shown c.read_captures.new.source)
    (g.K.Sink.shown c.args.sink.now) c.in_err-frames.field-0.0 c.in_err-frames.ensures.refused in search rules

pub returns-clause-converts : goal.returns-clause-converts
returns-clause-converts g c =
    let a = g.S.Source.shown c.args.source.now in
    let b = g.S.Source.shown c.read_captures.new.source in
    let reads : ReadsCaptures a b c.deref.result.now =
    subst (λ (fs : List CaptureFrame). ReadsCaptures a b fs) (sym c.deref.ensures.value) c.in_ok-frames.ensures.file in
    converts a b (g.K.Sink.shown c.args.sink.now) (g.K.Sink.shown c.put_file.new.sink) c.deref.result.now reads c.put_file.result c.put_file.ensures

pub returns-clause-puts_later : goal.returns-clause-puts_later
returns-clause-puts_later g c =
    writes_later [] (file_of_frames c.deref.result.now) [] (g.K.Sink.shown c.args.sink.now) (g.K.Sink.shown c.put_file.new.sink) c.put_file.result
    c.put_file.ensures
