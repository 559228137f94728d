use Rattle.std.proofs.Common.{◌∙◌, rules}
use Rattle.ht_io.proofs.Calls.{failed-later, later-later}
use Rattle.ht_fields.proofs.Putting.{on_err, on_err_then, on_ok_then}
use Rattle.ht_capture.proofs.Written.{behind_front, behind_front_all, part_of_front}
use Rattle.ht_capture.proofs.writing.put_frame.Goals as goal

pub returns : goal.returns
returns g c =
    let first = c.in_ok-put.ensures in
    let front = c.as_slice.ensures ∙ c.front.ensures in
    record {
      grown = on_ok_then _ _ _ (behind_front_all _ _ _ _ _ _ _ first.grown front c.as_slice-2.ensures) c.put_samples.ensures.grown;
      steady = search rules;
      part = on_err_then _ _ _ (behind_front _ _ _ _ _ _ _ first.grown front c.as_slice-2.ensures) c.put_samples.ensures.part;
      cause = on_err_then _ _ _ (failed-later (g.K.Sink.shown c.args.sink.now) (g.K.Sink.shown c.put.new.self) (g.K.Sink.shown c.put_samples.new.sink)
          first.later) c.put_samples.ensures.cause;
      later = later-later _ _ _ first.later c.put_samples.ensures.later;
    }

pub returns-in_err-put : goal.returns-in_err-put
returns-in_err-put g c = record {
  grown = search rules;
  steady = search rules;
  part = on_err _ _ (part_of_front _ _ _ _ _ (c.as_slice.ensures ∙ c.front.ensures) c.in_err-put.ensures.part);
  cause = on_err _ _ c.in_err-put.ensures.cause;
  later = c.in_err-put.ensures.later;
}
