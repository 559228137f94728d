use Rattle.std.proofs.Common.{◌∙◌, length, rules}
use Rattle.ht_fields.proofs.Putting.{on_err, part_at}
use Rattle.ht_io.proofs.Calls.{failed-later, later-later}
use Rattle.ht_capture.specs.Files.{capture_file_of, capture_frame_octets, capture_start}
use Rattle.ht_capture.proofs.Written.{frames_next}
use Rattle.ht_capture.proofs.writing.put_file.Goals as goal

pub returns-in_err-put_frame : goal.returns-in_err-put_frame
unfolding capture_file_of
returns-in_err-put_frame g c = record {
  grown = search rules;
  steady = search rules;
  part = on_err _ _ (part_at (capture_frame_octets c.args.version) c.args.frames.now c.loop-frame.frame-index c.frame-item.result
      _ _ _ _ c.loop-frame-test.true c.frame-item.is c.loop-frame.invariant.put c.in_err-put_frame.ensures.part);
  cause = on_err _ _ (failed-later (g.K.Sink.shown c.args.sink.now) (g.K.Sink.shown c.loop-frame.sink) (g.K.Sink.shown c.put_frame.new.sink)
      c.loop-frame.invariant.later c.in_err-put_frame.ensures.cause);
  later = later-later _ _ _ c.loop-frame.invariant.later c.in_err-put_frame.ensures.later;
}

pub loop-frame-preserved : goal.loop-frame-preserved
loop-frame-preserved g c =
    record {
      put = frames_next (capture_frame_octets c.args.version) c.args.frames.now c.loop-frame.frame-index c.frame-item.result
          (capture_start c.args.version (length c.args.frames.now)) _ _ _ c.loop-frame-test.true c.frame-item.is
          c.loop-frame.invariant.put c.in_ok-put_frame.ensures.grown;
      later = later-later _ _ _ c.loop-frame.invariant.later c.put_frame.ensures.later;
      steady = c.in_ok-put_frame.ensures.steady ∙ c.loop-frame.invariant.steady;
    }
