use Rattle.std.proofs.Common.{◌≡◌, ◌+◌, ◌∙◌, List, length, ap, arith}
use Rattle.ht_io.proofs.Calls.{later-later}
use Rattle.std.proofs.lemmas.List.{length_push}
use Rattle.ht_capture.specs.declared.frames.CaptureFrame.{CaptureFrame}
use Rattle.ht_capture.proofs.Turns.{over_is}
use Rattle.ht_capture.proofs.Endings.{given_to}
use Rattle.ht_capture.proofs.Framed.{so_far_file, so_far_more, so_far_none}
use Rattle.ht_fields.proofs.Endings.{given_ends, given_more, halts_ends}
use Rattle.ht_capture.proofs.reading.read_captures.Goals as goal

pub loop-index-init : goal.loop-index-init
loop-index-init g c =
    let items = c.new-frames.ensures.items in
    let first = c.in-Ok.ensures.first in
    record {
      told = (_, c.in-Ok.ensures.told);
      so_far = so_far_none c.in-Ok.turn.version c.in-Ok.turn.left _ _ _ items c.in-Ok.ensures.known c.in-Ok.ensures.octets;
      size = ap (λ (f : List CaptureFrame). length f) items;
      frame = first.0;
      left = omega (arith, first.0);
      place = omega arith;
      number = omega (arith, first.1);
      few = omega arith;
      later = c.in-Ok.ensures.later;
    }

pub frame-requires-clause-offset : goal.frame-requires-clause-offset
frame-requires-clause-offset g c = let was = c.loop-index.invariant in omega (arith, was.place, was.frame, was.few, c.loop-index-test.true)

pub frame-requires-clause-number : goal.frame-requires-clause-number
frame-requires-clause-number g c = let was = c.loop-index.invariant in omega (arith, was.number, was.frame, was.few, c.loop-index-test.true)

pub frame-requires-clause-left : goal.frame-requires-clause-left
frame-requires-clause-left g c = let was = c.loop-index.invariant in omega (arith, was.left, was.frame, c.loop-index-test.true)

pub frame-requires-clause-frames : goal.frame-requires-clause-frames
frame-requires-clause-frames g c = let was = c.loop-index.invariant in omega (arith, was.left, was.few)

pub returns-in-Err-frame-clause-refused : goal.returns-in-Err-frame-clause-refused
returns-in-Err-frame-clause-refused g c =
    given_ends _ _ (g.S.Source.shown c.frame.new.source) _ c.loop-index.invariant.told c.loop-index.invariant.later c.in-Err-frame.ensures.told

pub loop-index-preserved : goal.loop-index-preserved
loop-index-preserved g c =
    let was = c.loop-index.invariant in
    let behind = c.in-Ok-frame.ensures.turn in
    let items = c.in-Ok-push.ensures.items in
    record {
      told = given_more _ _ _ was.told c.in-Ok-frame.ensures.told;
      so_far = so_far_more c.loop-index.turn.version _ _ c.loop-index.frames.items c.push.new.self.items
          c.in-Ok-frame.frame _ _ _ was.so_far behind.version items c.in-Ok-frame.ensures.octets
          c.in-Ok-frame.ensures.fits c.in-Ok-frame.ensures.typed c.in-Ok-frame.ensures.whole;
      size = ap (λ (f : List CaptureFrame). length f) items ∙ (length_push c.loop-index.frames.items c.in-Ok-frame.frame ∙ ap (λ n. n + 1) was.size);
      frame = behind.frame ∙ ap (λ n. n + 1) was.frame;
      left = omega (arith, was.left, behind.frame, behind.left, was.frame, c.loop-index-test.true);
      place = omega (arith, was.place, behind.frame, c.in-Ok-frame.ensures.place);
      number = omega (arith, was.number, behind.frame, behind.number);
      few = was.few;
      later = later-later _ _ _ was.later c.in-Ok-frame.ensures.later;
    }

pub returns-in-Ok-finish-clause-file : goal.returns-in-Ok-finish-clause-file
returns-in-Ok-finish-clause-file g c =
    let was = c.loop-index.invariant in
    let size : length c.loop-index.frames.items ≡ c.in-Ok.turn.left =
    omega (arith, was.size, was.left, was.frame, c.loop-index-test.false, c.loop-index.auto._index-end) in
    so_far_file c.loop-index.turn.version c.in-Ok.turn.left c.loop-index.frames.items (g.S.Source.shown c.args.source.now)
    (g.S.Source.shown c.loop-index.source) (g.S.Source.shown c.finish.new.source) was.so_far size was.few c.in-Ok-finish.ensures.told.octets

pub returns-in-Err-finish-clause-refused : goal.returns-in-Err-finish-clause-refused
returns-in-Err-finish-clause-refused g c =
    let was = c.loop-index.invariant in
    let none : c.loop-index.turn.left ≡ 0 = omega (arith, was.left, was.frame, c.loop-index-test.false) in
    given_ends _ _ (g.S.Source.shown c.finish.new.source) _
    (given_to _ _ _ _ _ (over_is c.loop-index.turn none) was.told) was.later (halts_ends _ _ _ c.in-Err-finish.ensures.told)
