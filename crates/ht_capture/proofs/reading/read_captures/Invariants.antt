use Rattle.std.proofs.Common.{◌≡◌, ◌≤◌, ◌+◌, ◌*◌, length}
use Rattle.ht_io.specs.Devices.{IsLater}
use Rattle.ht_capture.specs.Fields.{captures, turn_due}
use Rattle.ht_capture.specs.Reading.{here}
use Rattle.ht_capture.proofs.Framed.{SoFar}
use Rattle.ht_fields.specs.WholeFiles.{GivesFields}
use Rattle.ht_capture.proofs.reading.read_captures.Given as goal

-- this many frames were read
abbrev pub invariant-loop-index : goal.invariant-loop-index
invariant-loop-index g l = record {
  told : GivesFields (here captures.start 0 (g.S.Source.shown l.fn.source)) (here (turn_due l.turn) l.at (g.S.Source.shown l.source));
  so_far : SoFar l.turn.version l.count l.frames.items (g.S.Source.shown l.fn.source) (g.S.Source.shown l.source);
  size : length l.frames.items ≡ l._index;
  frame : l.turn.frame ≡ l._index;
  left : l.turn.frame + l.turn.left ≡ l.count;
  place : l.at ≤ 7 + 73569334 * l.turn.frame;
  number : l.turn.number ≤ 2298924 * l.turn.frame;
  few : l.count ≤ 65535;
  later : IsLater (g.S.Source.shown l.fn.source) (g.S.Source.shown l.source);
}
