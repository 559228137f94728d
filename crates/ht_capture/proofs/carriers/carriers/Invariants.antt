use Rattle.std.proofs.Common.{◌≡◌, ◌<◌, ◌≤◌, ◌+◌, ◌*◌, [], length, take}
use Rattle.ht_io.specs.Devices.{IsLater}
use Rattle.ht_fields.specs.Readers.{Gives}
use Rattle.ht_rate.specs.Rates.{carriers_of}
use Rattle.ht_capture.specs.Fields.{carriers_due, head_given}
use Rattle.ht_capture.specs.Taking.{AreRead, triangles_of}
use Rattle.ht_capture.specs.Reading.{AreSeen, SameFrame, here}
use Rattle.ht_capture.proofs.carriers.carriers.Given as goal

-- this many subcarriers were read
abbrev pub invariant-loop-index : goal.invariant-loop-index
invariant-loop-index g l = record {
  told : Gives (here (carriers_due l.turn l.fn.head 0 []) l.at (g.S.Source.shown l.fn.source))
      (here (carriers_due l.turn l.head l.index (take l.gathered.count l.present)) l.gathered.at (g.S.Source.shown l.source)) (head_given l.head l.index);
  same : SameFrame l.head l.fn.head;
  count : l.gathered.count ≤ l.index;
  some : l.index ≡ carriers_of l.fn.head.rate → 0 < l.gathered.count;
  place : l.gathered.at ≤ l.at + 33 * l.index;
  seen : AreSeen l.fn.head.rate l.gathered.count l.present;
  size : length l.present ≡ 114;
  read : AreRead l.turn.version l.index l.head.rate l.head.erased
      (triangles_of (take l.gathered.count l.present)) (g.S.Source.shown l.fn.source) (g.S.Source.shown l.source);
  later : IsLater (g.S.Source.shown l.fn.source) (g.S.Source.shown l.source);
}
