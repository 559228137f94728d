use Rattle.std.proofs.Common.{◌-◌, ◌+◌, ◌≤◌}
use Rattle.ht_io.specs.Devices.{IsLater}
use Rattle.ht_heads.specs.Starts.{Body}
use Rattle.ht_cert.specs.Formats.{Marks}
use Rattle.ht_cert.specs.Records.{with_marks}
use Rattle.ht_cert.specs.Readers.{here}
use Rattle.ht_cert.proofs.Reading.{GivesMarks}
use Rattle.ht_cert.proofs.fields.marks.Given as goal

-- this number of marks was read
abbrev pub invariant-loop-read : goal.invariant-loop-read
invariant-loop-read g l = record {
  within : l.read ≤ l.count;
  told : GivesMarks (here (Body (Marks l.turn l.fn.into)) l.at (g.S.Source.shown l.fn.source)) l.turn
      (with_marks l.fn.into l.marks) (l.count - l.read) (l.at + 4 + l.read) (g.S.Source.shown l.source);
  later : IsLater (g.S.Source.shown l.fn.source) (g.S.Source.shown l.source);
}

abbrev pub decreases-loop-read : goal.decreases-loop-read
decreases-loop-read g l = l.count - l.read
