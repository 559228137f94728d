use Rattle.std.proofs.Common.{◌≡◌, ◌+◌, ◌*◌, ◌-◌, ◌++◌, length}
use Rattle.ht_cert.specs.Records.{points_at}
use Rattle.ht_cert.proofs.decoding.points.Given as goal

-- this number of points is there, and the others complete them
abbrev pub invariant-loop-stream : goal.invariant-loop-stream
invariant-loop-stream l = record {
  read : l.points ++ points_at (l.streams - l.stream) l.octets (l.at + 2 * l.stream) ≡ points_at l.streams l.octets l.at;
  size : length l.points ≡ l.stream;
}
