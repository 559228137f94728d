use Rattle.std.proofs.Common.{◌≡◌, ◌≤◌, ◌+◌, ◌*◌, ◌-◌, ◌++◌, length}
use Rattle.ht_rate.specs.Rates.{carriers_of}
use Rattle.ht_capture.specs.Files.{flagged_octets, present_among}
use Rattle.ht_capture.proofs.writing.add_carriers.Given as goal

-- this many subcarriers are there, and the others complete the frame's, with the triangles that are left
abbrev pub invariant-loop-carrier : goal.invariant-loop-carrier
invariant-loop-carrier l = record {
  put : l.chunk ++ flagged_octets (carriers_of l.frame.rate - l.carrier) l.carrier l.frame.erased l.triangles
      ≡ l.fn.chunk ++ flagged_octets (carriers_of l.frame.rate) 0 l.frame.erased l.frame.triangles;
  left : length l.triangles ≡ present_among (carriers_of l.frame.rate - l.carrier) l.carrier l.frame.erased;
  size : length l.chunk ≤ length l.fn.chunk + 33 * l.carrier;
}
