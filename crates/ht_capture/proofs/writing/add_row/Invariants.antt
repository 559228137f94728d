use Rattle.std.proofs.Common.{◌≡◌, ◌+◌, ◌*◌, ◌-◌, ◌++◌, length, drop, slice_index_or}
use Rattle.ht_metric.specs.Rows.{no_leg}
use Rattle.ht_capture.specs.Files.{leg_octets, taps_octets}
use Rattle.ht_capture.proofs.writing.add_row.Given as goal

-- this many entries are there, and the others complete the row
abbrev pub invariant-loop-entry : goal.invariant-loop-entry
invariant-loop-entry l = record {
  put : l.chunk ++ taps_octets (l.below - l.entry) (drop l.entry (slice_index_or l.triangle l.row no_leg).right)
      ≡ l.fn.chunk ++ leg_octets l.below (slice_index_or l.triangle l.row no_leg);
  size : length l.chunk ≡ length l.fn.chunk + 2 + 4 * l.entry;
}
