-- The first octets were read.
use Rattle.std.proofs.Common.{◌≡◌, ◌≤◌, ◌-◌, length}
use Rattle.ht_io.specs.Devices.{Takes, IsLater}
use Rattle.ht_bundles.proofs.reading.octets.Given as goal

abbrev pub invariant-loop-read : goal.invariant-loop-read
invariant-loop-read g l = record {
  within : l.read ≤ l.size;
  came : length l.octets.items ≡ l.read;
  taken : Takes (g.S.Source.shown l.fn.source) (g.S.Source.shown l.source) l.octets.items;
  later : IsLater (g.S.Source.shown l.fn.source) (g.S.Source.shown l.source);
  buffer : length l.buffer ≡ 65536;
}

abbrev pub decreases-loop-read : goal.decreases-loop-read
decreases-loop-read g l = l.size - l.read
