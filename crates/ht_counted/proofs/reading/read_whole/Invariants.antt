-- The beginning of the file and its first entries were read.
use Rattle.std.proofs.Common.{◌≡◌, ◌≤◌, ◌+◌, ◌*◌, ◌++◌, All, length, flat_map}
use Rattle.ht_io.specs.Devices.{Takes, IsLater}
use Rattle.ht_heads.specs.Starts.{started_octets}
use Rattle.ht_counted.proofs.reading.read_whole.Given as goal

abbrev pub invariant-loop-index : goal.invariant-loop-index
invariant-loop-index g l = record {
  octets : Takes (g.S.Source.shown l.fn.source) (g.S.Source.shown l.source)
      (started_octets g.E.Entries.format.magic g.E.Entries.format.limits.width l.count ++ flat_map g.E.Entries.octets l.held.items);
  fit : All g.E.Entries.fits l.held.items;
  size : length l.held.items ≡ l._index;
  place : l.at ≡ length (started_octets g.E.Entries.format.magic g.E.Entries.format.limits.width l.count ++ flat_map g.E.Entries.octets l.held.items);
  bound : l.at ≤ 13 + l._index * g.E.Entries.most;
  later : IsLater (g.S.Source.shown l.fn.source) (g.S.Source.shown l.source);
  ready : g.E.Entries.ready l.entries;
}
