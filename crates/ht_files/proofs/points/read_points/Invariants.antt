use Rattle.std.proofs.Common.{◌≡◌, ◌+◌, ◌*◌, length, flat_map, vec_capacity}
use Rattle.ht_io.specs.Devices.{Takes, IsLater}
use Rattle.ht_rate.specs.Rates.{carriers_of, streams_of}
use Rattle.ht_files.specs.Places.{AreFitting}
use Rattle.ht_files.specs.Points.{point_octets}
use Rattle.ht_files.proofs.points.read_points.Given as goal

-- the first symbols were read
abbrev pub invariant-loop-index : goal.invariant-loop-index
invariant-loop-index g l = record {
  octets : Takes (g.S.Source.shown l.fn.source) (g.S.Source.shown l.source) (flat_map point_octets l.points.items);
  size : length l.points.items ≡ l.index * (carriers_of l.rate * streams_of l.rate);
  place : l.at ≡ l.fn.at + 2 * length l.points.items;
  fitting : AreFitting l.rate l.points.items;
  capacity : vec_capacity l.points ≡ vec_capacity l.fn.points;
  block : length l.block ≡ 912;
  later : IsLater (g.S.Source.shown l.fn.source) (g.S.Source.shown l.source);
}
