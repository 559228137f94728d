use Rattle.std.proofs.Common.{◌≡◌, ◌*◌, ◌++◌, List, length, take, flat_map, vec_capacity}
use Rattle.ht_pam.specs.declared.point.Point.{Point}
use Rattle.ht_files.specs.Places.{AreFitting}
use Rattle.ht_files.specs.Points.{point_octets}
use Rattle.ht_files.proofs.points.add_points.Given as goal

-- the first points were added
abbrev pub invariant-loop-place : goal.invariant-loop-place
invariant-loop-place l = record {
  added : (added : List Point) × (l.points.items ≡ l.fn.points.items ++ added) × (length added ≡ l.place)
      × (take (2 * l.place) l.octets ≡ flat_map point_octets added);
  fitting : AreFitting l.rate l.points.items;
  capacity : vec_capacity l.points ≡ vec_capacity l.fn.points;
}
