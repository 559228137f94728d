use Rattle.std.proofs.Common.{◌≡◌, ◌+◌, ◌-◌, ◌*◌, ◌^◌, ◌≤◌, ◌-ℤ◌, drop, length, get_or, unsigned_abs}
use Rattle.ht_metric.specs.Rows.{no_row}
use Rattle.ht_sphere.specs.Coordinates.{weighed, weights_of_i, weights_of_q, entries_behind}
use Rattle.ht_sphere.proofs.remainder.left_of.Given as goal

-- what is left behind the streams so far, less those to come, is what is left
abbrev pub invariant-loop-l : goal.invariant-loop-l
invariant-loop-l v = record {
  re : v.re
      -ℤ weighed (weights_of_i (entries_behind (length v.system - v.l) (drop (v.l - v.k) (get_or v.system (v.k - 1) no_row).right))) (drop (2 * v.l) v.levels)
      ≡ (get_or v.system (v.k - 1) no_row).sample.re
      -ℤ weighed (weights_of_i (entries_behind (length v.system - v.k) (get_or v.system (v.k - 1) no_row).right)) (drop (2 * v.k) v.levels);
  im : v.im
      -ℤ weighed (weights_of_q (entries_behind (length v.system - v.l) (drop (v.l - v.k) (get_or v.system (v.k - 1) no_row).right))) (drop (2 * v.l) v.levels)
      ≡ (get_or v.system (v.k - 1) no_row).sample.im
      -ℤ weighed (weights_of_q (entries_behind (length v.system - v.k) (get_or v.system (v.k - 1) no_row).right)) (drop (2 * v.k) v.levels);
  re_bound : unsigned_abs v.re ≤ 2 ^ 31 + 458752 * (v.l - v.k);
  im_bound : unsigned_abs v.im ≤ 2 ^ 31 + 458752 * (v.l - v.k);
}
