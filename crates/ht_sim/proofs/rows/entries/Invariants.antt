use Rattle.std.proofs.Common.{◌≡◌, ◌*◌, ◌≤◌, ◌+ℤ◌, drop, get_or, unsigned_abs}
use Rattle.ht_metric.specs.Distance.{combined}
use Rattle.ht_metric.specs.Rows.{no_leg}
use Rattle.ht_sim.proofs.rows.entries.Given as goal

-- what was added and what is left are the whole sum
abbrev pub invariant-loop-k : goal.invariant-loop-k
invariant-loop-k l = record {
  re : l.total.re +ℤ (combined (drop l.k (get_or l.triangle l.row no_leg).right) (drop l.k l.behind)).re
      ≡ (combined (get_or l.triangle l.row no_leg).right l.behind).re;
  im : l.total.im +ℤ (combined (drop l.k (get_or l.triangle l.row no_leg).right) (drop l.k l.behind)).im
      ≡ (combined (get_or l.triangle l.row no_leg).right l.behind).im;
  re_bound : unsigned_abs l.total.re ≤ 8388608 * l.k;
  im_bound : unsigned_abs l.total.im ≤ 8388608 * l.k;
}
