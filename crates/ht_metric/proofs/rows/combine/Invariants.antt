use Rattle.std.proofs.Common.{◌≡◌, ◌*◌, ◌≤◌, ◌+ℤ◌, drop, unsigned_abs}
use Rattle.ht_metric.specs.Distance.{combined}
use Rattle.ht_metric.proofs.rows.combine.Given as goal

-- what was added and what is left are the whole sum
abbrev pub invariant-loop-k : goal.invariant-loop-k
invariant-loop-k l = record {
  re : l.total.re +ℤ (combined (drop l.k l.taps) (drop l.k l.xs)).re ≡ (combined l.taps l.xs).re;
  im : l.total.im +ℤ (combined (drop l.k l.taps) (drop l.k l.xs)).im ≡ (combined l.taps l.xs).im;
  re_bound : unsigned_abs l.total.re ≤ 458752 * l.k;
  im_bound : unsigned_abs l.total.im ≤ 458752 * l.k;
}
