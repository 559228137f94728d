use Rattle.std.proofs.Common.{◌≡◌, ◌+◌, ◌-◌, ◌*◌, ◌^◌, ◌≤◌, drop}
use Rattle.ht_metric.specs.Distance.{distance_of}
use Rattle.ht_metric.specs.Rows.{rows_of, legs_of, entries_of}
use Rattle.ht_metric.proofs.rows.sum_rows.Given as goal

-- the rows so far and those that are left are the whole distance
abbrev pub invariant-loop-k : goal.invariant-loop-k
invariant-loop-k l = record {
  sum : l.total + distance_of (rows_of (legs_of (l.count - l.k) (drop l.k l.diagonal) (drop l.from l.above)) (drop l.k l.y)) (drop l.k l.vector)
      ≡ distance_of (rows_of (legs_of l.count l.diagonal l.above) l.y) l.vector;
  bound : l.total ≤ l.k * (2 * ((2 ^ 31 + 2 ^ 21) * (2 ^ 31 + 2 ^ 21)));
  entries : l.from + entries_of (l.count - l.k) ≤ 6;
}
