use Rattle.std.proofs.Common.{◌≡◌, ◌*◌, ◌++◌, drop, take, length}
use Rattle.ht_metric.specs.Vectors.{levels_of}
use Rattle.ht_witness.proofs.levels.levels_of.Given as goal

-- the levels so far and those to come are all levels
abbrev pub invariant-loop-k : goal.invariant-loop-k
invariant-loop-k l = record {
  places : length l.levels ≡ 8;
  levels : take (2 * l.k) l.levels ++ levels_of (drop l.k l.vector) ≡ levels_of l.vector;
}
