use Rattle.std.proofs.Common.{◌≡◌, length, take}
use Rattle.ht_library.proofs.certificates.vector.Given as goal

abbrev pub invariant-loop-k : goal.invariant-loop-k
invariant-loop-k l = record {
  points : l.vector ≡ take l.k l.points;
  size : length l.vector ≡ l.k;
}
