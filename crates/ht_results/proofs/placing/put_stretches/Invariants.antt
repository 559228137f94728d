use Rattle.std.proofs.Common.{◌≡◌, ◌+◌, drop, length}
use Rattle.ht_results.specs.Places.{places_in, put_on}
use Rattle.ht_results.proofs.placing.put_stretches.Given as goal

-- the values of the stretches that are left are still to be put
abbrev pub invariant-loop-stretch : goal.invariant-loop-stretch
invariant-loop-stretch g l = record {
  count : l.behind + length (places_in (drop l.stretch-index l.stretches)) ≡ length (places_in l.stretches);
  put : put_on (places_in (drop l.stretch-index l.stretches)) (drop l.behind l.values) l.kept ≡ put_on (places_in l.stretches) l.values l.fn.kept;
}
