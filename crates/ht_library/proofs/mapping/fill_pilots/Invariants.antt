use Rattle.std.proofs.Common.{◌≡◌, ℕ, ◌<◌, length, pos, slice_index_or}
use Rattle.ht_pilot.specs.Pilots.{pilot_of}
use Rattle.ht_library.proofs.mapping.fill_pilots.Given as goal

abbrev pub invariant-loop-k : goal.invariant-loop-k
invariant-loop-k l = record {
  size : length l.values ≡ length l.fn.values;
  done : (k : ℕ) → k < l.k → slice_index_or l.values k (pos 0) ≡ pilot_of l.rate l.symbol k l.stream;
}
