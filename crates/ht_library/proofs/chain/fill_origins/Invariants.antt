use Rattle.std.proofs.Common.{◌≡◌, ℕ, ◌<◌, length, slice_index}
use Rattle.ht_interleave.specs.Interleaver.{origin_of}
use Rattle.ht_library.proofs.chain.fill_origins.Given as goal

abbrev pub invariant-loop-k : goal.invariant-loop-k
invariant-loop-k l = record {
  size : length l.origins ≡ length l.fn.origins;
  done : (k : ℕ) → k < l.k → slice_index l.origins k ≡ origin_of l.rate l.stream k;
}
