use Rattle.std.proofs.Common.{◌≡◌, ◌<◌, ℕ, false, get_or, length}
use Rattle.ht_rate.specs.Rates.{stream_bits_of}
use Rattle.ht_interleave.specs.Interleaver.{place_of}
use Rattle.ht_interleave.proofs.blocks.deinterleave.Given as goal

abbrev pub invariant-loop-k : goal.invariant-loop-k
invariant-loop-k l = record {
  size : length l.into ≡ stream_bits_of l.rate;
  done : (j : ℕ) → j < l.k → get_or l.into j false ≡ get_or l.from (place_of l.rate l.stream j) false;
}
