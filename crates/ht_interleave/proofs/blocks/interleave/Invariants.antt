use Rattle.std.proofs.Common.{◌≡◌, ◌<◌, ℕ, false, get_or, length}
use Rattle.ht_rate.specs.Rates.{stream_bits_of}
use Rattle.ht_interleave.specs.Interleaver.{origin_of}
use Rattle.ht_interleave.proofs.blocks.interleave.Given as goal

abbrev pub invariant-loop-r : goal.invariant-loop-r
invariant-loop-r l = record {
  size : length l.into ≡ stream_bits_of l.rate;
  done : (j : ℕ) → j < l.r → get_or l.into j false ≡ get_or l.from (origin_of l.rate l.stream j) false;
}
