-- The sources so far.
use Rattle.std.proofs.Common.{◌≡◌, ℕ, ◌<◌, length, get_or, vec_len, vec_capacity}
use Rattle.ht_rate.specs.Rates.{coded_bits_of}
use Rattle.ht_tx.specs.Sources.{source_of_slot}
use Rattle.ht_tx.proofs.sources.sources.Given as goal

abbrev pub invariant-loop-slot : goal.invariant-loop-slot
invariant-loop-slot l = record {
  count : vec_len l.sources ≡ l.slot;
  capacity : vec_capacity l.sources ≡ coded_bits_of l.rate;
  filled : (k : ℕ) → k < length l.sources.items → get_or l.sources.items k 0 ≡ source_of_slot l.rate l.reach k;
}
