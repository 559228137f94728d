-- The bits that come to the places so far.
use Rattle.std.proofs.Common.{◌≡◌, ℕ, ◌<◌, length, get_or}
use Rattle.ht_clause18.specs.Interleaver.{origin_of}
use Rattle.ht_clause18.proofs.places.sources.Given as goal

abbrev pub invariant-loop-j : goal.invariant-loop-j
invariant-loop-j l = record {
  whole : length l.sources ≡ 288;
  places : (k : ℕ) → k < l.j → get_or l.sources k 0 ≡ origin_of l.rate k;
}
