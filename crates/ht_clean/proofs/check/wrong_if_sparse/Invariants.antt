use Rattle.std.proofs.Common.{◌*◌, ◌<◌, ◌≤◌, min}
use Rattle.ht_conv.specs.Puncturing.{sent_count}
use Rattle.ht_viterbi.specs.Packed.{packed, word_steps}
use Rattle.ht_clean.specs.Sparse.{IsPoured, brim, unpacked}
use Rattle.ht_clean.proofs.check.wrong_if_sparse.Given as goal

abbrev pub invariant-loop-at : goal.invariant-loop-at
invariant-loop-at l = record {
  low : l.bucket.level < brim l.pattern;
  few : l.bucket.wrong ≤ 2 * (l.at * word_steps l.pattern);
  poured : IsPoured l.pattern (packed l.words (sent_count l.pattern l.steps)) (unpacked l.pattern l.input l.steps)
      (min (l.at * word_steps l.pattern) l.steps) l.bucket.level l.bucket.wrong;
}
