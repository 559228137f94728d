use Rattle.std.proofs.Common.{◌^◌, ◌<◌}
use Rattle.ht_viterbi.specs.Packed.{word_steps}
use Rattle.ht_clean.proofs.guess.guess_all.Given as goal

abbrev pub invariant-loop-at : goal.invariant-loop-at
invariant-loop-at l = l.previous < 2 ^ word_steps l.pattern
