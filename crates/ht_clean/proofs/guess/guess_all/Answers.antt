use Rattle.std.proofs.lemmas.Nat.{pow_pos}
use Rattle.ht_viterbi.specs.Packed.{word_steps}
use Rattle.ht_clean.proofs.guess.guess_all.Goals as goal

pub loop-at-init : goal.loop-at-init
loop-at-init c = pow_pos (word_steps c.args.pattern)
