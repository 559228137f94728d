use Rattle.std.proofs.Common.{◌∙◌, ap, arith}
use Rattle.ht_scramble.specs.Register.{register_at}
use Rattle.ht_scramble.proofs.Shifts.{register_at-start}
use Rattle.ht_scramble.proofs.scrambler.sequence_of.Goals as goal

pub loop-bit-init : goal.loop-bit-init
loop-bit-init c = record {
  register = register_at-start c.value-register.result (omega arith) ∙ ap (λ n. register_at n 0) c.value-register.ensures.value;
  bound = omega arith;
  done = λ k lt. absurd (omega arith);
}
