-- The register is that of the place, and the bits before it are those of the sequence.
use Rattle.std.proofs.Common.{◌≡◌, ℕ, ◌<◌, false, get_or}
use Rattle.ht_scramble.specs.Sequence.{sequence}
use Rattle.ht_scramble.specs.Register.{register_at}
use Rattle.ht_scramble.proofs.scrambler.sequence_of.Given as goal

abbrev pub invariant-loop-bit : goal.invariant-loop-bit
invariant-loop-bit l = record {
  register : l.register ≡ register_at l.fn.seed l.bit-index;
  bound : l.register < 128;
  done : (k : ℕ) → k < l.bit-index → get_or l.bit-items k false ≡ sequence l.fn.seed k;
}
