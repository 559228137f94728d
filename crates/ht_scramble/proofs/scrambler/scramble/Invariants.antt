-- The bits of the turns before are scrambled, and the others as they were.
use Rattle.std.proofs.Common.{◌≡◌, ℕ, ◌*◌, ◌<◌, ◌≤◌, false, length, get_or}
use Rattle.std.specs.Bool.{xor}
use Rattle.ht_scramble.specs.Sequence.{sequence}
use Rattle.ht_scramble.proofs.scrambler.scramble.Given as goal

abbrev pub invariant-loop-turn : goal.invariant-loop-turn
invariant-loop-turn l = record {
  len : length l.bits ≡ length l.fn.bits;
  done : (k : ℕ) → k < 127 * l.turn → k < length l.bits → get_or l.bits k false ≡ xor (get_or l.fn.bits k false) (sequence l.fn.seed k);
  rest : (k : ℕ) → 127 * l.turn ≤ k → get_or l.bits k false ≡ get_or l.fn.bits k false;
}
