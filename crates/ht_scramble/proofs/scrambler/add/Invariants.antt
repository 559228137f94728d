-- The bits before the place are added to, and the others as they were.
use Rattle.std.proofs.Common.{◌≡◌, ℕ, ◌-◌, ◌<◌, ◌≤◌, false, length, get_or}
use Rattle.std.specs.Bool.{xor}
use Rattle.ht_scramble.proofs.scrambler.add.Given as goal

abbrev pub invariant-loop-place : goal.invariant-loop-place
invariant-loop-place l = record {
  len : length l.bits ≡ length l.fn.bits;
  here : (k : ℕ) → l.start ≤ k → k < l.place → get_or l.bits k false ≡ xor (get_or l.fn.bits k false) (get_or l.sequence (k - l.start) false);
  before : (k : ℕ) → k < l.start → get_or l.bits k false ≡ get_or l.fn.bits k false;
  behind : (k : ℕ) → l.place ≤ k → get_or l.bits k false ≡ get_or l.fn.bits k false;
}
