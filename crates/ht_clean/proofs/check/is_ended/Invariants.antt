use Rattle.std.proofs.Common.{◌≡◌, ◌-◌, ◌<◌, ◌≤◌, ℕ, false}
use Rattle.ht_clean.specs.Sparse.{input_bit}
use Rattle.ht_clean.proofs.check.is_ended.Given as goal

abbrev pub invariant-loop-step : goal.invariant-loop-step
invariant-loop-step l = (k : ℕ) → l.steps - 6 ≤ k → k < l.step → input_bit l.pattern l.input k ≡ false
