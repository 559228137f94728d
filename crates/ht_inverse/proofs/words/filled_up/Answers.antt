use Rattle.std.proofs.Common.{ℕ, List, ◌∙◌, ap, arith, length, slice_index}
use Rattle.std.proofs.lemmas.List.{get_or-replicate, length-replicate}
use Rattle.ht_inverse.proofs.words.filled_up.Goals as goal

pub loop-k-init : goal.loop-k-init
loop-k-init c = record {
  length = ap (λ (xs : List ℕ). length xs) c.zeros-lanes.ensures ∙ length-replicate {A = ℕ} 64 0;
  done = λ i low. absurd (omega (arith, low));
  left = λ i _ low. ap (λ (xs : List ℕ). slice_index xs i) c.zeros-lanes.ensures ∙ get_or-replicate {A = ℕ} 64 i 0 0 low;
}
