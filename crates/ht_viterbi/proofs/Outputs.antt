-- The coded bits of all states against the taps, by a test of every state.
use Rattle.std.proofs.Common.{◌≡◌, ℕ, ◌<◌, Bool, true, false, not, ◌==◌, refl}
use mathlib.Core.Bool.{xor, beq}
use Rattle.std.specs.Int.{bit_at}
use Rattle.std.proofs.lemmas.Bool.{agree_below_at}
use Rattle.ht_viterbi.specs.Trellis.{output_a, output_b}
use Rattle.ht_viterbi.specs.declared.pairs.TheConstants.{A_OF_ZERO, B_OF_ZERO}

pub output_a-word : (bit : Bool) (state : ℕ) → state < 64 → output_a state bit ≡ not (beq (bit_at A_OF_ZERO state == 1) bit)
unfolding output_a xor
output_a-word false state lt = agree_below_at (λ n. output_a n false) (λ n. not (beq (bit_at A_OF_ZERO n == 1) false)) 64 state refl lt
output_a-word true state lt = agree_below_at (λ n. output_a n true) (λ n. not (beq (bit_at A_OF_ZERO n == 1) true)) 64 state refl lt

pub output_b-word : (bit : Bool) (state : ℕ) → state < 64 → output_b state bit ≡ not (beq (bit_at B_OF_ZERO state == 1) bit)
unfolding output_b xor
output_b-word false state lt = agree_below_at (λ n. output_b n false) (λ n. not (beq (bit_at B_OF_ZERO n == 1) false)) 64 state refl lt
output_b-word true state lt = agree_below_at (λ n. output_b n true) (λ n. not (beq (bit_at B_OF_ZERO n == 1) true)) 64 state refl lt
