-- The register against the taps, by a test of every state.
use Rattle.std.proofs.Common.{◌≡◌, ℕ, ◌*◌, ◌/◌, ◌%◌, ◌<◌, ◌∷◌, take, Bool, true, false, ◌==◌, refl}
use mir.Val.{bool_byte}
use lib.Count.{ones, ones_in}
use Rattle.std.specs.Prelude.{bit_and, bit_or, count_ones}
use mathlib.Core.Bool.{xor}
use Rattle.std.proofs.lemmas.Bool.{agree_below_at}
use Rattle.ht_bits.proofs.SameBits.{same_bits, same_bits-true}
use Rattle.ht_conv.specs.Code.{taps_a, taps_b}
use Rattle.ht_conv.specs.Continued.{tapped}
use Rattle.ht_conv.specs.Register.{history_of}

-- the seven bits of a step, by the state and the present bit
abbrev pub window : ℕ → ℕ → ℕ
window n x = bit_or n (x * 64 % 256)

abbrev odd_ones : ℕ → Bool
odd_ones n = count_ones n % 2 == 1

pub window-a : (bit : Bool) (n : ℕ) → n < 64 → odd_ones (bit_and (window n (bool_byte bit)) 91) ≡ tapped taps_a (bit ∷ history_of n)
unfolding ones ones_in xor
window-a false n lt = agree_below_at (λ n. odd_ones (bit_and (window n 0) 91)) (λ n. tapped taps_a (false ∷ history_of n)) 64 n refl lt
window-a true n lt = agree_below_at (λ n. odd_ones (bit_and (window n 1) 91)) (λ n. tapped taps_a (true ∷ history_of n)) 64 n refl lt

pub window-b : (bit : Bool) (n : ℕ) → n < 64 → odd_ones (bit_and (window n (bool_byte bit)) 121) ≡ tapped taps_b (bit ∷ history_of n)
unfolding ones ones_in xor
window-b false n lt = agree_below_at (λ n. odd_ones (bit_and (window n 0) 121)) (λ n. tapped taps_b (false ∷ history_of n)) 64 n refl lt
window-b true n lt = agree_below_at (λ n. odd_ones (bit_and (window n 1) 121)) (λ n. tapped taps_b (true ∷ history_of n)) 64 n refl lt

shifted : (bit : Bool) (n : ℕ) → n < 64 → same_bits (history_of (window n (bool_byte bit) / 2)) (bit ∷ take 5 (history_of n)) ≡ true
unfolding same_bits
shifted false n lt = agree_below_at (λ n. same_bits (history_of (window n 0 / 2)) (false ∷ take 5 (history_of n))) (λ _. true) 64 n refl lt
shifted true n lt = agree_below_at (λ n. same_bits (history_of (window n 1 / 2)) (true ∷ take 5 (history_of n))) (λ _. true) 64 n refl lt

pub window-next : (bit : Bool) (n : ℕ) → n < 64 → history_of (window n (bool_byte bit) / 2) ≡ bit ∷ take 5 (history_of n)
window-next bit n lt = same_bits-true _ _ (shifted bit n lt)
