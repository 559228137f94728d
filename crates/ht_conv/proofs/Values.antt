-- Worked values of the definitions, each by computation.
use Rattle.std.proofs.Common.{◌≡◌, List, [], ◌∷◌, Bool, true, false, refl, sym}
use mathlib.Core.Bool.{xor}
use Rattle.ht_rate.specs.declared.kinds.Pattern.TheVariants.{Half, TwoThirds, ThreeQuarters, FiveSixths}
use Rattle.ht_conv.specs.declared.puncture.Kept.TheVariants.{Both, A, B}
use Rattle.ht_conv.specs.Puncturing.{kept_of, sent_count}
use Rattle.ht_conv.specs.Code.{taps_a, taps_b, delayed_bit, coded_bit, sent_bits}
use Rattle.ht_conv.specs.Continued.{sent_from}
use Rattle.ht_conv.specs.Register.{history_of}
use Rattle.ht_conv.proofs.Counts.{sent_count-ceil}

-- one 1 and then six zeros
abbrev impulse : List Bool
impulse = true ∷ false ∷ false ∷ false ∷ false ∷ false ∷ false ∷ []

kept_two_thirds : kept_of TwoThirds 7 ≡ A
kept_two_thirds = refl

kept_three_quarters : kept_of ThreeQuarters 8 ≡ B
kept_three_quarters = refl

kept_five_sixths : kept_of FiveSixths 13 ≡ A
kept_five_sixths = refl

kept_next_period : kept_of FiveSixths 15 ≡ Both
kept_next_period = refl

count_three_quarters : sent_count ThreeQuarters 7 ≡ 10
count_three_quarters = refl

-- the longest codeword of MCS 31 at 40 MHz
count_longest : sent_count FiveSixths 262154 ≡ 314585
count_longest = sym (sent_count-ceil FiveSixths 262154)

before_the_start : delayed_bit impulse 2 3 ≡ false
before_the_start = refl

two_steps_ago : delayed_bit impulse 2 2 ≡ true
two_steps_ago = refl

a_of_step_two : coded_bit taps_a impulse 2 ≡ true
unfolding xor
a_of_step_two = refl

b_of_step_five : coded_bit taps_b impulse 5 ≡ false
unfolding xor
b_of_step_five = refl

-- 11 01 11 11 00 10 11
impulse_at_half : sent_bits Half impulse ≡ true ∷ true ∷ false ∷ true ∷ true ∷ true ∷ true ∷ true ∷ false ∷ false ∷ true ∷ false ∷ true ∷ true ∷ []
unfolding xor
impulse_at_half = refl

-- 1101 1100 11
impulse_at_three_quarters : sent_bits ThreeQuarters impulse ≡ true ∷ true ∷ false ∷ true ∷ true ∷ true ∷ false ∷ false ∷ true ∷ true ∷ []
unfolding xor
impulse_at_three_quarters = refl

-- after a 1 one step before, from step 1 on
continued : sent_from ThreeQuarters 1 (true ∷ []) (false ∷ false ∷ []) ≡ false ∷ true ∷ []
unfolding xor
continued = refl

latest_bit_highest : history_of 33 ≡ true ∷ false ∷ false ∷ false ∷ false ∷ true ∷ []
latest_bit_highest = refl
