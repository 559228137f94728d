-- The definition at given values, by computation.
use Rattle.std.proofs.Common.{◌≡◌, [], ◌∷◌, pos, negsuc, refl}
use mathlib.Core.Bool.{xor}
use Rattle.ht_rate.specs.Rates.{rate_at, pilots_of}
use Rattle.ht_scramble.specs.Sequence.{delayed, sequence, polarity_at}
use Rattle.ht_pilot.specs.Pilots.{pilot_of}

-- 20 MHz, MCS 0: the four pilots of symbol 0 and of symbol 1
symbol_0 : pilot_of (rate_at 0 0) 0 0 1 ∷ pilot_of (rate_at 0 0) 0 1 1 ∷ pilot_of (rate_at 0 0) 0 2 1 ∷ pilot_of (rate_at 0 0) 0 3 1 ∷ []
    ≡ pos 1 ∷ pos 1 ∷ pos 1 ∷ negsuc 0 ∷ []
unfolding xor rate_at pilots_of delayed sequence polarity_at pilot_of
symbol_0 = refl

symbol_1 : pilot_of (rate_at 0 0) 1 0 1 ∷ pilot_of (rate_at 0 0) 1 1 1 ∷ pilot_of (rate_at 0 0) 1 2 1 ∷ pilot_of (rate_at 0 0) 1 3 1 ∷ []
    ≡ negsuc 0 ∷ negsuc 0 ∷ pos 1 ∷ negsuc 0 ∷ []
unfolding xor rate_at pilots_of delayed sequence polarity_at pilot_of
symbol_1 = refl

-- 40 MHz, MCS 31: pilots 0 and 2 of stream 1 and pilot 5 of stream 4, in symbol 123
symbol_123 : pilot_of (rate_at 1 31) 123 0 1 ∷ pilot_of (rate_at 1 31) 123 2 1 ∷ pilot_of (rate_at 1 31) 123 5 4 ∷ [] ≡ negsuc 0 ∷ pos 1 ∷ pos 1 ∷ []
unfolding xor rate_at pilots_of delayed sequence polarity_at pilot_of
symbol_123 = refl

-- pilot 5 of streams 3 and 4, in symbol 124: the polarity is p[0]
symbol_124 : pilot_of (rate_at 1 31) 124 5 3 ∷ pilot_of (rate_at 1 31) 124 5 4 ∷ [] ≡ negsuc 0 ∷ pos 1 ∷ []
unfolding xor rate_at pilots_of delayed sequence polarity_at pilot_of
symbol_124 = refl
