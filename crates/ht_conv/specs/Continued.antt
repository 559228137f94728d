-- The same code taken up in mid-stream: what an input sends after other input went before it.
use Rattle.std.specs.Prelude.{ℕ, suc, List, [], ◌∷◌, ◌++◌, map, Bool, false, slice_index_or}
use Rattle.ht_rate.specs.declared.kinds.Pattern.{Pattern}
use Rattle.ht_conv.specs.Puncturing.{kept_of, kept_bits}
use Rattle.ht_conv.specs.Code.{taps_a, taps_b, parity}

-- a generator's bit, where the latest bit of the input stands first
abbrev pub tapped : List ℕ → List Bool → Bool
tapped taps latest = parity (map (λ delay. slice_index_or latest delay false) taps)

-- what is kept of a step whose input ends a list of bits, the latest one first
abbrev pub step_bits : Pattern → ℕ → List Bool → List Bool
step_bits pattern step latest = kept_bits (kept_of pattern step) (tapped taps_a latest) (tapped taps_b latest)

-- what the input sends from a step on, where earlier input, the latest bit first, went before it
abbrev pub sent_from : Pattern → ℕ → List Bool → List Bool → List Bool
sent_from pattern step before [] = []
sent_from pattern step before (bit ∷ bits) =
    step_bits pattern step (bit ∷ before) ++ sent_from pattern (suc step) (bit ∷ before) bits
