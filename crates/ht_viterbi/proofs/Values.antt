-- Values of the definitions, by computation.
use Rattle.std.proofs.Common.{◌≡◌, List, [], ◌∷◌, map, ℤ, pos, negsuc, Bool, true, false, Option, Some, None, replicate, refl}
use mathlib.Core.Bool.{xor}
use Rattle.ht_rate.specs.declared.kinds.Pattern.TheVariants.{Half, TwoThirds}
use Rattle.ht_viterbi.specs.Decoded.{cheapest, decoded, terminated_inputs}
use Rattle.ht_viterbi.specs.Inputs.{is_terminated, is_before, cost_of, distance, weight_cost}

abbrev zeros : List Bool
zeros = replicate 7 false

abbrev one_first : List Bool
one_first = true ∷ replicate 6 false

-- 11 01 11 00 00 00 00 and 11 01 11 10 00 00 00
abbrev first_word : List (Option Bool)
first_word = map Some (true ∷ true ∷ false ∷ true ∷ true ∷ true ∷ replicate 8 false)

abbrev second_word : List (Option Bool)
second_word = map Some (true ∷ true ∷ false ∷ true ∷ true ∷ true ∷ true ∷ replicate 7 false)

-- both inputs are at distance 5 from the first word; an erased word is near to all, and one of ones far from zeros
distances : map (λ (pair : List (Option Bool) × List Bool). distance Half pair.0 pair.1)
    ((first_word, zeros) ∷ (first_word, one_first) ∷ (second_word, zeros) ∷ (second_word, one_first) ∷ (replicate 14 None, one_first)
    ∷ (replicate 12 (Some true), replicate 6 false) ∷ [])
    ≡ 5 ∷ 5 ∷ 6 ∷ 4 ∷ 0 ∷ 12 ∷ []
unfolding cost_of xor
distances = refl

-- at 2/3 the input 1000000 sends 11 0 11 1 00 1 11
punctured : distance TwoThirds (map Some (replicate 11 false)) one_first ≡ 8
unfolding cost_of xor
punctured = refl

ends-well : is_terminated 7 one_first ≡ true
unfolding is_terminated
ends-well = refl

ends-badly : is_terminated 7 (false ∷ true ∷ replicate 5 false) ≡ false
unfolding is_terminated
ends-badly = refl

too-short : is_terminated 7 (replicate 6 false) ≡ false
unfolding is_terminated
too-short = refl

zero-first : is_before zeros one_first ≡ true
unfolding is_before
zero-first = refl

none-before-itself : is_before one_first one_first ≡ false
unfolding is_before
none-before-itself = refl

-- two inputs of seven steps, of which the first is decoded at a tie
both-inputs : terminated_inputs 7 ≡ zeros ∷ one_first ∷ []
both-inputs = refl

first-decoded : decoded 7 Half first_word ≡ zeros
unfolding cheapest cost_of is_before xor
first-decoded = refl

second-decoded : decoded 7 Half second_word ≡ one_first
unfolding cheapest cost_of is_before xor
second-decoded = refl

-- the weights of the same bits: 9 at the ones of the first word, and -1 at its zeros
abbrev weight : Bool → ℤ
weight false = negsuc 0
weight true = pos 9

abbrev weights : List ℤ
weights = map weight (true ∷ true ∷ false ∷ true ∷ true ∷ true ∷ replicate 8 false)

weighed : map (λ (pair : List ℤ × List Bool). cost_of weight_cost Half pair.0 pair.1)
    ((weights, zeros) ∷ (weights, one_first) ∷ (replicate 14 (pos 0), one_first) ∷ []) ≡ 45 ∷ 5 ∷ 0 ∷ []
unfolding cost_of xor
weighed = refl

weighed-decoded : cheapest weight_cost 7 Half weights ≡ one_first
unfolding cheapest cost_of is_before xor
weighed-decoded = refl
