-- The decoded input as a function of what is received.
use Rattle.std.specs.Prelude.{ℕ, zero, suc, ◌-◌, List, [], ◌∷◌, ◌++◌, replicate, map, Bool, true, false, Option, unwrap_or}
use Rattle.ht_rate.specs.declared.kinds.Pattern.{Pattern}
use Rattle.ht_nearest.specs.Nearest.{first_nearest}
use Rattle.ht_viterbi.specs.Inputs.{cost_of, is_before, place_cost, tail}

-- all lists of this number of bits, in order
abbrev pub bit_lists : ℕ → List (List Bool)
bit_lists zero = [] ∷ []
bit_lists (suc n) = map (λ u. false ∷ u) (bit_lists n) ++ map (λ u. true ∷ u) (bit_lists n)

-- all terminated inputs of this number of steps, in order: any bits, and then the tail
abbrev pub terminated_inputs : ℕ → List (List Bool)
terminated_inputs steps = map (λ u. u ++ replicate tail false) (bit_lists (steps - tail))

-- the first cheapest of them
unfoldable pub cheapest : {P : Type 0} → (P → Bool → ℕ) → ℕ → Pattern → List P → List Bool
cheapest cost steps pattern received = unwrap_or (first_nearest (cost_of cost pattern received) is_before (terminated_inputs steps)) []

-- the first nearest of them
abbrev pub decoded : ℕ → Pattern → List (Option Bool) → List Bool
decoded = cheapest place_cost
