-- The costs of the 64 states in the lanes of a vector, as octets or as they are.
use Rattle.std.specs.Prelude.{◌≡◌, ℕ, ℤ, pos, unsigned_abs, zero, suc, ◌+◌, ◌-◌, ◌*◌, ◌/◌, ◌%◌, ◌^◌, ◌<◌, ◌≤◌, List, [], ◌∷◌, Bool, true, false, Option}
use Rattle.std.specs.Prelude.{Some, None}
use Rattle.std.specs.Prelude.{drop, length, map, slice_index, slice_index_or}
use Rattle.ht_rate.specs.declared.kinds.Pattern.{Pattern}
use Rattle.ht_viterbi.specs.Inputs.{place_cost, weight_cost}
use Rattle.ht_viterbi.specs.Trellis.{StepCosts, branch_cost, costs_of, least_from, pair_at, steps_from, way}

-- a vector of 64 lanes, each as the function says
pub record HasLanes (lanes : List ℕ) (value : ℕ → ℕ) : Type 0 where
  pub count : length lanes ≡ 64
  pub lane : (k : ℕ) → k < 64 → slice_index lanes k ≡ value k

-- the two received places of a step; a bit that was punctured counts as erased
abbrev pub StepPlaces : Type 0
StepPlaces = Option Bool × Option Bool

-- what they cost
abbrev pub hard_costs : StepPlaces → StepCosts
hard_costs pair = (costs_of place_cost pair.0, costs_of place_cost pair.1)

-- the place of a pair in the table
abbrev pub number_of_place : Option Bool → ℕ
number_of_place None = 0
number_of_place (Some false) = 1
number_of_place (Some true) = 2

abbrev pub number_of_pair : StepPlaces → ℕ
number_of_pair pair = 3 * number_of_place pair.0 + number_of_place pair.1

-- and back
abbrev pub place_of_number : ℕ → Option Bool
place_of_number zero = None
place_of_number (suc zero) = Some false
place_of_number (suc (suc n)) = Some true

abbrev pub pair_of_number : ℕ → StepPlaces
pair_of_number row = (place_of_number (row / 3), place_of_number (row % 3))

-- what the steps from one on cost, by their rows
abbrev pub row_costs : ℕ → StepCosts
row_costs row = hard_costs (pair_of_number row)

unfoldable pub steps_at : List ℕ → ℕ → List StepCosts
steps_at rows at = map row_costs (drop at rows)

-- the first rows are those of a word's steps
abbrev pub HasRows : Pattern → List (Option Bool) → List ℕ → ℕ → Type 0
HasRows pattern received rows count = (k : ℕ) → k < count → slice_index rows k ≡ number_of_pair (pair_at None pattern received k)

-- what a 1 costs more than a 0, modulo 256
abbrev pub rise : StepCosts → ℕ → ℕ
rise step state = (branch_cost step state true + (256 - branch_cost step state false)) % 256

-- the table has for each pair a row of what the function says of each state
abbrev pub HoldsRows : List (List ℕ) → (StepCosts → ℕ → ℕ) → Type 0
HoldsRows table value = (pair : StepPlaces) → HasLanes (slice_index_or table (number_of_pair pair) []) (value (hard_costs pair))

-- a step that costs at most `most`, from any state and with any bit
abbrev pub IsLight : ℕ → StepCosts → Type 0
IsLight most step = (state : ℕ) (bit : Bool) → branch_cost step state bit ≤ most

-- the size of the heaviest weights whose costs lanes of 32 bits hold
abbrev pub heaviest : ℕ
heaviest = 65535

-- costs that leave the lanes room for a step
abbrev pub HaveRoom : List ℕ → Type 0
HaveRoom costs = (k : ℕ) → k < 64 → slice_index costs k < 2 ^ 30 + 2 ^ 20

-- weights of at most this size
abbrev pub AreWithin : ℕ → List ℤ → Type 0
AreWithin most weights = (k : ℕ) → unsigned_abs (slice_index_or weights k (pos 0)) ≤ most

-- what the coded bits of a step cost as 00, 01, 10 and 11
abbrev pub pair_costs_of : StepCosts → List ℕ
pair_costs_of step =
    (step.0.zero + step.1.zero) ∷ (step.0.zero + step.1.one) ∷ (step.0.one + step.1.zero) ∷ (step.0.one + step.1.one) ∷ []

-- what the steps from one on cost by weights, of a word that has `steps` of them
abbrev pub weight_steps : Pattern → List ℤ → ℕ → ℕ → List StepCosts
weight_steps pattern weights steps at = steps_from pattern (map (costs_of weight_cost) weights) at (steps - at)

-- the least costs of these steps from each state, all lowered by the same
pub record AreLowered (pairs : List StepCosts) (lanes : List ℕ) (fallen count : ℕ) : Type 0 where
  pub costs : (k : ℕ) → k < 64 → slice_index lanes k + fallen ≡ least_from pairs k
  pub low : slice_index lanes 0 < 2 ^ 30
  pub bound : slice_index lanes 0 + fallen ≤ 2 ^ 17 * count

-- no state's two ways lie 128 or more apart
abbrev pub IsClose : (ℕ → ℕ) → StepCosts → Type 0
IsClose table step =
    (k : ℕ) → k < 64 → (way table step k false < way table step k true + 128) × (way table step k true < way table step k false + 128)
