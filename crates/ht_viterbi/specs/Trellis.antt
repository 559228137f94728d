-- The trellis of the code's 64 states, from its end backwards. No public clause speaks of it.
use Rattle.std.specs.Prelude.{◌≡◌, ℕ, zero, suc, ◌+◌, ◌/◌, ◌<◌, nat_lt, Bool, true, false, if◌then◌else◌, ◌&&◌, not, ◌↔◌}
use Rattle.std.specs.Prelude.{List, [], ◌∷◌, length, map, slice_index_or}
use Rattle.std.specs.Int.{bit_at}
use Rattle.ht_rate.specs.declared.kinds.Pattern.{Pattern}
use Rattle.ht_conv.specs.declared.puncture.Kept.{Kept}
use Rattle.ht_conv.specs.declared.puncture.Kept.TheVariants.{Both, A, B}
use Rattle.ht_conv.specs.Puncturing.{kept_of, sent_count}
use Rattle.ht_conv.specs.Code.{taps_a, taps_b}
use Rattle.ht_conv.specs.Continued.{tapped}
use Rattle.ht_conv.specs.Register.{history_of}
use Rattle.ht_viterbi.specs.declared.bit_costs.BitCosts.{BitCosts}

-- what a coded bit costs
abbrev pub bit_cost : BitCosts → Bool → ℕ
bit_cost costs false = costs.zero
bit_cost costs true = costs.one

-- what it costs at a place
abbrev pub costs_of : {P : Type 0} → (P → Bool → ℕ) → P → BitCosts
costs_of cost place = record { zero = cost place false; one = cost place true }

-- a bit that costs nothing
abbrev pub free_bit : BitCosts
free_bit = record { zero = 0; one = 0 }

-- what a step's coded bits A and B cost
abbrev pub StepCosts : Type 0
StepCosts = BitCosts × BitCosts

-- what is known of a step's bits A and B, where it begins at `start`; `none` for a bit that was punctured
abbrev pub pair_of : {X : Type 0} → X → Kept → List X → ℕ → X × X
pair_of none Both received start = (slice_index_or received start none, slice_index_or received (start + 1) none)
pair_of none A received start = (slice_index_or received start none, none)
pair_of none B received start = (none, slice_index_or received start none)

-- the same by the step's number
abbrev pub pair_at : {X : Type 0} → X → Pattern → List X → ℕ → X × X
pair_at none pattern received step = pair_of none (kept_of pattern step) received (sent_count pattern step)

-- what `count` steps cost from a step on
unfoldable pub steps_from : Pattern → List BitCosts → ℕ → ℕ → List StepCosts
steps_from pattern costs step zero = []
steps_from pattern costs step (suc count) = pair_at free_bit pattern costs step ∷ steps_from pattern costs (suc step) count

-- what the steps of a word cost
abbrev pub word_steps : {P : Type 0} → (P → Bool → ℕ) → Pattern → List P → ℕ → List StepCosts
word_steps cost pattern received count = steps_from pattern (map (costs_of cost) received) 0 count

-- the state after an input bit: the state's bits are the last six input bits, the latest one highest
abbrev pub moved : ℕ → Bool → ℕ
moved state false = state / 2
moved state true = state / 2 + 32

-- the coded bits of a step
unfoldable pub output_a : ℕ → Bool → Bool
output_a state bit = tapped taps_a (bit ∷ history_of state)

unfoldable pub output_b : ℕ → Bool → Bool
output_b state bit = tapped taps_b (bit ∷ history_of state)

-- what a step adds to the cost
unfoldable pub branch_cost : StepCosts → ℕ → Bool → ℕ
branch_cost step state bit = bit_cost step.0 (output_a state bit) + bit_cost step.1 (output_b state bit)

-- a bit may be 1 where six bits or more follow it
abbrev pub is_free : ℕ → Bool
is_free following = not (nat_lt following 6)

-- a 1 is taken only where it may be and is cheaper
abbrev pub chosen : Bool → ℕ → ℕ → Bool
chosen free zero_way one_way = free && nat_lt one_way zero_way

-- the cost of the bit that is taken
abbrev pub lesser : Bool → ℕ → ℕ → ℕ
lesser free zero_way one_way = if chosen free zero_way one_way then one_way else zero_way

-- the cost by a first bit, where the table has that from each state afterwards
abbrev pub way : (ℕ → ℕ) → StepCosts → ℕ → Bool → ℕ
way table step state bit = branch_cost step state bit + table (moved state bit)

-- the least cost of a terminated input from a state on
abbrev pub least_from : List StepCosts → ℕ → ℕ
least_from [] state = 0
least_from (step ∷ steps) state =
    lesser (is_free (length steps)) (way (least_from steps) step state false) (way (least_from steps) step state true)

-- whether the first input that has it begins with 1
abbrev pub chosen_at : List StepCosts → StepCosts → ℕ → Bool
chosen_at steps step state =
    chosen (is_free (length steps)) (way (least_from steps) step state false) (way (least_from steps) step state true)

-- the first input that has it
abbrev pub first_from : List StepCosts → ℕ → List Bool
first_from [] state = []
first_from (step ∷ steps) state = chosen_at steps step state ∷ first_from steps (moved state (chosen_at steps step state))

-- a word of choices for each step: the bit at a state's number is 1 where a 1 is taken there
abbrev pub AreChoices : List StepCosts → List ℕ → Type 0
AreChoices [] words = Unit {0}
AreChoices (step ∷ steps) [] = ⊥
AreChoices (step ∷ steps) (word ∷ words) =
    ((k : ℕ) → k < 64 → (bit_at word k ≡ 1) ↔ (chosen_at steps step k ≡ true)) × AreChoices steps words
