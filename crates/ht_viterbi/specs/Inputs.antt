-- Terminated inputs of the encoder, and what the bits that they send cost at the places where they were received.
use Rattle.std.specs.Prelude.{◌≡◌, ℕ, suc, ◌+◌, ◌-◌, ℤ, pos, negsuc, List, [], ◌∷◌, length, drop, replicate, Bool, true, false, not, ◌&&◌, ◌==◌}
use Rattle.std.specs.Prelude.{Option, Some, None}
use Rattle.std.specs.List.{list_all}
use Rattle.ht_rate.specs.declared.kinds.Pattern.{Pattern}
use Rattle.ht_conv.specs.Code.{sent_bits}
use Rattle.ht_nearest.specs.Nearest.{IsFirstNearest}

-- how many bits of 0 end an input: they bring the encoder back to its first state (clause 18.3.5.3)
abbrev pub tail : ℕ
tail = 6

-- an input of this number of bits, whose last six are 0
unfoldable pub is_terminated : ℕ → List Bool → Bool
is_terminated steps input = (length input == steps) && list_all not (drop (steps - tail) input)

-- a received place differs from the bit that was sent; None is an erased place and never does
abbrev pub place_cost : Option Bool → Bool → ℕ
place_cost None bit = 0
place_cost (Some false) false = 0
place_cost (Some false) true = 1
place_cost (Some true) false = 1
place_cost (Some true) true = 0

-- a weight is positive where a 1 is likelier and negative where a 0 is, and its size is what the other bit costs; 0 is
-- an erased place
abbrev pub weight_cost : ℤ → Bool → ℕ
weight_cost (pos n) false = n
weight_cost (pos n) true = 0
weight_cost (negsuc n) false = 0
weight_cost (negsuc n) true = suc n

-- what bits cost at the places where they were received: the sum over the places
abbrev pub total_cost : {P : Type 0} → (P → Bool → ℕ) → List P → List Bool → ℕ
total_cost cost [] sent = 0
total_cost cost (place ∷ received) [] = 0
total_cost cost (place ∷ received) (bit ∷ sent) = cost place bit + total_cost cost received sent

-- what the bits that an input sends cost
unfoldable pub cost_of : {P : Type 0} → (P → Bool → ℕ) → Pattern → List P → List Bool → ℕ
cost_of cost pattern received input = total_cost cost received (sent_bits pattern input)

-- the Hamming distance: at how many places that aren't erased two lists differ
abbrev pub hamming : List (Option Bool) → List Bool → ℕ
hamming = total_cost place_cost

-- the distance of what was received from what an input sends
abbrev pub distance : Pattern → List (Option Bool) → List Bool → ℕ
distance = cost_of place_cost

-- an input comes before another where it has 0 at the first place where they differ
unfoldable pub is_before : List Bool → List Bool → Bool
is_before [] other = false
is_before (bit ∷ input) [] = false
is_before (false ∷ input) (false ∷ other) = is_before input other
is_before (false ∷ input) (true ∷ other) = true
is_before (true ∷ input) (false ∷ other) = false
is_before (true ∷ input) (true ∷ other) = is_before input other

-- a terminated input, none of which costs less, and none before it as little
abbrev pub IsCheapest : {P : Type 0} → (P → Bool → ℕ) → ℕ → Pattern → List P → List Bool → Type 0
IsCheapest cost steps pattern received input = IsFirstNearest (is_terminated steps) (cost_of cost pattern received) is_before input

-- a terminated input, none of which is nearer to what was received, and none before it as near
abbrev pub IsDecoded : ℕ → Pattern → List (Option Bool) → List Bool → Type 0
IsDecoded = IsCheapest place_cost

-- what a decoder of words of `count` steps answers, where `each` is what a bit costs at a place: the input, and what it
-- costs together, which at hard decisions is its distance
pub record IsFound {P : Type 0} (each : P → Bool → ℕ) (count : ℕ) (pattern : Pattern) (received : List P) (answer : List Bool) (least : ℕ) : Type 0 where
  pub input : IsCheapest each count pattern received answer
  pub cost : least ≡ cost_of each pattern received answer
  pub steps : length answer ≡ count
  pub ending : drop (count - tail) answer ≡ replicate tail false
