-- Input that sends exactly what was received, without a wrong or an erased place.
use Rattle.std.specs.Prelude.{◌≡◌, ℕ, ◌+◌, ◌<◌, List, length, map, reverse, take, slice_index_or, Bool, false, Option, Some, None}
use Rattle.ht_rate.specs.declared.kinds.Pattern.{Pattern}
use Rattle.ht_conv.specs.declared.puncture.Kept.{Kept}
use Rattle.ht_conv.specs.declared.puncture.Kept.TheVariants.{Both, A, B}
use Rattle.ht_conv.specs.Code.{sent_bits}
use Rattle.ht_conv.specs.Puncturing.{sent_count}
use Rattle.ht_conv.specs.Register.{history_of}
use Rattle.ht_viterbi.specs.Trellis.{output_a, output_b}

-- the places of a step, which begin at `start`, have the coded bits that a state gives at an input bit
abbrev pub Explains : Kept → List (Option Bool) → ℕ → ℕ → Bool → Type 0
Explains Both received start state bit =
    (slice_index_or received start None ≡ Some (output_a state bit)) × (slice_index_or received (start + 1) None ≡ Some (output_b state bit))
Explains A received start state bit = slice_index_or received start None ≡ Some (output_a state bit)
Explains B received start state bit = slice_index_or received start None ≡ Some (output_b state bit)

-- input that explains all places of the first steps: where the places of the next one begin, and the state in which it leaves
-- the encoder
pub record IsExplained (pattern : Pattern) (received : List (Option Bool)) (input : List Bool) (steps start state : ℕ) : Type 0 where
  pub count : length input ≡ steps
  pub place : start ≡ sent_count pattern steps
  pub low : state < 64
  pub register : (delay : ℕ) → delay < 6 → slice_index_or (reverse input) delay false ≡ slice_index_or (history_of state) delay false
  pub sent : map Some (sent_bits pattern input) ≡ take start received
