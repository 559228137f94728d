-- Labels that hold what the encoders of a frame sent.
use Rattle.std.specs.Prelude.{◌≡◌, ℕ, ◌+◌, ◌-◌, ◌*◌, ◌<◌, List, ◌++◌, Bool, false, IsTrue, slice_index_or}
use Rattle.ht_rate.specs.declared.rates.Rate.{Rate}
use Rattle.ht_rate.specs.Rates.{encoders_of, modulation_of, pattern_of, steps_of}
use Rattle.ht_map.specs.Gray.{label_bit}
use Rattle.ht_conv.specs.Code.{sent_bits}
use Rattle.ht_landing.specs.declared.landings.Landing.{Landing}
use Rattle.ht_landing.specs.Landings.{IsLabelBit, coded_bit_of}
use Rattle.ht_viterbi.specs.Inputs.{is_terminated, tail}
use Rattle.ht_inverse.specs.Received.{label_number}

-- each label bit of this number of symbols is the coded bit that lands there
abbrev pub HoldCoded : Rate → ℕ → List ℕ → (ℕ → List Bool) → Type 0
HoldCoded r symbols labels coded =
    (l : Landing) → IsLabelBit r l → l.symbol < symbols
    → label_bit (modulation_of r) (slice_index_or labels (label_number r l.symbol l.carrier l.stream) 0) l.bit
    ≡ slice_index_or (coded (coded_bit_of r l).0) (coded_bit_of r l).1 false

-- the coded bits of the encoders of a frame: each encoder's input has its part of the bits, then its tail, and then
-- anything
pub record AreCodedOf (r : Rate) (octets : ℕ) (bits : List Bool) (coded : ℕ → List Bool) : Type 0 where
  pub input : ℕ → List Bool
  pub rest : ℕ → List Bool
  pub terminated : (j : ℕ) → j < encoders_of r → IsTrue (is_terminated (steps_of r octets) (input j))
  pub parts :
      (j i : ℕ) → j < encoders_of r → i < steps_of r octets - tail
      → slice_index_or (input j) i false ≡ slice_index_or bits (encoders_of r * i + j) false
  pub sent : (j : ℕ) → j < encoders_of r → coded j ≡ sent_bits (pattern_of r) (input j ++ rest j)
