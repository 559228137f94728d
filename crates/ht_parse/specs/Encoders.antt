-- How the data bits are shared among the encoders (IEEE Std 802.11-2012, clause 20.3.11.5).
use Rattle.std.specs.Prelude.{◌≡◌, ℕ, zero, suc, ◌+◌, ◌-◌, ◌*◌, ◌<◌, List, Bool, false, length, slice_index_or}
use Rattle.ht_rate.specs.declared.rates.Rate.{Rate}
use Rattle.ht_rate.specs.Rates.{encoders_of}

-- the list of an encoder, by its number from 0
abbrev pub list_of : List Bool → List Bool → ℕ → List Bool
list_of first second zero = first
list_of first second (suc j) = second

-- each encoder that the rate has gets a list as long as the first; one that it hasn't gets none
abbrev pub AreShares : Rate → List Bool → List Bool → Type 0
AreShares r first second = length second ≡ (encoders_of r - 1) * length first

-- bit i of encoder j's input stands at place N_ES * i + j of the list, which has no other places
pub record IsParsed (r : Rate) (bits first second : List Bool) : Type 0 where
  pub shares : AreShares r first second
  pub whole : length bits ≡ encoders_of r * length first
  pub places : (j i : ℕ) → j < encoders_of r → i < length first
      → slice_index_or bits (encoders_of r * i + j) false ≡ slice_index_or (list_of first second j) i false
