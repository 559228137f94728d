-- A symbol as groups of s bits: in each round every stream takes one group from every encoder.
use Rattle.std.specs.Prelude.{◌≡◌, ℕ, ◌+◌, ◌-◌, ◌*◌, ◌/◌, ◌%◌, ◌<◌, List, Bool, false, length, slice_index_or}
use Rattle.ht_rate.specs.declared.rates.Rate.{Rate}
use Rattle.ht_rate.specs.Rates.{encoders_of, streams_of, stream_bits_of, axis_bits_of}
use Rattle.ht_parse.specs.Encoders.{list_of}
use Rattle.ht_parse.specs.Streams.{source_of, stream_place_of}

-- the rounds of a symbol: N_CBPSS / (N_ES * s)
unfoldable pub rounds_of : Rate → ℕ
rounds_of r = stream_bits_of r / (encoders_of r * axis_bits_of r)

-- numbers that are those of a rate
pub record AreSizes (r : Rate) (encoders streams group rounds : ℕ) : Type 0 where
  pub encoders_is : encoders ≡ encoders_of r
  pub streams_is : streams ≡ streams_of r
  pub group_is : group ≡ axis_bits_of r
  pub rounds_is : rounds ≡ rounds_of r

-- a list that has at each of its places what a rule says
abbrev pub FollowsRule : (ℕ → Bool) → List Bool → Type 0
FollowsRule rule bits = (p : ℕ) → p < length bits → slice_index_or bits p false ≡ rule p

-- the bit that the encoders' lists give to a place of the symbol
unfoldable pub laid_bit : Rate → List Bool → List Bool → ℕ → Bool
laid_bit r first second p =
    let source = source_of r (p / stream_bits_of r + 1) (p % stream_bits_of r) in
    slice_index_or (list_of first second source.0) source.1 false

-- the bit that a symbol gives to a place of an encoder's list
unfoldable pub gathered_bit : Rate → List Bool → ℕ → ℕ → Bool
gathered_bit r bits j i =
    let place = stream_place_of r j i in
    slice_index_or bits ((place.0 - 1) * stream_bits_of r + place.1) false
