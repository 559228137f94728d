-- From the octets of a frame to the bits that its encoders take (IEEE Std 802.11-2012, clauses 18.3.5.2 to 18.3.5.5 and
-- 20.3.11.2 to 20.3.11.4).
use Rattle.std.specs.Prelude.{ℕ, ◌+◌, ◌*◌, List, ◌++◌, take, drop, replicate, length, Bool, false}
use Rattle.ht_bits.specs.Bits.{bits_of}
use Rattle.ht_scramble.specs.Sequence.{scrambled}

-- SERVICE and the octets: 16 bits, and 8 for each octet
abbrev pub service_and_octets : List ℕ → ℕ
service_and_octets octets = 16 + 8 * length octets

-- the DATA bits: the 16 zeros of SERVICE, the octets with the least significant bit first, and the zeros of tail and pads
abbrev pub data_of : List ℕ → ℕ → List Bool
data_of octets zeros = (replicate 16 false ++ bits_of octets) ++ replicate zeros false

-- zeros in the place of some bits, from a place on
abbrev pub zeroed : ℕ → ℕ → List Bool → List Bool
zeroed at count bits = (take at bits ++ replicate count false) ++ drop (at + count) bits

-- what the encoders take: the scrambled bits of octets, tail and pads, with zeros again in the places of the tail
abbrev pub scrambled_data_of : ℕ → List ℕ → ℕ → ℕ → List Bool
scrambled_data_of seed octets tail pads = zeroed (service_and_octets octets) tail (scrambled seed (data_of octets (tail + pads)))
