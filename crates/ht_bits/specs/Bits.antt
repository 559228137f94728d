-- Octets and their bits, the least significant bit of each octet first (IEEE Std 802.11-2012, clause 18.3.5).
use Rattle.std.specs.Prelude.{ℕ, ◌+◌, ◌*◌, List, [], ◌∷◌, Bool, ◌==◌}
use Rattle.std.specs.List.{flat_map}
use Rattle.std.specs.Int.{bit_at, from_bool}

-- whether the bit of value 2^place of a number is 1
abbrev pub bit : ℕ → ℕ → Bool
bit number place = bit_at number place == 1

-- the eight bits of an octet
unfoldable pub octet_bits : ℕ → List Bool
octet_bits octet =
    bit octet 0 ∷ bit octet 1 ∷ bit octet 2 ∷ bit octet 3
    ∷ bit octet 4 ∷ bit octet 5 ∷ bit octet 6 ∷ bit octet 7 ∷ []

-- the bits of octets, octet after octet
abbrev pub bits_of : List ℕ → List Bool
bits_of octets = flat_map octet_bits octets

-- the number that has these bits, the one of value 1 first
abbrev pub number_of : List Bool → ℕ
number_of [] = 0
number_of (first ∷ rest) = from_bool first + 2 * number_of rest

-- the octets that have these bits, eight for each octet; a rest of fewer than eight bits has none
abbrev pub octets_of : List Bool → List ℕ
octets_of (a ∷ b ∷ c ∷ d ∷ e ∷ f ∷ g ∷ h ∷ rest) =
    number_of (a ∷ b ∷ c ∷ d ∷ e ∷ f ∷ g ∷ h ∷ []) ∷ octets_of rest
octets_of _ = []
