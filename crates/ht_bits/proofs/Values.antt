-- The definitions at given values, by computation.
use Rattle.std.proofs.Common.{◌≡◌, [], ◌∷◌, true, false, refl}
use Rattle.ht_bits.specs.Bits.{bit, octet_bits, bits_of, number_of, octets_of}

-- a5 is 1010 0101, from the least significant bit on, and is its own mirror image
bits_of_a5 : bits_of (0xa5 ∷ []) ≡ true ∷ false ∷ true ∷ false ∷ false ∷ true ∷ false ∷ true ∷ []
unfolding octet_bits
bits_of_a5 = refl

octets_of_a5 : octets_of (true ∷ false ∷ true ∷ false ∷ false ∷ true ∷ false ∷ true ∷ []) ≡ 0xa5 ∷ []
octets_of_a5 = refl

-- 03 is 1100 0000
bits_of_03 : bits_of (0x03 ∷ []) ≡ true ∷ true ∷ false ∷ false ∷ false ∷ false ∷ false ∷ false ∷ []
unfolding octet_bits
bits_of_03 = refl

-- 80 is 0000 0001
octets_of_80 : octets_of (false ∷ false ∷ false ∷ false ∷ false ∷ false ∷ false ∷ true ∷ []) ≡ 0x80 ∷ []
octets_of_80 = refl

-- two octets, the first one first
bits_of_01_ff : bits_of (0x01 ∷ 0xff ∷ [])
    ≡ true ∷ false ∷ false ∷ false ∷ false ∷ false ∷ false ∷ false ∷ true ∷ true ∷ true ∷ true ∷ true ∷ true ∷ true ∷ true ∷ []
unfolding octet_bits
bits_of_01_ff = refl

octets_of_01_ff : octets_of (true ∷ false ∷ false ∷ false ∷ false ∷ false ∷ false
    ∷ false ∷ true ∷ true ∷ true ∷ true ∷ true ∷ true ∷ true ∷ true ∷ []) ≡ 0x01 ∷ 0xff ∷ []
octets_of_01_ff = refl

-- the bits of value 1, 4 and 32 of 25 hex
bit_of_25 : (bit 0x25 0 ∷ bit 0x25 1 ∷ bit 0x25 2 ∷ bit 0x25 5 ∷ bit 0x25 7 ∷ []) ≡ true ∷ false ∷ true ∷ true ∷ false ∷ []
bit_of_25 = refl

number_of_110 : number_of (true ∷ true ∷ false ∷ []) ≡ 3
number_of_110 = refl

no_octets : bits_of [] ≡ []
no_octets = refl

no_bits : octets_of [] ≡ []
no_bits = refl
