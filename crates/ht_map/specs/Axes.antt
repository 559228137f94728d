-- The axes by their number of levels.
use Rattle.std.specs.Prelude.{◌≡◌, ◌⊎◌, ℕ, ◌/◌, ◌==◌, if◌then◌else◌, bit_xor}
use Rattle.ht_map.specs.Gray.{Axis, no_bits, one_bit, two_bits, three_bits}

-- an axis has 1, 2, 4 or 8 levels
abbrev pub IsSize : ℕ → Type 0
IsSize size = (size ≡ 1) ⊎ (size ≡ 2) ⊎ (size ≡ 4) ⊎ (size ≡ 8)

-- the axis of a number of levels
unfoldable pub axis_of : ℕ → Axis
axis_of size =
    if size == 1 then no_bits else if size == 2 then one_bit else if size == 4 then two_bits else three_bits

-- the index of a level, counted from the lowest one, whose Gray code is a number of up to three bits
abbrev pub index_of : ℕ → ℕ
index_of bits = bit_xor (bit_xor bits (bits / 2)) (bits / 4)
