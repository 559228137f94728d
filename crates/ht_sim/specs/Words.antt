-- The words of a seed: the permuted congruential generator PCG XSH RR 64/32 on its stream 54.
use Rattle.std.specs.Prelude.{ℕ, ◌+◌, ◌*◌, ◌/◌, ◌%◌, ◌^◌, bit_xor}
use Rattle.std.specs.Int.{w32, rotate_right}

-- the state behind another one
unfoldable pub next : ℕ → ℕ
next z = (6364136223846793005 * z + 109) % 2 ^ 64

-- the state of the first word
unfoldable pub first : ℕ → ℕ
first seed = next ((seed + 109) % 2 ^ 64)

-- the word of a state: its high bits, mixed, and turned to the right by as many places as its five highest bits say
unfoldable pub word : ℕ → ℕ
word z = rotate_right w32 (bit_xor (z / 2 ^ 18) z / 2 ^ 27 % 2 ^ 32) (z / 2 ^ 59)
