-- Numbers in lanes of 32 bits.
use Rattle.std.specs.Prelude.{◌≡◌, ℕ, ℤ, pos, ◌+◌, ◌-◌, ◌*◌, ◌%◌, ◌^◌, ◌<◌, ◌+ℤ◌, List, length, slice_index, Bool, nat_lt, nat_le, if◌then◌else◌}

-- a vector of eight lanes, each as the function says
pub record HasLanes (lanes : List ℕ) (value : ℕ → ℕ) : Type 0 where
  pub count : length lanes ≡ 8
  pub lane : (k : ℕ) → k < 8 → slice_index lanes k ≡ value k

-- a whole number stands in a lane modulo 2^32
abbrev pub Holds : ℕ → ℤ → Type 0
Holds n z = (up : ℕ) × (down : ℕ) × (pos (n + up * 2 ^ 32) ≡ z +ℤ pos (down * 2 ^ 32))

-- a difference modulo 2^32
abbrev pub minus : ℕ → ℕ → ℕ
minus a b = (a + (2 ^ 32 - b)) % 2 ^ 32

-- whether a lane is negative, as a number with a sign
abbrev pub is_negative : ℕ → Bool
is_negative a = nat_le (2 ^ 31) a

-- its size as a number with a sign
abbrev pub size : ℕ → ℕ
size a = if nat_lt a (minus 0 a) then a else minus 0 a

-- a lane with the other sign where another lane is negative
abbrev pub turned : ℕ → ℕ → ℕ
turned sign a = if is_negative sign then minus 0 a else a

-- the lesser of two numbers
abbrev pub lesser : ℕ → ℕ → ℕ
lesser a b = if nat_lt a b then a else b

-- by how much the first number is over the second
abbrev pub over : ℕ → ℕ → ℕ
over a b = minus (if nat_lt a b then b else a) b
