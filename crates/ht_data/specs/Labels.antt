-- Labels by their bits.
use Rattle.std.specs.Prelude.{ℕ, zero, suc, ◌+◌, ◌*◌, Bool}
use Rattle.std.specs.Int.{from_bool}

-- the number that a count of bits writes, the first one the most significant
abbrev pub written : (ℕ → Bool) → ℕ → ℕ
written bits zero = 0
written bits (suc count) = 2 * written bits count + from_bool (bits count)
