-- When a count of faults has risen.
use Rattle.std.specs.Prelude.{ℕ, ◌+◌, ◌-◌, ◌^◌, ◌≤◌, min}

-- the last value of a counter of 64 bits
abbrev pub last_count : ℕ
last_count = 2 ^ 64 - 1

-- the count after one more fault, which stands still at the last value
abbrev pub one_more : ℕ → ℕ
one_more count = min (count + 1) last_count

-- the count is greater than before, or is at or beyond the last value of a counter of 64 bits
abbrev pub HasRisen : ℕ → ℕ → Type 0
HasRisen before now = one_more before ≤ now
