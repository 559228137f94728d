-- Sums and differences of 32 bits that don't overflow.
use Rattle.std.proofs.Common.{◌≡◌, ℕ, ◌+◌, ◌-◌, ◌*◌, ◌^◌, ◌<◌, ◌≤◌, ℤ, pos, ◌+ℤ◌, ◌-ℤ◌, unsigned_abs, w32, to_z, of_z, arith}
use Rattle.std.proofs.lemmas.Int.{ints}

pub subtracts : (a b x y : ℤ) → unsigned_abs a ≤ 2 ^ 30 - 1 → unsigned_abs b ≤ 2 ^ 30 - 1 → a ≡ x → b ≡ y
    → to_z w32 (of_z w32 (to_z w32 (of_z w32 a) -ℤ to_z w32 (of_z w32 b))) ≡ x -ℤ y
subtracts a b x y m n p q = rw (← p, ← q) (omega (arith, ints))

pub adds : (a b x y : ℤ) → unsigned_abs a ≤ 2 ^ 30 - 1 → unsigned_abs b ≤ 2 ^ 30 - 1 → a ≡ x → b ≡ y
    → to_z w32 (of_z w32 (to_z w32 (of_z w32 a) +ℤ to_z w32 (of_z w32 b))) ≡ x +ℤ y
adds a b x y m n p q = rw (← p, ← q) (omega (arith, ints))

pub subtracts_bound : (a b : ℤ) (k m n : ℕ) → unsigned_abs a ≤ m → unsigned_abs b ≤ n → m + n ≤ k → k ≤ 2 ^ 30 - 1
    → unsigned_abs (to_z w32 (of_z w32 (to_z w32 (of_z w32 a) -ℤ to_z w32 (of_z w32 b)))) ≤ k
subtracts_bound a b k m n p q s t = omega (arith, ints)

pub adds_bound : (a b : ℤ) (k m n : ℕ) → unsigned_abs a ≤ m → unsigned_abs b ≤ n → m + n ≤ k → k ≤ 2 ^ 30 - 1
    → unsigned_abs (to_z w32 (of_z w32 (to_z w32 (of_z w32 a) +ℤ to_z w32 (of_z w32 b)))) ≤ k
adds_bound a b k m n p q s t = omega (arith, ints)

-- a running sum takes one more part
pub takes_one : (total part was now whole : ℤ) (k : ℕ) → k < 4 → unsigned_abs total ≤ 8388608 * k → unsigned_abs part ≤ 8388608
    → total +ℤ was ≡ whole → was ≡ part +ℤ now
    → to_z w32 (of_z w32 (to_z w32 (of_z w32 total) +ℤ to_z w32 (of_z w32 part))) +ℤ now ≡ whole
takes_one total part was now whole k few b c e f = omega (arith, ints)

pub takes_one-bound : (total part : ℤ) (k : ℕ) → k < 4 → unsigned_abs total ≤ 8388608 * k → unsigned_abs part ≤ 8388608
    → unsigned_abs (to_z w32 (of_z w32 (to_z w32 (of_z w32 total) +ℤ to_z w32 (of_z w32 part)))) ≤ 8388608 * (k + 1)
takes_one-bound total part k few b c = omega (arith, ints)

-- nothing more is added
pub takes_none : (total was whole : ℤ) → was ≡ pos 0 → total +ℤ was ≡ whole → total ≡ whole
takes_none total was whole e f = omega (arith, ints)
