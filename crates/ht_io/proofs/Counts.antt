-- Counts of faults, over several calls.
use Rattle.std.proofs.Common.{ℕ, ◌<◌, ◌≤◌, ◌⊎◌, arith}
use Rattle.ht_io.specs.Causes.{HasRisen, last_count, one_more}

-- one more fault is a rise
pub rose-one_more : (count : ℕ) → HasRisen count (one_more count)
rose-one_more count = omega arith

-- what rose in an earlier part rose in the whole
pub rose-earlier : (before between now : ℕ) → HasRisen before between → between ≤ now → HasRisen before now
rose-earlier before between now p q = omega arith

-- what rose in a later part rose in the whole
pub rose-later : (before between now : ℕ) → before ≤ between → HasRisen between now → HasRisen before now
rose-later before between now p q = omega arith

-- a rise is a greater count, or the last value or more
pub rose-greater : (before now : ℕ) → before < now → HasRisen before now
rose-greater before now p = omega arith

pub rose-last : (before now : ℕ) → last_count ≤ now → HasRisen before now
rose-last before now p = omega arith

pub rose_cases : (before now : ℕ) → HasRisen before now → (before < now) ⊎ (last_count ≤ now)
rose_cases before now p = grind arith
