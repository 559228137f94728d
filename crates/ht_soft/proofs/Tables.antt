-- The table of the levels of which a label bit has a given value, by one test of all its entries.
use Rattle.std.proofs.Common.{◌≡◌, ℕ, suc, ◌-◌, ◌/◌, ◌^◌, ◌<◌, ◌≤◌, [], length, slice_index_or, Bool, true, false, ◌&&◌, nat_eq, nat_lt}
use Rattle.std.proofs.Common.{refl, subst, arith}
use Rattle.std.specs.Prelude.{bit_and}
use Rattle.std.proofs.lemmas.Bool.{agree_below, agree_below_at, and_parts, eqb-true, ltb-true}
use Rattle.ht_soft.specs.declared.halves.TheConstants.{ONES}
use Rattle.ht_soft.specs.Halves.{axis_named, cut_axis}

-- the levels of which the bit is 1, by the table
abbrev pub ones_at : ℕ → ℕ → ℕ
ones_at row k = slice_index_or (slice_index_or ONES row []) k 0

-- those of which it has a value, where this many levels are named: of the others it is 0
abbrev pub mask_at : Bool → ℕ → ℕ → ℕ → ℕ
mask_at true size row k = ones_at row k
mask_at false size row k = bit_and (255 - ones_at row k) (255 / 2 ^ (8 - size))

-- what the code needs of a mask
pub record IsMask (value : Bool) (count k mask : ℕ) : Type 0 where
  pub value_is : mask ≡ (cut_axis (axis_named count) count k value).mask
  pub within : mask < 2 ^ length (axis_named count)

abbrev entry_of : Bool → ℕ → ℕ → ℕ
entry_of value count k = mask_at value (length (axis_named count)) (count - 1) k

unfoldable is_mask : Bool → ℕ → ℕ → Bool
is_mask value row k =
    nat_eq (entry_of value (suc row) k) (cut_axis (axis_named (suc row)) (suc row) k value).mask
    && nat_lt (entry_of value (suc row) k) (2 ^ length (axis_named (suc row)))

unfoldable are_masks : Bool → ℕ → Bool
are_masks value row = agree_below (is_mask value row) (λ _. true) (suc row)

tests : (value : Bool) → agree_below (are_masks value) (λ _. true) 3 ≡ true
unfolding are_masks is_mask cut_axis axis_named
tests true = refl
tests false = refl

in_row : (value : Bool) (row k : ℕ) → row < 3 → k < suc row → is_mask value row k ≡ true
unfolding are_masks
in_row value row k few below =
    agree_below_at (is_mask value row) (λ _. true) (suc row) k
    (agree_below_at (are_masks value) (λ _. true) 3 row (tests value) few) below

made : (value : Bool) (row k : ℕ) → is_mask value row k ≡ true → IsMask value (suc row) k (entry_of value (suc row) k)
unfolding is_mask
made value row k e =
    let mask = entry_of value (suc row) k in
    let parts = and_parts (nat_eq mask (cut_axis (axis_named (suc row)) (suc row) k value).mask) _ e in
    record { value_is = eqb-true _ _ parts.0; within = ltb-true _ _ parts.1 }

-- each entry is the mask of its bit
pub entry : (value given : Bool) (count k row at size : ℕ) → given ≡ value → count ≤ 3 → k < count → row ≡ count - 1 → at ≡ k
    → size ≡ length (axis_named count) → IsMask given count k (mask_at value size row at)
entry value given count k row at size is few below row_is at_is size_is =
    let count_is : suc row ≡ count = omega arith in
    let there : IsMask value (suc row) k (entry_of value (suc row) k) = made value row k (in_row value row k (omega arith) (omega arith)) in
    rw (at_is, is, size_is, row_is) (subst (λ (n : ℕ). IsMask value n k (entry_of value n k)) count_is there)
