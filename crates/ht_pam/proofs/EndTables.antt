-- What masks allow, mask by mask.
use Rattle.std.proofs.Common.{◌∙◌, ◌≡◌, ℕ, zero, suc, ◌+◌, ◌-◌, ◌*◌, ◌^◌, ◌<◌, ◌≤◌, ℤ, pos, ◌+ℤ◌, List}
use Rattle.std.proofs.Common.{[], ◌∷◌, ◌++◌, length, Bool, true, ◌&&◌, refl, sym, arith, subst}
use Rattle.std.specs.Prelude.{nat_lt, ◌==◌, if◌then◌else◌}
use Rattle.std.specs.Int.{bit_at}
use Rattle.std.specs.Int.Bits.{bit_and}
use Rattle.std.specs.Int.Signed.{lt_z}
use Rattle.std.specs.Cmp.Rules.{signed_items}
use Rattle.std.specs.Ordering.{int_eq}
use Rattle.std.proofs.lemmas.Bool.{and_parts, ltb-true, eqb-true, cond-true}
use lib.Count.{count_leading_zeros, count_trailing_zeros}
use lib.Pointwise.{pointwise}
use Rattle.ht_pam.specs.Ladders.{level}
use Rattle.ht_pam.specs.Ends.{levels_in, top, bottom}
use Rattle.ht_pam.proofs.Tables.{IsSize, AllMasks, of_sizes, of_mask, all_below, at_below}

abbrev same : List ℤ → List ℤ → Bool
same xs ys = pointwise int_eq xs ys

-- a mask of no level, or one whose highest level is below a place, or whose lowest one is above it
abbrev before : ℕ → ℕ → Bool
before zero place = true
before (suc mask) place = nat_lt (top (suc mask)) place

abbrev behind : ℕ → ℕ → Bool
behind zero place = true
behind (suc mask) place = nat_lt place (bottom (suc mask))

-- the highest level is the last one, and the lowest one the first
unfoldable ended : ℕ → ℕ → Bool
ended size less =
    let mask = suc less in
    nat_lt (top mask) size && (nat_lt (bottom mask) size && (nat_lt (2 ^ top mask) (suc mask) && (nat_lt (2 ^ bottom mask) (suc mask)
    && (same (levels_in size mask) (levels_in size (mask - 2 ^ top mask) ++ level size (top mask) ∷ [])
    && (same (levels_in size mask) (level size (bottom mask) ∷ levels_in size (mask - 2 ^ bottom mask))
    && (before (mask - 2 ^ top mask) (top mask) && behind (mask - 2 ^ bottom mask) (bottom mask)))))))

all_ended : AllMasks ended
unfolding all_below ended count_leading_zeros count_trailing_zeros
all_ended = (refl, refl, refl, refl)

pub record HasEnds (size mask : ℕ) : Type 0 where
  pub top_within : top mask < size
  pub bottom_within : bottom mask < size
  pub top_in : 2 ^ top mask ≤ mask
  pub bottom_in : 2 ^ bottom mask ≤ mask
  pub last : levels_in size mask ≡ levels_in size (mask - 2 ^ top mask) ++ level size (top mask) ∷ []
  pub first : levels_in size mask ≡ level size (bottom mask) ∷ levels_in size (mask - 2 ^ bottom mask)
  pub lower : 0 < mask - 2 ^ top mask → top (mask - 2 ^ top mask) < top mask
  pub higher : 0 < mask - 2 ^ bottom mask → bottom mask < bottom (mask - 2 ^ bottom mask)

before_is : (mask place : ℕ) → before mask place ≡ true → 0 < mask → top mask < place
before_is zero place h some = absurd (omega arith)
before_is (suc mask) place h some = ltb-true (top (suc mask)) place h

behind_is : (mask place : ℕ) → behind mask place ≡ true → 0 < mask → place < bottom mask
behind_is zero place h some = absurd (omega arith)
behind_is (suc mask) place h some = ltb-true place (bottom (suc mask)) h

shown : (size less : ℕ) → ended size less ≡ true → HasEnds size (suc less)
unfolding ended
shown size less h =
    let mask = suc less in
    let a = and_parts (nat_lt (top mask) size) _ h in
    let b = and_parts (nat_lt (bottom mask) size) _ a.1 in
    let c = and_parts (nat_lt (2 ^ top mask) (suc mask)) _ b.1 in
    let d = and_parts (nat_lt (2 ^ bottom mask) (suc mask)) _ c.1 in
    let e = and_parts (same (levels_in size mask) (levels_in size (mask - 2 ^ top mask) ++ level size (top mask) ∷ [])) _ d.1 in
    let f = and_parts (same (levels_in size mask) (level size (bottom mask) ∷ levels_in size (mask - 2 ^ bottom mask))) _ e.1 in
    let g = and_parts (before (mask - 2 ^ top mask) (top mask)) (behind (mask - 2 ^ bottom mask) (bottom mask)) f.1 in
    let t : 2 ^ top mask < suc mask = ltb-true (2 ^ top mask) (suc mask) c.0 in
    let u : 2 ^ bottom mask < suc mask = ltb-true (2 ^ bottom mask) (suc mask) d.0 in
    record {
      top_within = ltb-true (top mask) size a.0;
      bottom_within = ltb-true (bottom mask) size b.0;
      top_in = omega arith;
      bottom_in = omega arith;
      last = (signed_items (levels_in size mask) (levels_in size (mask - 2 ^ top mask) ++ level size (top mask) ∷ [])).0 e.0;
      first = (signed_items (levels_in size mask) (level size (bottom mask) ∷ levels_in size (mask - 2 ^ bottom mask))).0 f.0;
      lower = before_is (mask - 2 ^ top mask) (top mask) g.0;
      higher = behind_is (mask - 2 ^ bottom mask) (bottom mask) g.1;
    }

-- each mask with a level has a highest and a lowest one
pub ends : (size mask : ℕ) → IsSize size → 0 < mask → mask < 2 ^ size → HasEnds size mask
ends size mask is some within =
    let back : suc (mask - 1) ≡ mask = omega arith in
    subst (HasEnds size) back (shown size (mask - 1) (of_mask ended all_ended size mask is some within))

-- a place cuts a mask in two
abbrev pub lower_part : ℕ → ℕ → ℕ
lower_part mask at = bit_and mask (2 * 2 ^ at - 1)

-- all levels are above a number, or below it; and no two are neighbours
abbrev pub over : ℤ → List ℤ → Bool
over c [] = true
over c (x ∷ xs) = lt_z c x && over c xs

abbrev pub under : ℤ → List ℤ → Bool
under c [] = true
under c (x ∷ xs) = lt_z x c && under c xs

abbrev pub spaced : List ℤ → Bool
spaced [] = true
spaced (x ∷ xs) = over (x +ℤ pos 1) xs && spaced xs

-- a place that is allowed is the highest one of those up to it
abbrev highest_at : ℕ → ℕ → ℕ → Bool
highest_at mask low at = if bit_at mask at == 1 then nat_lt 0 low && (top low == at) else true

unfoldable parted : ℕ → ℕ → ℕ → Bool
parted at size less =
    let mask = suc less in
    let low = lower_part mask at in
    let lower = levels_in size low in
    let higher = levels_in size (mask - low) in
    nat_lt low (suc mask) && (nat_lt (length lower) (at + 2) && (nat_lt (length higher + at) size
    && (same (levels_in size mask) (lower ++ higher) && (before low (suc at) && (behind (mask - low) at
    && (highest_at mask low at && (spaced lower && (under (level size at +ℤ pos 1) lower && (spaced higher && over (level size at +ℤ pos 1) higher)))))))))

unfoldable parted_at : ℕ → ℕ → ℕ → Bool
parted_at size n less = all_below (λ at. parted at size less) n

all_parted : AllMasks (λ n less. parted_at n n less)
unfolding all_below parted_at parted count_leading_zeros count_trailing_zeros
all_parted = (refl, refl, refl, refl)

pub record IsParted (size mask at low : ℕ) : Type 0 where
  pub within : low ≤ mask
  pub few : length (levels_in size low) ≤ at + 1
  pub rest : length (levels_in size (mask - low)) + at < size
  pub all : levels_in size mask ≡ levels_in size low ++ levels_in size (mask - low)
  pub below : 0 < low → top low < suc at
  pub above : 0 < mask - low → at < bottom (mask - low)
  pub highest : (bit_at mask at == 1) ≡ true → (0 < low) × (top low ≡ at)
  pub low_spaced : spaced (levels_in size low) ≡ true
  pub low_under : under (level size at +ℤ pos 1) (levels_in size low) ≡ true
  pub high_spaced : spaced (levels_in size (mask - low)) ≡ true
  pub high_over : over (level size at +ℤ pos 1) (levels_in size (mask - low)) ≡ true

is_highest : (mask low at : ℕ) → highest_at mask low at ≡ true → (bit_at mask at == 1) ≡ true → (0 < low) × (top low ≡ at)
is_highest mask low at h set =
    let both = and_parts (nat_lt 0 low) (top low == at) (sym (cond-true (bit_at mask at == 1) (nat_lt 0 low && (top low == at)) true set) ∙ h) in
    (ltb-true 0 low both.0, eqb-true (top low) at both.1)

seen : (size less at : ℕ) → parted at size less ≡ true → IsParted size (suc less) at (lower_part (suc less) at)
unfolding parted
seen size less at h =
    let mask = suc less in
    let low = lower_part mask at in
    let lower = levels_in size low in
    let higher = levels_in size (mask - low) in
    let a = and_parts (nat_lt low (suc mask)) _ h in
    let b = and_parts (nat_lt (length lower) (at + 2)) _ a.1 in
    let c = and_parts (nat_lt (length higher + at) size) _ b.1 in
    let d = and_parts (same (levels_in size mask) (lower ++ higher)) _ c.1 in
    let e = and_parts (before low (suc at)) _ d.1 in
    let f = and_parts (behind (mask - low) at) _ e.1 in
    let hi = and_parts (highest_at mask low at) _ f.1 in
    let g = and_parts (spaced lower) _ hi.1 in
    let i = and_parts (under (level size at +ℤ pos 1) lower) _ g.1 in
    let j = and_parts (spaced higher) (over (level size at +ℤ pos 1) higher) i.1 in
    let t : low < suc mask = ltb-true low (suc mask) a.0 in
    let u : length lower < at + 2 = ltb-true (length lower) (at + 2) b.0 in
    record {
      within = omega arith;
      few = omega arith;
      rest = ltb-true (length higher + at) size c.0;
      all = (signed_items (levels_in size mask) (lower ++ higher)).0 d.0;
      below = before_is low (suc at) e.0;
      above = behind_is (mask - low) at f.0;
      highest = is_highest mask low at hi.0;
      low_spaced = g.0;
      low_under = i.0;
      high_spaced = j.0;
      high_over = j.1;
    }

-- cut at a level, a mask allows lower levels and higher ones
pub parts : (size mask at : ℕ) → IsSize size → 0 < mask → mask < 2 ^ size → at < size → IsParted size mask at (lower_part mask at)
unfolding parted_at
parts size mask at is some within below =
    let back : suc (mask - 1) ≡ mask = omega arith in
    let row : parted_at size size (mask - 1) ≡ true = of_mask (λ n less. parted_at n n less) all_parted size mask is some within in
    subst (λ (m : ℕ). IsParted size m at (lower_part m at)) back (seen size (mask - 1) at (at_below (λ (k : ℕ). parted k size (mask - 1)) size at row below))

-- no level is left of none
pub nothing : (size : ℕ) → IsSize size → levels_in size 0 ≡ []
nothing = of_sizes (λ n. levels_in n 0 ≡ []) (refl, refl, refl, refl)
